-- A record for each element of a list.
use Rattle.std.proofs.Common.{◌≡◌, ℕ, ◌+◌, cond, List, [], ◌∷◌, ◌++◌, length, map, Option, Some, refl, sym, ap, subst, ◌∙◌}
use Rattle.std.specs.List.{AllByRecursion, flat_map, filter_map, cons_option}
use Rattle.std.proofs.lemmas.Bool.{eq-eqb}
use Rattle.gt_read.specs.Pieces.{Piece}
use Rattle.gt_read.specs.Kinds.{of_number}
use Rattle.gt_write.proofs.Walking.{Walks, walks_nil, walks_append}

-- the relation holds of each two elements at the same place
abbrev pub Pairs : {A B : Type 0} → (A → B → Type 0) → List A → List B → Type 0
Pairs Q [] [] = Unit {0}
Pairs Q [] (b ∷ bs) = ⊥
Pairs Q (a ∷ xs) [] = ⊥
Pairs Q (a ∷ xs) (b ∷ bs) = Q a b × Pairs Q xs bs

-- one record of the number spells the element
pub record OneBack {A : Type 0} (spell : A → List ℕ) (number : ℕ) (Q : A → Piece → Type 0) (a : A) (base : ℕ) : Type 0 where
  pub piece : Piece
  pub walks : Walks (spell a) base (piece ∷ [])
  pub number_is : piece.number ≡ number
  pub means : Q a piece

pub record EachBack {A : Type 0} (spell : A → List ℕ) (number : ℕ) (Q : A → Piece → Type 0) (xs : List A) (base : ℕ) : Type 0 where
  pub ps : List Piece
  pub walks : Walks (flat_map spell xs) base ps
  pub numbers : AllByRecursion (λ p. p.number ≡ number) ps
  pub pairs : Pairs Q xs ps

module _ {A : Type 0} (P : A → Type 0) (spell : A → List ℕ) (number : ℕ) (Q : A → Piece → Type 0) where
  pub each_back : ((a : A) (base : ℕ) → P a → OneBack spell number Q a base) → (xs : List A) (base : ℕ) → AllByRecursion P xs → EachBack spell number Q xs base
  each_back one [] base all = record { ps = []; walks = walks_nil base; numbers = tt; pairs = tt }
  each_back one (a ∷ xs) base all =
      let first = one a base all.0 in
      let rest = each_back one xs (base + length (spell a)) all.1 in
      record {
        ps = first.piece ∷ rest.ps;
        walks = walks_append (spell a) (flat_map spell xs) base (first.piece ∷ []) rest.ps first.walks rest.walks;
        numbers = (first.number_is, rest.numbers);
        pairs = (first.means, rest.pairs);
      }

-- records of one number are those of the number
pub all_of_number : (number : ℕ) (ps : List Piece) → AllByRecursion (λ p. p.number ≡ number) ps → of_number number ps ≡ ps
all_of_number number [] all = refl
all_of_number number (p ∷ ps) all = ap (λ b. cond b (p ∷ of_number number ps) (of_number number ps)) (eq-eqb _ _ all.0) ∙ ap (λ (l : List Piece). p ∷ l) (all_of_number number ps all.1)

-- ---- what follows for the whole list

module _ {A B C : Type 0} (read : B → Option C) (Q : A → C → Type 0) where
  abbrev Reads : A → B → Type 0
  Reads a b = (c : C) × (read b ≡ Some c) × Q a c

  pub pairs_read : (xs : List A) (bs : List B) → Pairs (λ a b. (c : C) × (read b ≡ Some c) × Q a c) xs bs → Pairs Q xs (filter_map read bs)
  pairs_read [] [] h = tt
  pairs_read [] (b ∷ bs) h = absurd h
  pairs_read (a ∷ xs) [] h = absurd h
  pairs_read (a ∷ xs) (b ∷ bs) h =
      subst (λ (l : List C). Pairs Q (a ∷ xs) l) (sym (ap (λ o. cons_option o (filter_map read bs)) h.0.1)) (h.0.2, pairs_read xs bs h.1)

pub pairs_map : {A C : Type 0} (value : C → A) (xs : List A) (cs : List C) → Pairs (λ a c. value c ≡ a) xs cs → map value cs ≡ xs
pairs_map value [] [] h = refl
pairs_map value [] (c ∷ cs) h = absurd h
pairs_map value (a ∷ xs) [] h = absurd h
pairs_map value (a ∷ xs) (c ∷ cs) h = λ i. h.0 i ∷ pairs_map value xs cs h.1 i

pub pairs_none : {A C F : Type 0} (bad : C → List F) (xs : List A) (cs : List C) → Pairs (λ a c. bad c ≡ []) xs cs → flat_map bad cs ≡ []
pairs_none bad [] [] h = refl
pairs_none bad [] (c ∷ cs) h = absurd h
pairs_none bad (a ∷ xs) [] h = absurd h
pairs_none bad (a ∷ xs) (c ∷ cs) h = λ i. h.0 i ++ pairs_none bad xs cs h.1 i

pub pairs_all : {A B : Type 0} (P : B → Type 0) (xs : List A) (bs : List B) → Pairs (λ a b. P b) xs bs → AllByRecursion P bs
pairs_all P [] [] h = tt
pairs_all P [] (b ∷ bs) h = absurd h
pairs_all P (a ∷ xs) [] h = absurd h
pairs_all P (a ∷ xs) (b ∷ bs) h = (h.0, pairs_all P xs bs h.1)

pub pairs_weaker : {A B : Type 0} (Q R : A → B → Type 0) → ((a : A) (b : B) → Q a b → R a b) → (xs : List A) (bs : List B) → Pairs Q xs bs → Pairs R xs bs
pairs_weaker Q R f [] [] h = tt
pairs_weaker Q R f [] (b ∷ bs) h = absurd h
pairs_weaker Q R f (a ∷ xs) [] h = absurd h
pairs_weaker Q R f (a ∷ xs) (b ∷ bs) h = (f a b h.0, pairs_weaker Q R f xs bs h.1)

-- through a function on one side
pub pairs_mapped : {A B C : Type 0} (f : B → C) (Q : A → C → Type 0) (xs : List A) (bs : List B) → Pairs (λ a b. Q a (f b)) xs bs → Pairs Q xs (map f bs)
pairs_mapped f Q [] [] h = tt
pairs_mapped f Q [] (b ∷ bs) h = absurd h
pairs_mapped f Q (a ∷ xs) [] h = absurd h
pairs_mapped f Q (a ∷ xs) (b ∷ bs) h = (h.0, pairs_mapped f Q xs bs h.1)
