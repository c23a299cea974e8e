-- Pieces one by one.
use Rattle.std.proofs.Common.{◌≡◌, ℕ, ◌<◌, ◌≤◌, List, [], ◌∷◌, map, length, Option, None, sym, subst, refl, arith}
use Rattle.a64_forms.specs.declared.form.Numbers.{Numbers}
use Rattle.a64_forms.specs.Spelling.{ArePieces, IsPiece, Piece, Spelled, both, spelled}

pub empty_pieces : (n : Numbers) (texts : List (List ℕ)) → length texts < 1 → ArePieces n [] texts (spelled 0 None)
unfolding ArePieces
empty_pieces n [] h = refl
empty_pieces n (text ∷ texts) h = absurd (omega (arith, h))

pub no_empty_pieces : (n : Numbers) (texts : List (List ℕ)) → 1 ≤ length texts → (s : Spelled) → ArePieces n [] texts s → ⊥
unfolding ArePieces
no_empty_pieces n [] h s p = absurd (omega (arith, h))
no_empty_pieces n (text ∷ texts) h s p = p

-- the first piece, and the rest
first_and_rest : (n : Numbers) (p : Piece) (ps : List Piece) (text : List ℕ) (texts : List (List ℕ)) (s : Spelled) → ArePieces n (p ∷ ps) (text ∷ texts) s
    → (a : Spelled) × (b : Spelled) × IsPiece n p text a × ArePieces n ps texts b × (s ≡ both a b)
unfolding ArePieces
first_and_rest n p ps text texts s h = h

split : {A : Type 0} (n : Numbers) (rows rest : List A) (row : A) (F : A → Piece) (texts later : List (List ℕ)) (text : List ℕ) → rows ≡ row ∷ rest → texts ≡ text ∷ later → (s : Spelled) → ArePieces n (map F rows) texts s
    → (a : Spelled) × (b : Spelled) × IsPiece n (F row) text a × ArePieces n (map F rest) later b × (s ≡ both a b)
split {A} n rows rest row F texts later text e e' s p =
    first_and_rest n
    (F row) (map F rest) text later s
    (subst (λ (ts : List (List ℕ)). ArePieces n (map F (row ∷ rest)) ts s) e' (subst (λ (rs : List A). ArePieces n (map F rs) texts s) e p))

pub pieces_some : {A : Type 0} (n : Numbers) (rows rest : List A) (row : A) (F : A → Piece) (texts later : List (List ℕ)) (text : List ℕ) (a b s : Spelled) → rows ≡ row ∷ rest → texts ≡ text ∷ later → IsPiece n (F row) text a → ArePieces n (map F rest) later b → s ≡ both a b → ArePieces n (map F rows) texts s
unfolding ArePieces
pieces_some {A} n rows rest row F texts later text a b s e e' p q same =
    subst (λ (rs : List A). ArePieces n (map F rs) texts s) (sym e) (subst (λ (ts : List (List ℕ)). ArePieces n (map F (row ∷ rest)) ts s) (sym e') (a, b, p, q, same))

pub no_first : {A : Type 0} (n : Numbers) (rows rest : List A) (row : A) (F : A → Piece) (texts later : List (List ℕ)) (text : List ℕ) → rows ≡ row ∷ rest → texts ≡ text ∷ later → ((a : Spelled) → IsPiece n (F row) text a → ⊥) → (s : Spelled) → ArePieces n (map F rows) texts s → ⊥
no_first n rows rest row F texts later text e e' none s p = let q = split n rows rest row F texts later text e e' s p in none q.0 q.2

pub no_rest : {A : Type 0} (n : Numbers) (rows rest : List A) (row : A) (F : A → Piece) (texts later : List (List ℕ)) (text : List ℕ) → rows ≡ row ∷ rest → texts ≡ text ∷ later → ((b : Spelled) → ArePieces n (map F rest) later b → ⊥) → (s : Spelled) → ArePieces n (map F rows) texts s → ⊥
no_rest n rows rest row F texts later text e e' none s p = let q = split n rows rest row F texts later text e e' s p in none q.1 q.3

pub no_text : {A : Type 0} (n : Numbers) (rows rest : List A) (row : A) (F : A → Piece) (texts : List (List ℕ)) → rows ≡ row ∷ rest → length texts ≡ 0 → (s : Spelled) → ArePieces n (map F rows) texts s → ⊥
unfolding ArePieces
no_text {A} n rows rest row F [] e none s p = subst (λ (rs : List A). ArePieces n (map F rs) [] s) e p
no_text {A} n rows rest row F (text ∷ texts) e none s p = absurd (omega (arith, none))
