-- Whether some value has a property that is decided of each.
use Rattle.std.proofs.Common.{◌≡◌, ◌⊎◌, ℕ, zero, suc, ◌<◌, Option, Some, None, List, [], ◌∷◌, ◌++◌, refl, sym, ap, subst, inl, inr, arith}
use Rattle.std.proofs.lemmas.Bool.{cases_eq, cases_lt}
use Rattle.asm_lines.proofs.Decisions.{Decided, as_well, either_decided}
use Rattle.asm_lines.proofs.Escapes.{heads, tails}

-- what stands behind a first byte
pub headed : (b : ℕ) (P : List ℕ → Type 0) → ((rest : List ℕ) → Decided (P rest)) → (text : List ℕ) → Decided ((rest : List ℕ) × (text ≡ b ∷ rest) × P rest)
headed b P decide [] = inr (λ x. let e = x.1 in cc)
headed b P decide (c ∷ text) =
    elim (cases_eq c b) [
      | inl same ↦ as_well (λ p. (text, ap (λ (n : ℕ). n ∷ text) same, p)) (λ x. subst P (sym (tails c b text x.0 x.1)) x.2) (decide text)
      | inr other ↦ inr (λ x. other (heads c b text x.0 x.1))
    ]

-- what an option holds
pub some_with : {A : Type 0} (P : A → Type 0) → ((a : A) → Decided (P a)) → (o : Option A) → Decided ((a : A) × (o ≡ Some a) × P a)
some_with P decide None = inr (λ x. let e = x.1 in cc)
some_with {A = A} P decide (Some a) = as_well (λ p. (a, refl, p)) (λ x. subst P (sym (inside a x.0 x.1)) x.2) (decide a) where
  inside : (a b : A) → Some a ≡ Some b → a ≡ b
  inside a b e = cc

-- a split of a text
pub split_with : (P : List ℕ → List ℕ → Type 0) → ((a b : List ℕ) → Decided (P a b)) → (text : List ℕ) → Decided ((a : List ℕ) × (b : List ℕ) × (text ≡ a ++ b) × P a b)
split_with P decide [] = as_well (λ p. ([], [], refl, p)) (λ x. nothing x.0 x.1 x.2 x.3) (decide [] []) where
  nothing : (a b : List ℕ) → [] ≡ a ++ b → P a b → P [] []
  nothing [] b e p = subst (λ (l : List ℕ). P [] l) (sym e) p
  nothing (c ∷ a) b e p = absurd cc
split_with P decide (c ∷ text) = as_well to back (either_decided (decide [] (c ∷ text)) (split_with (λ a b. P (c ∷ a) b) (λ a b. decide (c ∷ a) b) text)) where
  to : P [] (c ∷ text) ⊎ ((a : List ℕ) × (b : List ℕ) × (text ≡ a ++ b) × P (c ∷ a) b) → (a : List ℕ) × (b : List ℕ) × (c ∷ text ≡ a ++ b) × P a b
  to (inl p) = ([], c ∷ text, refl, p)
  to (inr x) = (c ∷ x.0, x.1, ap (λ (l : List ℕ). c ∷ l) x.2, x.3)

  back : (a : List ℕ) × (b : List ℕ) × (c ∷ text ≡ a ++ b) × P a b → P [] (c ∷ text) ⊎ ((a : List ℕ) × (b : List ℕ) × (text ≡ a ++ b) × P (c ∷ a) b)
  back ([], b, e, p) = inl (subst (λ (l : List ℕ). P [] l) (sym e) p)
  back (d ∷ a, b, e, p) = inr (a, b, tails c d text (a ++ b) e, subst (λ (n : ℕ). P (n ∷ a) b) (sym (heads c d text (a ++ b) e)) p)

-- one of two relations
pub either_with : {B : Type 0} (R S P : B → Type 0) → Decided ((b : B) × R b × P b) → Decided ((b : B) × S b × P b) → Decided ((b : B) × (R b ⊎ S b) × P b)
either_with {B = B} R S P one other = as_well to back (either_decided one other) where
  to : ((b : B) × R b × P b) ⊎ ((b : B) × S b × P b) → (b : B) × (R b ⊎ S b) × P b
  to (inl x) = (x.0, inl x.1, x.2)
  to (inr x) = (x.0, inr x.1, x.2)

  back : (b : B) × (R b ⊎ S b) × P b → ((b : B) × R b × P b) ⊎ ((b : B) × S b × P b)
  back (b, inl r, p) = inl (b, r, p)
  back (b, inr s, p) = inr (b, s, p)

-- the first number below a bound
abbrev pub IsFirst : (ℕ → Type 0) → ℕ → ℕ → Type 0
IsFirst P bound n = (n < bound) × P n × ((m : ℕ) → m < n → P m → ⊥)

pub first_below : (P : ℕ → Type 0) → ((n : ℕ) → Decided (P n)) → (bound : ℕ) → ((n : ℕ) × IsFirst P bound n) ⊎ ((n : ℕ) → n < bound → P n → ⊥)
first_below P decide zero = inr (λ n lt p. absurd (omega arith))
first_below P decide (suc bound) =
    elim (first_below P decide bound) [
      | inl x ↦ let below = x.1.0 in inl (x.0, (omega arith, x.1.1, x.1.2))
      | inr none ↦ elim (decide bound) [
        | inl p ↦ inl (bound, (omega arith, p, none))
        | inr refuted ↦ inr (later none refuted)
      ]
    ]
  where
    later : ((n : ℕ) → n < bound → P n → ⊥) → (P bound → ⊥) → (n : ℕ) → n < suc bound → P n → ⊥
    later none refuted n lt p = elim (cases_lt n bound) [
      | inl below ↦ none n below p
      | inr above ↦ let same : n ≡ bound = omega arith in refuted (subst P same p)
    ]
