-- Steps of the search for the fields of a logical immediate.
use Rattle.std.proofs.Common.{◌≡◌, ℕ, ◌+◌, ◌<◌, ◌==◌, Bool, true, false, Option, Some, refl, ap, sym, subst, ◌∙◌, inl, inr, arith}
use Rattle.std.specs.Option.{option_eq}
use lib.Dec.{eqb}
use Rattle.std.proofs.lemmas.Bool.Decides.{Decides-eqb}
use Rattle.std.proofs.lemmas.Bool.{cases_lt}

pub kept_below : (P : ℕ → Type 0) (k : ℕ) → ((f : ℕ) → f < k → P f → ⊥) → (P k → ⊥) → (f : ℕ) → f < k + 1 → P f → ⊥
kept_below P k below here f lt p = elim (cases_lt f k) [
  | inl less ↦ below f less p
  | inr more ↦ let same : f ≡ k = omega arith in here (subst P same p)
]

-- a test of two options has told
pub unequal : (r : Option ℕ) (v : ℕ) (t : Bool) → t ≡ false → t ≡ option_eq eqb r (Some v) → r ≡ Some v → ⊥
unequal r v t told test e =
    let same : option_eq eqb r (Some v) ≡ (v == v) = ap (λ (o : Option ℕ). option_eq eqb o (Some v)) e in
    let wrong : false ≡ true = sym told ∙ test ∙ same ∙ (Decides-eqb v v).1 refl in
    absurd cc
