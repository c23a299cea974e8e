-- A piece by the texts before and behind its slot.
use Rattle.std.proofs.Common.{◌≡◌, ℕ, ◌+◌, ◌<◌, ◌==◌, Bool, true, false, List, ◌++◌, Option, Some, None, IfNone, refl, ap, sym, subst, ◌∙◌, inl, inr, arith}
use Rattle.std.specs.Option.{option_eq}
use lib.Dec.{eqb}
use Rattle.std.proofs.lemmas.Bool.Decides.{Decides-eqb}
use Rattle.std.proofs.lemmas.Bool.{cases_lt}
use Rattle.std.proofs.lemmas.List.{append_cancel_left, append_cancel_right}
use Rattle.a64_forms.specs.declared.form.Slot.{Slot}
use Rattle.a64_forms.specs.declared.form.Numbers.{Numbers}
use Rattle.a64_forms.specs.Spelling.{IsPiece, IsSlot, Spelled, piece}

pub piece_none : {A : Type 0} (n : Numbers) (first last text inside : List ℕ) (slot : Slot) (r : Option A) → text ≡ first ++ inside ++ last → IfNone r ((s : Spelled) → IsSlot n slot inside s → ⊥) → IfNone r ((s : Spelled) → IsPiece n (piece first slot last) text s → ⊥)
piece_none n first last text inside slot (Some x) e none = tt
piece_none n first last text inside slot None e none = λ s p.
    let same : p.0 ≡ inside = append_cancel_left first p.0 inside (append_cancel_right (first ++ p.0) (first ++ inside) last (sym p.1 ∙ e)) in
    none s (subst (λ (t : List ℕ). IsSlot n slot t s) same p.2)

pub kept_below : (P : ℕ → Type 0) (k : ℕ) → ((f : ℕ) → f < k → P f → ⊥) → (P k → ⊥) → (f : ℕ) → f < k + 1 → P f → ⊥
kept_below P k below here f lt p = elim (cases_lt f k) [
  | inl less ↦ below f less p
  | inr more ↦ let same : f ≡ k = omega arith in here (subst P same p)
]

-- a test of two options has told
pub unequal : (r : Option ℕ) (v : ℕ) (t : Bool) → t ≡ false → t ≡ option_eq eqb r (Some v) → r ≡ Some v → ⊥
unequal r v t told test e =
    let same : option_eq eqb r (Some v) ≡ (v == v) = ap (λ (o : Option ℕ). option_eq eqb o (Some v)) e in
    let wrong : false ≡ true = sym told ∙ test ∙ same ∙ (Decides-eqb v v).1 refl in
    absurd cc

-- what holds of any answer holds where there is none
pub any_none : {A : Type 0} (r : Option A) (P : Type 0) → P → IfNone r P
any_none (Some x) P p = tt
any_none None P p = p
