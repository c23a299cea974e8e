-- What is so, or not so.
use Rattle.std.proofs.Common.{◌≡◌, ◌⊎◌, ℕ, ◌<◌, Bool, true, false, List, [], ◌∷◌, refl, ap, ◌∙◌, inl, inr, arith}
use Rattle.std.specs.Str.{IsUtf8, is_utf8}
use Rattle.std.proofs.lemmas.Bool.{cases_Bool, cases_eq, cases_lt}
use Rattle.std.proofs.lemmas.Str.{IsUtf8-from_is_utf8, is_utf8-from_IsUtf8}
use Rattle.asm_lines.proofs.Escapes.{heads, tails}

-- so, or not so
abbrev pub Decided : Type 0 → Type 0
Decided A = A ⊎ (A → ⊥)

pub both_decided : {A B : Type 0} → Decided A → Decided B → Decided (A × B)
both_decided (inl a) (inl b) = inl (a, b)
both_decided (inl a) (inr refuted) = inr (λ x. refuted x.1)
both_decided (inr refuted) b = inr (λ x. refuted x.0)

pub either_decided : {A B : Type 0} → Decided A → Decided B → Decided (A ⊎ B)
either_decided (inl a) b = inl (inl a)
either_decided (inr refuted) (inl b) = inl (inr b)
either_decided {A = A} {B = B} (inr no_a) (inr no_b) = inr none where
  none : A ⊎ B → ⊥
  none (inl a) = no_a a
  none (inr b) = no_b b

pub as_well : {A B : Type 0} → (A → B) → (B → A) → Decided A → Decided B
as_well to back (inl a) = inl (to a)
as_well to back (inr refuted) = inr (λ b. refuted (back b))

pub none_decided : {A : Type 0} → Decided A → Decided (A → ⊥)
none_decided (inl a) = inr (λ refuted. refuted a)
none_decided (inr refuted) = inl refuted

pub less : (m n : ℕ) → Decided (m < n)
less m n =
    elim (cases_lt m n) [
      | inl lt ↦ inl lt
      | inr ge ↦ inr (λ lt. omega arith)
    ]

pub passes : (b : Bool) → Decided (b ≡ true)
passes true = inl refl
passes false = inr (λ e. cc)

pub utf8_decided : (line : List ℕ) → Decided (IsUtf8 line)
utf8_decided line =
    elim (cases_Bool (is_utf8 line)) [
      | inl passes ↦ inl (IsUtf8-from_is_utf8 line passes)
      | inr refuted ↦ inr (λ is. let passes = is_utf8-from_IsUtf8 line is in cc)
    ]

pub same_word : (a b : List ℕ) → Decided (a ≡ b)
same_word [] [] = inl refl
same_word [] (y ∷ b) = inr (λ e. cc)
same_word (x ∷ a) [] = inr (λ e. cc)
same_word (x ∷ a) (y ∷ b) =
    elim (cases_eq x y) [
      | inl first ↦ elim (same_word a b) [
        | inl rest ↦ inl (ap (λ (n : ℕ). n ∷ a) first ∙ ap (λ (l : List ℕ). y ∷ l) rest)
        | inr refuted ↦ inr (λ e. refuted (tails x y a b e))
      ]
      | inr refuted ↦ inr (λ e. refuted (heads x y a b e))
    ]
