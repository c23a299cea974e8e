-- Whether a text is a label expression.
use Rattle.std.proofs.Common.{◌≡◌, ◌⊎◌, ℕ, List, [], ◌∷◌, refl, subst, inl, inr, ◌^◌, ℤ, pos, FitsSigned}
use Rattle.std.specs.Int.{w64}
use lib.Signed.{mag}
use Rattle.a64_forms.specs.Number.{IsNumberWord}
use Rattle.asm_lines.specs.declared.expression.Sign.{Sign}
use Rattle.asm_lines.specs.declared.expression.Sign.TheVariants.{Plus, Minus}
use Rattle.asm_lines.specs.declared.line.AsmExpr.{AsmExpr}
use Rattle.asm_lines.specs.declared.line.AsmName.{AsmName}
use Rattle.asm_lines.specs.Expressions.{HasExpressionShape, HasOffsetShape, IsExpression, IsOffset, IsSigned, byte_of, signed}
use Rattle.asm_lines.specs.Labels.{IsLabel}
use Rattle.asm_lines.proofs.Decisions.{Decided, as_well, both_decided, either_decided, less, same_word}
use Rattle.asm_lines.proofs.DecidedLabels.{label}
use Rattle.asm_lines.proofs.DecidedNumbers.{number_with, number_word}
use Rattle.asm_lines.proofs.Searches.{headed, split_with}

fits_signed : (offset : ℤ) → Decided (FitsSigned w64 offset)
fits_signed offset = as_well (λ lt. record { sfits = lt }) (λ fits. fits.sfits) (less (mag offset) (2 ^ 63))

abbrev Signed : Sign → List ℕ → Type 0
Signed sign digits = (offset : ℤ) × IsSigned sign digits offset

signed_digits : (sign : Sign) (digits : List ℕ) → Decided ((offset : ℤ) × IsSigned sign digits offset)
signed_digits sign digits = as_well
    (λ x. (signed sign x.0, (x.0, x.1, refl, x.2)))
    (λ x. (x.1.0, x.1.1, subst (λ (z : ℤ). FitsSigned w64 z) x.1.2 x.1.3))
    (number_with (λ n. FitsSigned w64 (signed sign n)) (λ n. fits_signed (signed sign n)) digits)

-- nothing, or what stands behind a sign
module _ (P : Sign → List ℕ → Type 0) (decide : (sign : Sign) (digits : List ℕ) → Decided (P sign digits)) (text : List ℕ) where
  abbrev Behind : Type 0
  Behind = (sign : Sign) × (digits : List ℕ) × (text ≡ byte_of sign ∷ digits) × P sign digits

  abbrev One : Sign → Type 0
  One sign = (digits : List ℕ) × (text ≡ byte_of sign ∷ digits) × P sign digits

  one : (sign : Sign) → Decided (One sign)
  one sign = headed (byte_of sign) (P sign) (decide sign) text

  behind_sign : Decided Behind
  behind_sign = as_well to back (either_decided (one Plus) (one Minus)) where
    to : One Plus ⊎ One Minus → Behind
    to (inl x) = (Plus, x.0, x.1, x.2)
    to (inr x) = (Minus, x.0, x.1, x.2)

    back : Behind → One Plus ⊎ One Minus
    back (Plus, digits, e, p) = inl (digits, e, p)
    back (Minus, digits, e, p) = inr (digits, e, p)

offset : (text : List ℕ) → Decided ((offset : ℤ) × IsOffset text offset)
offset text = as_well to back (either_decided (same_word text []) (behind_sign Signed signed_digits text)) where
  to : (text ≡ []) ⊎ Behind Signed signed_digits text → (offset : ℤ) × IsOffset text offset
  to (inl e) = (pos 0, inl (e, refl))
  to (inr x) = (x.3.0, inr (x.0, x.1, x.2, x.3.1))

  back : (offset : ℤ) × IsOffset text offset → (text ≡ []) ⊎ Behind Signed signed_digits text
  back (offset, inl x) = inl x.0
  back (offset, inr x) = inr (x.0, x.1, x.2, (offset, x.3))

offset_shape : (text : List ℕ) → Decided (HasOffsetShape text)
offset_shape text = either_decided (same_word text []) (behind_sign (λ sign digits. IsNumberWord digits) (λ sign digits. number_word digits) text)

pub expression : (text : List ℕ) → Decided ((e : AsmExpr) × IsExpression text e)
expression text = as_well
    (λ x. (record { label = x.3.0.0; offset = x.3.1.0 }, record { label = x.0; offset = x.1; parts = x.2; label_is = x.3.0.1; offset_is = x.3.1.1 }))
    (λ x. (x.1.label, x.1.offset, x.1.parts, ((x.0.label, x.1.label_is), (x.0.offset, x.1.offset_is))))
    (split_with (λ front rest. ((name : AsmName) × IsLabel front name) × ((z : ℤ) × IsOffset rest z)) (λ front rest. both_decided (label front) (offset rest)) text)

pub expression_shape : (text : List ℕ) → Decided (HasExpressionShape text)
expression_shape text = as_well
    (λ x. record { label = x.0; offset = x.1; name = x.3.0.0; parts = x.2; label_is = x.3.0.1; offset_is = x.3.1 })
    (λ x. (x.label, x.offset, x.parts, ((x.name, x.label_is), x.offset_is)))
    (split_with (λ front rest. ((name : AsmName) × IsLabel front name) × HasOffsetShape rest) (λ front rest. both_decided (label front) (offset_shape rest)) text)
