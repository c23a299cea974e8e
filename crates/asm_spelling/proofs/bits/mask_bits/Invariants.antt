use Rattle.std.proofs.Common.{◌≡◌, ℕ, ◌<◌, Some}
use Rattle.a64_forms.specs.Bits.{mask_of}
use Rattle.asm_spelling.proofs.bits.mask_bits.Given as goal

-- no fields so far spell the value
abbrev pub invariant-loop-fields : goal.invariant-loop-fields
invariant-loop-fields l = (f : ℕ) → f < l.fields → mask_of l.sf f ≡ Some l.value → ⊥
