use Rattle.std.proofs.Common.{◌≡◌, ℕ, Some, sym, ◌∙◌}
use Rattle.a64_forms.specs.Bits.{mask_of}
use Rattle.asm_spelling.proofs.Pieces.{kept_below, unequal}
use Rattle.asm_spelling.proofs.bits.mask_bits.Goals as goal

pub loop-fields-preserved : goal.loop-fields-preserved
loop-fields-preserved c =
    kept_below
    (λ (f : ℕ). mask_of c.args.sf f ≡ Some c.args.value) c.loop-fields.fields c.loop-fields.invariant
    (λ e. unequal c.mask_of.result c.args.value c.eq.result c.if-eq.false c.eq.ensures (c.mask_of.ensures ∙ e))
