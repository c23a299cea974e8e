use Rattle.a64_forms.proofs.Immediates.{mask_some, mask_none, no_digits, no_mask}
use Rattle.a64_forms.proofs.Pieces.{any_none}
use Rattle.a64_forms.proofs.piece.mask_of.Goals as goal

pub returns-in_err-digits-clause-none : goal.returns-in_err-digits-clause-none
returns-in_err-digits-clause-none c = any_none c.from_residual.result _ (no_digits c.args.sf c.args.text.now c.in_err-digits.ensures)

pub returns-in_err-value-clause-none : goal.returns-in_err-value-clause-none
returns-in_err-value-clause-none c = any_none c.from_residual-in_err-value.result _ (no_mask c.args.sf c.args.text.now c.in_ok-digits.digits.now c.in_ok-digits.ensures c.in_err-value.ensures)

pub returns-clause-some : goal.returns-clause-some
returns-clause-some c = mask_some c.args.sf c.args.text.now c.in_ok-digits.digits.now c.in_ok-value.value c.mask_bits.result c.in_ok-digits.ensures c.in_ok-value.ensures c.mask_bits.ensures.some

pub returns-clause-none : goal.returns-clause-none
returns-clause-none c = mask_none c.args.sf c.args.text.now c.in_ok-digits.digits.now c.in_ok-value.value c.mask_bits.result c.in_ok-digits.ensures c.in_ok-value.ensures c.mask_bits.ensures.none
