use Rattle.a64_forms.proofs.Immediates.{no_mask_as}
use Rattle.a64_forms.proofs.piece.mask_as.Goals as goal

pub returns-in-Any-2-clause-none : goal.returns-in-Any-2-clause-none
returns-in-Any-2-clause-none c = no_mask_as c.args.numbers c.args.sf c.args.text.now c.is_mask_in.result c.in-Any-2.is c.if-is_mask_in.false c.is_mask_in.ensures
