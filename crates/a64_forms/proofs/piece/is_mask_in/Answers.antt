use Rattle.a64_forms.proofs.Immediates.{mask_in, no_mask_in}
use Rattle.a64_forms.proofs.piece.is_mask_in.Goals as goal

pub returns-in-Some : goal.returns-in-Some
returns-in-Some c = mask_in c.args.text.now c.in-Some.digits.now c.is_number_word.result c.in-Some.ensures c.is_number_word.ensures

pub returns-in-None : goal.returns-in-None
returns-in-None c = no_mask_in c.args.text.now c.in-None.ensures
