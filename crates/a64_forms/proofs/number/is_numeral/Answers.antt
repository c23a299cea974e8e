use Rattle.a64_forms.proofs.Numerals.{no_numeral, numeral_test}
use Rattle.a64_forms.proofs.number.is_numeral.Goals as goal

pub returns-in-empty : goal.returns-in-empty
returns-in-empty c = no_numeral c.args.base c.args.digits.now c.in-empty.len_below

pub returns-in-len1-up : goal.returns-in-len1-up
returns-in-len1-up c = numeral_test c.args.base c.args.digits.now c.all_digits.result c.in-len1-up.len_at_least c.all_digits.ensures
