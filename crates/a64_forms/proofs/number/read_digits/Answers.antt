use Rattle.std.proofs.lemmas.Str.{IsUtf8-from_ascii}
use Rattle.a64_forms.proofs.Numerals.{digits_are_ascii}
use Rattle.a64_forms.proofs.number.read_digits.Goals as goal

pub returns-in-Err : goal.returns-in-Err
returns-in-Err c p = c.in-Err.ensures.cases.0 (IsUtf8-from_ascii c.args.digits.now (digits_are_ascii c.args.base c.args.digits.now c.requires.most p.0.1))
