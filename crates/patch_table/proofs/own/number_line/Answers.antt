use Rattle.std.proofs.Common.{sym, ◌∙◌}
use Rattle.patch_table.proofs.Sayings.{number_found, number_other, number_unfit}
use Rattle.patch_table.proofs.own.number_line.Goals as goal

pub returns-in-Some-clause-says : goal.returns-in-Some-clause-says
returns-in-Some-clause-says c = number_found c.args.number.now c.args.spot c.in-Some.offset c.in-Some.ensures

pub returns-then-is_number_word-clause-says : goal.returns-then-is_number_word-clause-says
returns-then-is_number_word-clause-says c = number_unfit c.args.number.now c.args.spot c.in_default.ensures (c.is_number_word.ensures.0 c.if-is_number_word.true)

pub returns-clause-says : goal.returns-clause-says
returns-clause-says c = number_other c.args.number.now c.args.spot c.is_number_word.result c.in_default.ensures c.is_number_word.ensures c.if-is_number_word.false
