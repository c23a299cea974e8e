use Rattle.std.proofs.Common.{sym, ◌∙◌}
use Rattle.patch_table.proofs.Sayings.{asm_ok, own_ok}
use Rattle.patch_table.proofs.line.read_words.Goals as goal

pub returns-then-is_own-clause-says : goal.returns-then-is_own-clause-says
returns-then-is_own-clause-says c = own_ok c.args.line.now c.args.words.now c.read_own.result c.requires.utf8 c.requires.words (sym c.is_own.ensures ∙ c.if-is_own.true) c.read_own.ensures.says

pub returns-clause-says : goal.returns-clause-says
returns-clause-says c = asm_ok c.one_split.ensures c.args.line.now c.args.words.now c.read_asm.result c.requires.words (sym c.is_own.ensures ∙ c.if-is_own.false) c.read_asm.ensures.says
