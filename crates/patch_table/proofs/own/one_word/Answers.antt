use Rattle.std.proofs.Common.{refl, sym, ◌∙◌}
use Rattle.patch_table.specs.OwnLines.{is_end}
use Rattle.patch_table.proofs.Sayings.{where_false, where_true}
use Rattle.patch_table.proofs.own.one_word.Goals as goal

pub returns-then-is_end-clause-says : goal.returns-then-is_end-clause-says
returns-then-is_end-clause-says c = where_true (is_end c.args.first.now) _ _ (sym c.is_end.ensures ∙ c.if-is_end.true) refl

pub returns-clause-says : goal.returns-clause-says
returns-clause-says c = where_false (is_end c.args.first.now) _ _ (sym c.is_end.ensures ∙ c.if-is_end.false) refl
