use Rattle.std.proofs.Common.{◌≡◌, refl, sym, ◌∙◌}
use Rattle.patch_lines.specs.declared.line.PatchLine.TheVariants as lines
use Rattle.patch_table.specs.OwnLines.{InsertSays, is_insert}
use Rattle.patch_table.proofs.Sayings.{ok_where_true, where_false}
use Rattle.patch_table.proofs.own.three_words.Goals as goal

pub returns-then-is_insert-clause-says : goal.returns-then-is_insert-clause-says
returns-then-is_insert-clause-says c =
    ok_where_true c.read_insert.result (is_insert c.args.first.now) (InsertSays c.args.place.now c.args.number.now) (λ l. l ≡ lines.Other) (sym c.is_insert.ensures ∙ c.if-is_insert.true) c.read_insert.ensures.says

pub returns-clause-says : goal.returns-clause-says
returns-clause-says c = where_false (is_insert c.args.first.now) _ _ (sym c.is_insert.ensures ∙ c.if-is_insert.false) refl
