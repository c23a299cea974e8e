use Rattle.std.proofs.Common.{◌≡◌, refl, sym, ◌∙◌}
use Rattle.patch_lines.specs.declared.line.PatchLine.TheVariants as lines
use Rattle.patch_table.specs.OwnLines.{FunctionSays, is_function}
use Rattle.patch_table.proofs.Sayings.{ok_where_true, where_false}
use Rattle.patch_table.proofs.own.two_words.Goals as goal

pub returns-then-is_function-clause-says : goal.returns-then-is_function-clause-says
returns-then-is_function-clause-says c =
    ok_where_true c.read_function.result (is_function c.args.first.now) (FunctionSays c.args.name.now) (λ l. l ≡ lines.Other) (sym c.is_function.ensures ∙ c.if-is_function.true) c.read_function.ensures.says

pub returns-clause-says : goal.returns-clause-says
returns-clause-says c = where_false (is_function c.args.first.now) _ _ (sym c.is_function.ensures ∙ c.if-is_function.false) refl
