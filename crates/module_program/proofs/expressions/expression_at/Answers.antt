use Rattle.std.proofs.Common.{sym, ap, ◌∙◌, List}
use Rattle.std.specs.Prelude.{slice_get}
use Rattle.gt_model.specs.declared.exprs.Expr.{Expr}
use Rattle.module_program.proofs.Partition.{at_place}
use Rattle.module_program.proofs.expressions.expression_at.Goals as goal

pub returns : goal.returns
returns c = c.first.ensures.value ∙ ap (λ (es : List Expr). slice_get es 0) c.between.ensures ∙ sym (at_place c.args.exprs.now c.args.at)
