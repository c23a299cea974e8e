use Rattle.std.proofs.Common.{sym, subst}
use Rattle.sym_expr.specs.Shapes.{IsAlignment}
use Rattle.layout_plan.proofs.Alignments.{common_power_is}
use Rattle.layout_plan.proofs.placing.effective.Goals as goal

pub returns-in-Some-clause-alignment : goal.returns-in-Some-clause-alignment
returns-in-Some-clause-alignment c = subst IsAlignment (sym c.common_power.ensures) (common_power_is c.in-Some.entry c.args.offset)
