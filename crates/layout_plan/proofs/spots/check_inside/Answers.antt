use Rattle.std.proofs.Common.{sym}
use Rattle.std.proofs.lemmas.List.Elements.{All-from_recursion}
use Rattle.sym_expr.specs.Layouts.{IsInside}
use Rattle.layout_plan.proofs.Accepting.{inside_unless_found}
use Rattle.layout_plan.proofs.spots.check_inside.Goals as goal

pub returns-in-None-clause-inside : goal.returns-in-None-clause-inside
returns-in-None-clause-inside c = All-from_recursion IsInside c.args.spots.now (inside_unless_found c.args.spots.now (sym c.in-None.ensures))
