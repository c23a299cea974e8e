use Rattle.std.proofs.Common.{subst}
use Rattle.sym_expr.specs.declared.program.Piece.{Piece}
use Rattle.indexed_program.specs.Building.{StandsAt}
use Rattle.indexed_program.proofs.building.add_piece.Goals as goal

pub returns-in_ok-add_data-in-Data-clause-right : goal.returns-in_ok-add_data-in-Data-clause-right
returns-in_ok-add_data-in-Data-clause-right c =
    λ g s is right. c.in_ok-add_data-in-Data.ensures.right g s c.args.at c.args.ahead (subst (λ (p : Piece). StandsAt g s c.args.spot c.args.at p c.args.ahead) c.in-Data.is is) right
