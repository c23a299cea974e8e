use Rattle.std.proofs.Common.{◌≡◌, sym, ap, ◌∙◌}
use Rattle.sym_expr.specs.declared.point.Point.{Point}
use Rattle.sym_run.specs.Next.{next_at}
use Rattle.sym_run.specs.Opened.{Opened, held}
use Rattle.sym_run.proofs.machine.SymMachine.next.Goals as goal

pub returns : goal.returns
returns c =
    c.next_at.ensures
    ∙ ap (λ (p : Point). next_at c.self.inside.program p) (sym c.self.invariant.reached.place)
    ∙ ap (λ (o : Opened). next_at o.program (held o).place) c.self.view_is
