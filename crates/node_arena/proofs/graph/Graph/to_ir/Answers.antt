use Rattle.std.proofs.Common.{◌≡◌, Ok, Err, Result, sym, subst}
use Rattle.std.specs.Prelude.{IfOk}
use Rattle.gt_model.specs.declared.ir.Ir.{Ir}
use Rattle.gt_model.specs.Ordered.{ordered}
use Rattle.node_arena.proofs.graph.Graph.to_ir.Goals as goal

-- what holds of a value holds of a result that is the value
if_ok-along : {E : Type 0} (P : Ir → Type 0) (x : Ir) (r : Result Ir E) → P x → IfOk r (λ ir. ir ≡ x) → IfOk r P
if_ok-along P x (Err e) h k = tt
if_ok-along P x (Ok y) h k = subst P (sym k) h

pub returns-clause-ordered : goal.returns-clause-ordered
returns-clause-ordered c = if_ok-along ordered _ c.plain_ir.result (c.sound_is_linked.ensures.ordered _ c.self.invariant.sound) c.plain_ir.ensures
