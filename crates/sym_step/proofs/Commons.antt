-- What the operations of a common instruction come to.
use Rattle.std.proofs.Common.{◌≡◌, ℕ, Bool, List, [], refl}
use Rattle.a64_inst.specs.declared.operations.Sum.{Sum}
use Rattle.a64_inst.specs.declared.operations.Unary.{Unary}
use Rattle.a64_inst.specs.declared.operations.Width.{Width}
use Rattle.a64_inst.specs.Domain.{exec, then_do}
use Rattle.sym_expr.specs.declared.program.Program.{Program}
use Rattle.sym_expr.specs.States.{State}
use Rattle.sym_expr.specs.Symbolic.{Outcome, symbolic}
use Rattle.sym_step.specs.declared.common.Common.{Common}
use Rattle.sym_step.specs.declared.common.End.{End}
use Rattle.sym_step.specs.declared.common.End.TheVariants as ends
use Rattle.sym_step.specs.declared.common.Start.{Start}
use Rattle.sym_step.specs.declared.common.Start.TheVariants as starts
use Rattle.sym_step.specs.declared.flow.Flow.{Flow}
use Rattle.sym_step.specs.declared.flow.Flow.TheVariants.{On, Placed, Exit, Trap, Stuck}
use Rattle.sym_step.specs.Common.{common_ops, common_outcome}
use Rattle.sym_step.specs.Runner.{came, Flows}

by_parts : (g : Program) (start : Start) (end : End) (s : State) → exec (symbolic g) (common_ops (record { start = start; end = end })) [] s ≡ common_outcome g (record { start = start; end = end }) s
by_parts g (starts.Joined stack r unit field) (ends.Write t q) s = refl
by_parts g (starts.Joined stack r unit field) (ends.Load bytes signed w t q) s = refl
by_parts g (starts.Joined stack r unit field) (ends.Store bytes t q f w) s = refl
by_parts g (starts.Summed stack r sum v n) (ends.Write t q) s = refl
by_parts g (starts.Summed stack r sum v n) (ends.Load bytes signed w t q) s = refl
by_parts g (starts.Summed stack r sum v n) (ends.Store bytes t q f w) s = refl

pub common_is : (g : Program) (c : Common) (s : State) → exec (symbolic g) (common_ops c) [] s ≡ common_outcome g c s
common_is g c s = by_parts g c.start c.end s

-- what does not go on is what the instruction came to
pub not_on : (flow : Flow) (outcome : Outcome State) (s : State) (go : State → Outcome State) → (flow ≡ On → ⊥) → Flows outcome flow s → then_do outcome go ≡ came flow s
not_on On outcome s go ends flows = absurd (ends refl)
not_on Placed outcome s go ends flows = flows [] (λ values. go)
not_on (Exit status) outcome s go ends flows = flows [] (λ values. go)
not_on (Trap why) outcome s go ends flows = flows [] (λ values. go)
not_on (Stuck cause) outcome s go ends flows = flows [] (λ values. go)
