-- What it is for a numeric machine to do the same as a symbolic one.
use Rattle.std.specs.Prelude.{◌≡◌}
use Rattle.a64_inst.specs.Domain.{Answer, next, ended, stuck}
use Rattle.a64_inst.specs.Runs.{Standing, going, over, halted, Run}
use Rattle.num_run.specs.Machine.{Machine}
use Rattle.sym_expr.specs.declared.cause.Cause.{Cause}
use Rattle.sym_expr.specs.declared.program.Program.{Program}
use Rattle.sym_expr.specs.States.{State}
use Rattle.simulation.specs.Placement.{Placement}
use Rattle.simulation.specs.Held.{Related}

-- an answer follows another: both give what R relates, or the same end with states that E relates; where the first is stuck, all is well
abbrev pub Follows : {C D S T A B : Type 0} → (A → B → Type 0) → (S → T → Type 0) → Answer C S A → Answer D T B → Type 0
Follows R E (stuck cause) y = Unit {0}
Follows R E (next a) (next b) = R a b
Follows R E (next a) (ended event t) = ⊥
Follows R E (next a) (stuck cause) = ⊥
Follows R E (ended event s) (next b) = ⊥
Follows R E (ended event s) (ended other t) = (event ≡ other) × E s t
Follows R E (ended event s) (stuck cause) = ⊥

-- the machines stand alike; where the first is halted, all is well
abbrev pub StandAlike : {C D : Type 0} → Standing C → Standing D → Type 0
StandAlike (halted cause) other = Unit {0}
StandAlike going going = Unit {0}
StandAlike going (over event) = ⊥
StandAlike going (halted cause) = ⊥
StandAlike (over event) going = ⊥
StandAlike (over event) (over other) = event ≡ other
StandAlike (over event) (halted cause) = ⊥

-- a run that isn't stuck
abbrev pub IsNotStuck : {C : Type 0} → Standing C → Type 0
IsNotStuck going = Unit {0}
IsNotStuck (over event) = Unit {0}
IsNotStuck (halted cause) = ⊥

-- two runs did as many instructions, stand alike, and hold what stands for each other
pub record RunAlike (pl : Placement) (g : Program) (r : Run Cause State) (q : Run ⊥ Machine) : Type 0 where
  pub done : q.done ≡ r.done
  pub standing : StandAlike r.standing q.standing
  pub related : Related pl g r.state q.state
