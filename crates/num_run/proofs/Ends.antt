-- How a run stands, by its end.
use Rattle.std.proofs.Common.{◌≡◌, refl}
use Rattle.a64_inst.specs.Domain.{exit, trapped}
use Rattle.a64_inst.specs.Runs.{Standing, going, over, halted}
use Rattle.a64_inst.specs.RunLaws.{IsOver}
use Rattle.num_run.specs.declared.report.RunEnd.TheVariants.{Running}
use Rattle.num_run.specs.Run.{end_of}

pub is_over : (standing : Standing ⊥) → (end_of standing ≡ Running → ⊥) → IsOver standing
is_over going ends = absurd (ends refl)
is_over (over event) ends = tt
is_over (halted cause) ends = absurd cause

pub is_going : (standing : Standing ⊥) → end_of standing ≡ Running → standing ≡ going
is_going going goes = refl
is_going (over (exit status)) goes = absurd cc
is_going (over (trapped why)) goes = absurd cc
is_going (halted cause) goes = absurd cause
