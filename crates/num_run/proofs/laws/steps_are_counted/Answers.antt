use Rattle.std.proofs.Common.{arith}
use Rattle.a64_inst.specs.Runs.{unbegun, run}
use Rattle.a64_inst.specs.RunLaws.{done_most, going_counts}
use Rattle.num_run.specs.Run.{step, start}
use Rattle.num_run.proofs.Ends.{is_going}
use Rattle.num_run.proofs.laws.steps_are_counted.Goals as goal

pub returns-clause-running : goal.returns-clause-running
returns-clause-running c = λ image input steps running. omega (arith, going_counts step steps (unbegun (start image input)) (is_going (run step steps (start image input)).standing running))

pub returns-clause-most : goal.returns-clause-most
returns-clause-most c = λ image input steps. omega (arith, done_most step steps (unbegun (start image input)))
