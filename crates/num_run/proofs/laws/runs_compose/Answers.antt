use Rattle.a64_inst.specs.Runs.{unbegun}
use Rattle.a64_inst.specs.RunLaws.{composed}
use Rattle.num_run.specs.Run.{step, start}
use Rattle.num_run.proofs.laws.runs_compose.Goals as goal

pub returns : goal.returns
returns c = λ image input steps more. composed step steps more (unbegun (start image input))
