use Rattle.std.proofs.Common.{ap}
use Rattle.a64_inst.specs.Runs.{unbegun, run}
use Rattle.a64_inst.specs.RunLaws.{end_stays}
use Rattle.num_run.specs.Run.{step, start, seen}
use Rattle.num_run.proofs.Ends.{is_over}
use Rattle.num_run.proofs.laws.nothing_follows_an_end.Goals as goal

pub returns-clause-run : goal.returns-clause-run
returns-clause-run c = λ image input steps more over. end_stays step steps more (unbegun (start image input)) (is_over (run step steps (start image input)).standing over)

pub returns-clause-seen : goal.returns-clause-seen
returns-clause-seen c = λ image input steps more over. ap seen (end_stays step steps more (unbegun (start image input)) (is_over (run step steps (start image input)).standing over))
