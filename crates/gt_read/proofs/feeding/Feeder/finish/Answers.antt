use Rattle.std.proofs.Common.{[], ap, ◌∙◌}
use Rattle.gt_read.specs.declared.feeding_drafts.Stage.{Stage}
use Rattle.gt_read.specs.Feeding.{stage_as}
use Rattle.gt_read.proofs.Outcomes.{prefix_ends}
use Rattle.gt_read.proofs.feeding.Feeder.finish.Goals as goal

pub returns-in-Prefix-clause-fault : goal.returns-in-Prefix-clause-fault
returns-in-Prefix-clause-fault c = ap (λ (s : Stage). stage_as s []) c.in-Prefix.is ∙ prefix_ends c.in-Prefix.front.bytes c.in-Prefix.front.missing c.in-Prefix.front.is
