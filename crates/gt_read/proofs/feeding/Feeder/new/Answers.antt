use Rattle.std.proofs.Common.{ap, ◌∙◌}
use Rattle.gt_read.specs.File.{prefix_fault}
use Rattle.gt_read.proofs.Outcomes.{no_bytes}
use Rattle.gt_read.proofs.feeding.Feeder.new.Goals as goal

pub invariant_of-result : goal.invariant_of-result
invariant_of-result c = record { is = ap prefix_fault c.new.ensures ∙ no_bytes }
