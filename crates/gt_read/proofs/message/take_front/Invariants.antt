use Rattle.std.proofs.Common.{◌-◌, length}
use Rattle.gt_read.specs.Drafts.Taken.{TakesFront}
use Rattle.gt_read.proofs.message.take_front.Given as goal

-- the records of the first bytes are taken
abbrev pub invariant-records : goal.invariant-records
invariant-records g l = TakesFront g.M.Message.steps g.M.Message.faults l.bytes l.base l.initial.draft l.at l.draft

abbrev pub decreases-records : goal.decreases-records
decreases-records g l = length l.bytes - l.at
