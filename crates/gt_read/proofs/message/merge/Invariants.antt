use Rattle.std.proofs.Common.{length}
use Rattle.gt_read.proofs.Merging.{Merging}
use Rattle.gt_read.proofs.message.merge.Given as goal

-- the records before the cursor are taken
abbrev pub invariant-records : goal.invariant-records
invariant-records g l = Merging g.M.Message.steps g.M.Message.faults l.bytes l.base l.initial.draft l.cursor l.draft

abbrev pub decreases-records : goal.decreases-records
decreases-records g l = length l.cursor.bytes
