use Rattle.std.proofs.Common.{refl}
use Rattle.gt_read.proofs.PackedRuns.{packed_added}
use Rattle.gt_read.proofs.Answering.{answers_then}
use Rattle.gt_read.proofs.packed.take_numbers.Goals as goal

pub returns-in-Bytes : goal.returns-in-Bytes
returns-in-Bytes c =
    rw c.in-Bytes.is (answers_then _ _ c.take_packed.result _ _ refl (λ _ e. packed_added _ _ _ e) c.take_packed.ensures)
