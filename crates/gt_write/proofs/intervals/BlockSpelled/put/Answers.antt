use Rattle.std.proofs.Common.{append_assoc}
use Rattle.std.proofs.lemmas.List.{append-nil}
use Rattle.gt_model.specs.Schema.{block_rows}
use Rattle.gt_model.specs.Views.{block_value}
use Rattle.gt_write.specs.Spelling.{spelling}
use Rattle.gt_write.proofs.intervals.BlockSpelled.put.Goals as goal

pub returns-clause-records : goal.returns-clause-records
unfolding spelling block_rows block_value
returns-clause-records c =
    rw (c.in_ok-put_body.ensures.records, c.in_ok-put_unsigned.ensures) (simp (append_assoc, append-nil))
