use Rattle.std.proofs.Common.{append_assoc}
use Rattle.std.proofs.lemmas.List.{append-nil}
use Rattle.gt_model.specs.Schema.{data_rows}
use Rattle.gt_model.specs.Views.{data_fields}
use Rattle.gt_write.specs.Spelling.{spelling}
use Rattle.gt_write.proofs.intervals.put_data.Goals as goal

pub returns-clause-records : goal.returns-clause-records
unfolding spelling data_rows data_fields
returns-clause-records c =
    rw (c.in_ok-put_unsigned.ensures, c.in_ok-put_id.ensures.records) (simp (append_assoc, append-nil))
