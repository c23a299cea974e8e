use Rattle.std.proofs.Common.{append_assoc}
use Rattle.std.proofs.lemmas.List.{append-nil}
use Rattle.std.proofs.lemmas.List.Folds.{flat_map-map}
use Rattle.gt_model.specs.Schema.{interval_rows}
use Rattle.gt_model.specs.Views.{interval_value}
use Rattle.gt_write.specs.Spelling.{spelling}
use Rattle.gt_write.proofs.intervals.IntervalSpelled.put.Goals as goal

pub returns-clause-records : goal.returns-clause-records
unfolding spelling interval_rows interval_value
returns-clause-records c =
    rw (c.in_ok-put_bytes_field.ensures.records, c.in_ok-put_unsigned-2.ensures, c.in_ok-put_unsigned.ensures, c.in_ok-put_flag.ensures, c.in_ok-put_messages-2.ensures.records, c.in_ok-put_messages.ensures.records, c.in_ok-put_id.ensures.records, c.as_slice.ensures) (simp (flat_map-map, append_assoc, append-nil))
