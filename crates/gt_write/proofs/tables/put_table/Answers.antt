use Rattle.std.proofs.Common.{append_assoc}
use Rattle.std.proofs.lemmas.List.{append-nil}
use Rattle.gt_model.specs.Schema.{table_rows}
use Rattle.gt_model.specs.Views.{table_fields}
use Rattle.gt_write.specs.Spelling.{spelling}
use Rattle.gt_write.proofs.tables.put_table.Goals as goal

pub returns-clause-records : goal.returns-clause-records
unfolding spelling table_rows table_fields
returns-clause-records c =
    rw (c.in_ok-put_bytes_field-2.ensures.records, c.in_ok-put_bytes_field.ensures.records, c.as_bytes.ensures.value, c.as_str.ensures, c.as_slice.ensures) (simp (append_assoc, append-nil))
