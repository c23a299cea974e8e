use Rattle.std.proofs.Common.{append_assoc}
use Rattle.std.proofs.lemmas.List.{append-nil}
use Rattle.gt_model.specs.Schema.{code_rows}
use Rattle.gt_model.specs.Views.{code_fields}
use Rattle.gt_write.specs.Spelling.{spelling}
use Rattle.gt_write.proofs.intervals.put_code.Goals as goal

pub returns-clause-records : goal.returns-clause-records
unfolding spelling code_rows code_fields
returns-clause-records c =
    rw (c.in_ok-put_unsigned-2.ensures, c.in_ok-put_unsigned.ensures, c.in_ok-put_id.ensures.records) (simp (append_assoc, append-nil))
