use Rattle.std.proofs.Common.{append_assoc}
use Rattle.std.proofs.lemmas.List.{append-nil}
use Rattle.gt_model.specs.Schema.{expr_rows}
use Rattle.gt_model.specs.Views.{expr_fields}
use Rattle.gt_write.specs.Spelling.{spelling}
use Rattle.gt_write.proofs.exprs.put_expr.Goals as goal

pub returns-clause-records : goal.returns-clause-records
unfolding spelling expr_rows expr_fields
returns-clause-records c =
    rw (c.in_ok-put_packed.ensures.records, c.in_ok-put_value.ensures.records) (simp (append_assoc, append-nil))
