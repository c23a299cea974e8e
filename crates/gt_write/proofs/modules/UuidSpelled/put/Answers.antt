use Rattle.std.proofs.Common.{append_assoc}
use Rattle.std.proofs.lemmas.List.{append-nil}
use Rattle.gt_model.specs.Schema.{proxy_rows}
use Rattle.gt_model.specs.Views.{proxy_value}
use Rattle.gt_write.specs.Spelling.{spelling}
use Rattle.gt_write.proofs.modules.UuidSpelled.put.Goals as goal

pub returns-clause-records : goal.returns-clause-records
unfolding spelling proxy_rows proxy_value
returns-clause-records c =
    rw (c.in_ok-put_id.ensures.records) (simp (append_assoc, append-nil))
