use Rattle.std.proofs.Common.{append_assoc}
use Rattle.std.proofs.lemmas.List.{append-nil}
use Rattle.std.proofs.lemmas.List.Folds.{flat_map-map}
use Rattle.gt_model.specs.Schema.{cfg_rows}
use Rattle.gt_model.specs.Views.{cfg_value}
use Rattle.gt_write.specs.Spelling.{spelling}
use Rattle.gt_write.proofs.edges.CfgSpelled.put.Goals as goal

pub returns-clause-records : goal.returns-clause-records
unfolding spelling cfg_rows cfg_value
returns-clause-records c =
    rw (c.in_ok-put_ids.ensures.records, c.in_ok-put_messages.ensures.records) (simp (flat_map-map, append_assoc, append-nil))
