use Rattle.std.proofs.Common.{append_assoc}
use Rattle.std.proofs.lemmas.List.{append-nil}
use Rattle.gt_model.specs.Schema.{edge_rows}
use Rattle.gt_model.specs.Views.{edge_value}
use Rattle.gt_write.specs.Spelling.{spelling}
use Rattle.gt_write.proofs.Maps.{if_there-map}
use Rattle.gt_write.proofs.edges.EdgeSpelled.put.Goals as goal

pub returns-clause-records : goal.returns-clause-records
unfolding spelling edge_rows edge_value
returns-clause-records c =
    rw (c.in_ok-put_optional_message.ensures.records, c.in_ok-put_id-2.ensures.records, c.in_ok-put_id.ensures.records) (simp (if_there-map, append_assoc, append-nil))
