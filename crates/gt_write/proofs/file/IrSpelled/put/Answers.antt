use Rattle.std.proofs.Common.{append_assoc}
use Rattle.std.proofs.lemmas.List.{append-nil}
use Rattle.std.proofs.lemmas.List.Folds.{flat_map-map}
use Rattle.gt_model.specs.Schema.{ir_rows}
use Rattle.gt_model.specs.Views.{ir_value}
use Rattle.gt_write.specs.Spelling.{spelling}
use Rattle.gt_write.proofs.Maps.{if_there-map}
use Rattle.gt_write.proofs.file.IrSpelled.put.Goals as goal

pub returns-clause-records : goal.returns-clause-records
unfolding spelling ir_rows ir_value
returns-clause-records c =
    rw (c.in_ok-put_optional_message.ensures.records, c.in_ok-put_unsigned.ensures, c.in_ok-put_messages-2.ensures.records, c.in_ok-put_messages.ensures.records, c.in_ok-put_id.ensures.records, c.from.ensures) (simp (flat_map-map, if_there-map, append_assoc, append-nil))
