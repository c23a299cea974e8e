use Rattle.std.proofs.Common.{append_assoc}
use Rattle.std.proofs.lemmas.List.{append-nil}
use Rattle.std.proofs.lemmas.List.Folds.{flat_map-map}
use Rattle.gt_model.specs.Schema.{section_rows}
use Rattle.gt_model.specs.Views.{section_value}
use Rattle.gt_write.specs.Spelling.{spelling}
use Rattle.gt_write.proofs.modules.SectionSpelled.put.Goals as goal

pub returns-clause-records : goal.returns-clause-records
unfolding spelling section_rows section_value
returns-clause-records c =
    rw (c.in_ok-put_packed.ensures.records, c.in_ok-put_messages.ensures.records, c.in_ok-put_bytes_field.ensures.records, c.in_ok-put_id.ensures.records, c.as_bytes.ensures.value, c.as_str.ensures) (simp (flat_map-map, append_assoc, append-nil))
