use Rattle.std.proofs.Common.{◌≡◌, ◌++◌, take}
use Rattle.std.specs.List.{AllByRecursion, flat_map}
use Rattle.gt_model.specs.Typed.{IsId}
use Rattle.gt_write.specs.Spelling.{run_record}
use Rattle.gt_write.proofs.records.put_ids.Given as goal

-- the identifiers so far are spelled, and they are identifiers
abbrev pub invariant-loop-id : goal.invariant-loop-id
invariant-loop-id l = record {
  spelled : l.out.items ≡ l.initial.out.items ++ flat_map (λ id. run_record l.field id) (take l.id-index l.ids);
  typed : AllByRecursion IsId (take l.id-index l.ids);
}
