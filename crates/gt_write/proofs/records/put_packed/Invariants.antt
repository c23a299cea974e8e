use Rattle.std.proofs.Common.{◌≡◌, take}
use Rattle.std.specs.List.{AllByRecursion, flat_map}
use Rattle.pb_wire.specs.Varint.{shortest}
use Rattle.gt_model.specs.Typed.{IsI32}
use Rattle.gt_write.specs.Spelling.{signed_varint}
use Rattle.gt_write.proofs.records.put_packed.Given as goal

-- the numbers so far are spelled, and they have 32 bits
abbrev pub invariant-loop-value : goal.invariant-loop-value
invariant-loop-value l = record {
  spelled : l.packed.items ≡ flat_map (λ z. shortest (signed_varint z)) (take l.value-index l.values);
  typed : AllByRecursion IsI32 (take l.value-index l.values);
}
