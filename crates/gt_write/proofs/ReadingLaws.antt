-- What laws say of reading, for lemmas that rest on them.
use Rattle.std.proofs.Common.{◌≡◌, ℕ, ◌+◌, ◌*◌, ◌^◌, ◌<◌, ◌≤◌, List, ◌++◌, length, None}
use Rattle.pb_wire.specs.declared.records.Load.TheVariants.{Varint, Run}
use Rattle.pb_wire.specs.declared.records.Record.{Record}
use Rattle.pb_wire.specs.Ahead.{Ahead}
use Rattle.pb_wire.specs.Records.{Spells, Takes}
use Rattle.pb_wire.specs.Varint.{IsVarint, shortest, varints}
use Rattle.gt_read.specs.Kinds.{packed}
use Rattle.gt_read.specs.Pieces.{piece_of, put_first, walk}

pub record ReadingLaws : Type 0 where
  pub taken : (r : Record) (old new : Ahead) → Takes r old new → walk old.bytes old.place ≡ put_first (piece_of old.bytes old.place r) (walk new.bytes new.place)
  pub varint : (place field value : ℕ) → 1 ≤ field → field < 2 ^ 61 → value < 2 ^ 64 →
      Spells (record { place = place; field = field; load = Varint value }) (shortest (8 * field + 0) ++ shortest value)
  pub run : (place field : ℕ) (content : List ℕ) → 1 ≤ field → field < 2 ^ 61 → length content < 2 ^ 64 →
      Spells (record { place = place; field = field; load = Run (record { start = place + length (shortest (8 * field + 2)) + length (shortest (length content)); len = length content }) })
      (shortest (8 * field + 2) ++ (shortest (length content) ++ content))
  pub shortest_is : (value : ℕ) → value < 2 ^ 64 → IsVarint (shortest value) value
  pub unpacked : (bytes numbers : List ℕ) → varints bytes numbers → packed bytes ≡ record { numbers = numbers; failed = None }
