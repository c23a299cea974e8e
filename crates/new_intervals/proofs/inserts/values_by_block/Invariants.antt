use Rattle.std.proofs.Common.{◌≡◌, ℕ, List, [], take}
use Rattle.std.specs.Option.{unwrap_or}
use Rattle.std.specs.Str.{bytes_eq}
use Rattle.indexmap.specs.IndexMap.{get}
use Rattle.new_intervals.specs.Inserting.{values_among}
use Rattle.new_intervals.proofs.inserts.values_by_block.Given as goal

abbrev pub invariant-loop-insert : goal.invariant-loop-insert
invariant-loop-insert l = (id : List ℕ) → unwrap_or (get bytes_eq l.values id) [] ≡ values_among l.module (take l.insert-index l.inserts) id
