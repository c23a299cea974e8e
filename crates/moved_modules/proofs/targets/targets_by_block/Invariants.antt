use Rattle.std.proofs.Common.{◌≡◌, ℕ, List, [], take}
use Rattle.std.specs.Option.{unwrap_or}
use Rattle.std.specs.Str.{bytes_eq}
use Rattle.indexmap.specs.IndexMap.{get}
use Rattle.moved_modules.specs.Targets.{targets_among}
use Rattle.moved_modules.proofs.targets.targets_by_block.Given as goal

abbrev pub invariant-loop-insert : goal.invariant-loop-insert
invariant-loop-insert l = (id : List ℕ) → unwrap_or (get bytes_eq l.map id) [] ≡ targets_among (take l.insert-index l.insert-items) id
