use Rattle.std.proofs.Common.{◌≡◌, ℕ, List, take}
use Rattle.std.specs.Option.{option_or}
use Rattle.std.specs.Str.{bytes_eq}
use Rattle.indexmap.specs.IndexMap.{get}
use Rattle.moved_places.specs.Kept.{size_among}
use Rattle.moved_places.proofs.sizes.add_section.Given as goal

abbrev pub invariant-loop-interval : goal.invariant-loop-interval
invariant-loop-interval l = (q : List ℕ) → get bytes_eq l.sizes q ≡ option_or (get bytes_eq l.initial.sizes q) (size_among (take l.interval-index l.interval-items) q)
