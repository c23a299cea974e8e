use Rattle.std.proofs.Common.{◌≡◌, ℕ, List, filter, take}
use Rattle.std.specs.Str.{bytes_eq}
use Rattle.indexmap.specs.IndexMap.{get}
use Rattle.moved_places.specs.Kept.{size_among}
use Rattle.sym_expr.specs.Modules.{intervals_of, is_loaded}
use Rattle.moved_places.proofs.sizes.interval_sizes.Given as goal

abbrev pub invariant-loop-section : goal.invariant-loop-section
invariant-loop-section l = (q : List ℕ) → get bytes_eq l.sizes q ≡ size_among (intervals_of (filter is_loaded (take l.section-index l.section-items))) q
