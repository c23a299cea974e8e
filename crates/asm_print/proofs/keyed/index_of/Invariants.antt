use Rattle.std.proofs.Common.{◌≡◌, ◌≤◌, drop, length}
use Rattle.indexmap.specs.IndexMap.{get}
use Rattle.asm_print.specs.Names.{value_at}
use Rattle.asm_print.proofs.keyed.index_of.Given as goal

abbrev pub invariant-loop-left : goal.invariant-loop-left
invariant-loop-left g l = ((q : _) → get g.K.PartialEq.eq l.index q ≡ value_at g.K.PartialEq.eq q (drop l.left l.entries)) × (l.left ≤ length l.entries)

abbrev pub decreases-loop-left : goal.decreases-loop-left
decreases-loop-left g l = l.left
