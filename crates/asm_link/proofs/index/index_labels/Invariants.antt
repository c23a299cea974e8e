use Rattle.std.proofs.Common.{◌≡◌, ◌≤◌, ℕ, List, length, drop}
use Rattle.std.specs.Str.{bytes_eq}
use Rattle.indexmap.specs.IndexMap.{get}
use Rattle.asm_link.specs.Kept.{kept_at, label_by}
use Rattle.asm_link.proofs.index.index_labels.Given as goal

abbrev pub invariant-loop-left : goal.invariant-loop-left
invariant-loop-left l = record {
  within : l.left ≤ length l.labels;
  held : (q : List ℕ) (k : ℕ) → kept_at l.index q k ≡ label_by (get bytes_eq l.places) (drop l.left l.labels) q k;
}

abbrev pub decreases-loop-left : goal.decreases-loop-left
decreases-loop-left l = l.left
