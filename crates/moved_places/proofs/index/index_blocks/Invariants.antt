use Rattle.std.proofs.Common.{◌≡◌, ℕ, List, take}
use Rattle.std.specs.List.{filter_map, flat_map}
use Rattle.moved_places.specs.Kept.{block_among, kept_block}
use Rattle.sym_expr.specs.declared.program.Stretch.{Stretch}
use Rattle.sym_expr.specs.Points.{code_of}
use Rattle.moved_places.proofs.index.index_blocks.Given as goal

abbrev pub invariant-loop-stretch : goal.invariant-loop-stretch
invariant-loop-stretch l = (q : List ℕ) → kept_block l.blocks q ≡ block_among l.module (filter_map code_of (flat_map (λ (s : Stretch). s.pieces) (take l.stretch-index l.stretch-items))) q
