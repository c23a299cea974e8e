use Rattle.std.proofs.Common.{◌≡◌, ℕ, List, take}
use Rattle.std.specs.List.{filter_map}
use Rattle.std.specs.Option.{option_or}
use Rattle.moved_places.specs.Kept.{block_among, kept_block}
use Rattle.sym_expr.specs.Points.{code_of}
use Rattle.moved_places.proofs.index.add_stretch.Given as goal

abbrev pub invariant-loop-piece : goal.invariant-loop-piece
invariant-loop-piece l = (q : List ℕ) → kept_block l.blocks q ≡ option_or (kept_block l.initial.blocks q) (block_among l.module (filter_map code_of (take l.piece-index l.piece-items)) q)
