-- What is kept by identifiers, as the functions from offsets that it stands for.
use Rattle.std.specs.Prelude.{ℕ, List, find, Option}
use Rattle.std.specs.declared.hash.BuildHasherDefault.{BuildHasherDefault}
use Rattle.std.specs.declared.hash.FoldHasher.{FoldHasher}
use Rattle.std.specs.Option.{option_map}
use Rattle.std.specs.Str.{bytes_eq}
use Rattle.aux_codec.specs.declared.value.Place.{Place}
use Rattle.gt_model.specs.declared.intervals.Interval.{Interval}
use Rattle.gt_model.specs.declared.modules.Module.{Module}
use Rattle.indexmap.specs.IndexMap.{IndexMap, get}
use Rattle.moved_places.specs.declared.interval.IntervalMoves.{IntervalMoves}
use Rattle.moved_places.specs.declared.kept.BlockMoves.{BlockMoves}
use Rattle.moved_places.specs.Blocks.{place_kept}
use Rattle.moved_places.specs.Intervals.{offset_kept}
use Rattle.rewrite.specs.Offsets.{new_offset}
use Rattle.rewrite.specs.Places.{code_place}
use Rattle.sym_expr.specs.declared.program.CodeBlock.{CodeBlock}
use Rattle.sym_expr.specs.declared.program.Stretch.{Stretch}

-- a map from identifiers
abbrev pub Index : Type 0 → Type 0
Index V = IndexMap (List ℕ) V (BuildHasherDefault FoldHasher)

-- where the offsets of a block go, as it is kept, and as it is among blocks
abbrev pub kept_block : Index BlockMoves → List ℕ → Option (ℕ → Option Place)
kept_block blocks id = option_map place_kept (get bytes_eq blocks id)

abbrev pub block_among : Module → List CodeBlock → List ℕ → Option (ℕ → Option Place)
block_among m blocks id = option_map (code_place m) (find (λ (b : CodeBlock). bytes_eq b.id id) blocks)

-- the same of intervals of a program
abbrev pub kept_interval : Index IntervalMoves → List ℕ → Option (ℕ → ℕ)
kept_interval intervals id = option_map offset_kept (get bytes_eq intervals id)

abbrev pub stretch_among : List Stretch → List ℕ → Option Stretch
stretch_among stretches id = find (λ (s : Stretch). bytes_eq s.id id) stretches

abbrev pub interval_among : List Stretch → List ℕ → Option (ℕ → ℕ)
interval_among stretches id = option_map new_offset (stretch_among stretches id)

-- the size of an interval of a module
abbrev pub size_among : List Interval → List ℕ → Option ℕ
size_among intervals id = option_map (λ (i : Interval). i.size) (find (λ (i : Interval). bytes_eq i.uuid id) intervals)
