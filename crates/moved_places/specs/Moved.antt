-- Where a Place goes, by what is kept of blocks and intervals.
use Rattle.std.specs.Prelude.{ℕ, nat_le, if◌then◌else◌, Option, None}
use Rattle.std.specs.Option.{option_map, option_map_or, option_or}
use Rattle.std.specs.Str.{bytes_eq}
use Rattle.aux_codec.specs.declared.value.Place.{Place}
use Rattle.indexmap.specs.IndexMap.{get}
use Rattle.moved_places.specs.declared.interval.IntervalMoves.{IntervalMoves}
use Rattle.moved_places.specs.declared.kept.BlockMoves.{BlockMoves}
use Rattle.moved_places.specs.Blocks.{place_kept}
use Rattle.moved_places.specs.Intervals.{offset_kept}
use Rattle.moved_places.specs.declared.moves.Moves.{Moves}
use Rattle.moved_places.specs.Kept.{Index}

-- in a code block
abbrev pub block_place : Index BlockMoves → Place → Option Place
block_place blocks at = option_map_or (λ b. place_kept b at.offset) (get bytes_eq blocks at.id) None

-- in an interval, up to its size
abbrev pub place_within : Index IntervalMoves → Place → ℕ → Option Place
place_within intervals at size =
    if nat_le at.offset size then option_map (λ i. record at { offset = offset_kept i at.offset }) (get bytes_eq intervals at.id) else None

abbrev pub interval_place : Index IntervalMoves → Index ℕ → Place → Option Place
interval_place intervals sizes at = option_map_or (place_within intervals at) (get bytes_eq sizes at.id) None

-- other places stay
abbrev pub place_by : Index BlockMoves → Index IntervalMoves → Index ℕ → Place → Place
place_by blocks intervals sizes at = option_map_or (λ (to : Place). to) (option_or (block_place blocks at) (interval_place intervals sizes at)) at

abbrev pub place_to : Moves → Place → Place
place_to m = place_by m.blocks m.intervals m.sizes
