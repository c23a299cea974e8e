-- Where the bytes of a code block go, as it is kept.
use Rattle.std.specs.Prelude.{ℕ, ◌+◌, ◌*◌, ◌/◌, ◌%◌, ◌==◌, if◌then◌else◌, List, [], ◌∷◌, ◌++◌, length, Option, Some, slice_get}
use Rattle.std.specs.Option.{option_map}
use Rattle.aux_codec.specs.declared.value.Place.{Place}
use Rattle.block_parts.specs.declared.parts.Part.{Part}
use Rattle.block_parts.specs.declared.words.PatchedWord.{PatchedWord}
use Rattle.block_parts.specs.Words.{is_inserted}
use Rattle.gt_model.specs.declared.modules.Module.{Module}
use Rattle.moved_places.specs.declared.kept.BlockMoves.{BlockMoves}
use Rattle.rewrite.specs.Identifiers.{part_id}

-- the places of own words, among words that stand one behind the other from a depth on in what has an identifier
abbrev pub own_places : List ℕ → ℕ → List PatchedWord → List Place
own_places id depth [] = []
own_places id depth (w ∷ ws) = (if is_inserted w then [] else record { id = id; offset = depth } ∷ []) ++ own_places id (depth + 4) ws

-- those of a part of a block
abbrev pub part_places : Module → List ℕ → Part → List Place
part_places m block q = own_places (part_id m block q) 0 q.words

-- a place so many bytes further
abbrev pub further : ℕ → Place → Place
further behind w = record w { offset = w.offset + behind }

-- where an offset of a block goes: with its word, or with the end
abbrev pub place_kept : BlockMoves → ℕ → Option Place
place_kept b offset = if offset == 4 * length b.words then Some b.end else option_map (further (offset % 4)) (slice_get b.words (offset / 4))
