-- Where a place goes, an identifier with an offset, once a module is rewritten.
use Rattle.std.specs.Prelude.{ℕ, ◌+◌, ◌-◌, ◌%◌, Bool, false, ◌==◌, nat_le, if◌then◌else◌, List, [], ◌∷◌, map, find, Option, None, Some}
use Rattle.std.specs.Option.{option_map, option_map_or, option_or}
use Rattle.std.specs.Str.{bytes_eq}
use Rattle.aux_codec.specs.declared.value.Place.{Place}
use Rattle.block_parts.specs.declared.parts.Part.{Part}
use Rattle.block_parts.specs.declared.words.Origin.{Origin}
use Rattle.block_parts.specs.declared.words.Origin.TheVariants.{Own, Inserted}
use Rattle.block_parts.specs.declared.words.PatchedWord.{PatchedWord}
use Rattle.block_parts.specs.Parts.{parts}
use Rattle.gt_model.specs.declared.intervals.Interval.{Interval}
use Rattle.gt_model.specs.declared.modules.Module.{Module}
use Rattle.rewrite.specs.Blocks.{part_size}
use Rattle.rewrite.specs.Identifiers.{part_id, last_part}
use Rattle.rewrite.specs.Offsets.{new_offset}
use Rattle.sym_expr.specs.declared.patches.PatchTable.{PatchTable}
use Rattle.sym_expr.specs.declared.program.CodeBlock.{CodeBlock}
use Rattle.sym_expr.specs.Modules.{loaded_intervals}
use Rattle.sym_expr.specs.Points.{code_at, code_size}
use Rattle.sym_expr.specs.Program.{program, stretch}
use Rattle.sym_expr.specs.Tables.{Tables}

abbrev pub is_own : ℕ → Origin → Bool
is_own offset (Own at) = offset == at
is_own offset (Inserted k) = false

-- how far the own word of an offset is behind the first of these words, if it is one of them
abbrev pub depth_of : ℕ → List PatchedWord → Option ℕ
depth_of offset [] = None
depth_of offset (w ∷ ws) = if is_own offset w.origin then Some 0 else option_map (λ depth. depth + 4) (depth_of offset ws)

-- a place inside the own word of an offset, so many bytes behind its start, in the part that has that word
abbrev pub place_in : Module → List ℕ → ℕ → ℕ → Part → Option Place
place_in m block offset behind q = option_map (λ depth. record { id = part_id m block q; offset = depth + behind }) (depth_of offset q.words)

abbrev pub place_among : Module → List ℕ → ℕ → ℕ → List Part → Option Place
place_among m block offset behind [] = None
place_among m block offset behind (q ∷ qs) = option_or (place_in m block offset behind q) (place_among m block offset behind qs)

-- the end of a block
abbrev pub end_place : Module → CodeBlock → Place
end_place m b = record { id = part_id m b.id (last_part (parts b)); offset = part_size (last_part (parts b)) }

-- a place in a code block: with its word, the end to the end of the last part
abbrev pub code_place : Module → CodeBlock → ℕ → Option Place
code_place m b offset =
    if offset == code_size b then Some (end_place m b)
    else place_among m b.id (offset - offset % 4) (offset % 4) (parts b)

-- a place in an interval: with its byte, the end to the new end
abbrev pub interval_place : Module → Tables → PatchTable → Interval → ℕ → Option Place
interval_place m t p i offset = if nat_le offset i.size then Some (record { id = i.uuid; offset = new_offset (stretch m t p i) offset }) else None

abbrev pub loaded_interval : Module → List ℕ → Option Interval
loaded_interval m id = find (λ (i : Interval). bytes_eq i.uuid id) (loaded_intervals m)

-- other places stay
abbrev pub moved_place : Module → Tables → PatchTable → Place → Place
moved_place m t p at =
    option_map_or (λ (to : Place). to)
    (option_or
    (option_map_or (λ (b : CodeBlock). code_place m b at.offset) (code_at (program m t p) at.id) None)
    (option_map_or (λ (i : Interval). interval_place m t p i at.offset) (loaded_interval m at.id) None))
    at

-- the sizes of expressions go with their places; alignments are of blocks and stay
abbrev pub moved_tables : Module → Tables → PatchTable → Tables
moved_tables m t p = record t { sizes = map moved_size t.sizes }
  where
    moved_size : (List ℕ × ℕ) × ℕ → (List ℕ × ℕ) × ℕ
    moved_size e =
        let to : Place = moved_place m t p (record { id = e.0.0; offset = e.0.1 }) in
        ((to.id, to.offset), e.1)
