-- Where old edges leave blocks in which words are inserted.
use Rattle.std.specs.Prelude.{ℕ, ◌-◌, Bool, false, ◌&&◌, if◌then◌else◌, List, find, Option, Some, None}
use Rattle.std.specs.List.{list_any}
use Rattle.std.specs.Option.{option_and_then, option_map, option_map_or}
use Rattle.block_parts.specs.declared.parts.Part.{Part}
use Rattle.block_parts.specs.declared.words.PatchedWord.{PatchedWord}
use Rattle.block_parts.specs.Words.{is_inserted}
use Rattle.edge_repair.specs.Edges.{is_fallthrough}
use Rattle.edge_repair.specs.Ends.{last_of}
use Rattle.edge_repair.specs.Jumps.{has_row, is_last}
use Rattle.gt_model.specs.declared.edges.Edge.{Edge}
use Rattle.gt_model.specs.declared.modules.Module.{Module}
use Rattle.new_edges.specs.declared.blocks.PatchedBlock.{PatchedBlock}
use Rattle.new_edges.specs.declared.leaving.Leaving.{Leaving}
use Rattle.new_edges.specs.Parts.{id_at}
use Rattle.rewrite.specs.Places.{is_own}

-- the part has the block's own word of an offset
abbrev pub has_own : ℕ → Part → Bool
has_own offset q = list_any (λ (w : PatchedWord). is_own offset w.origin) q.words

-- the start of the first such part, or else of the last one
abbrev pub jumping_start : ℕ → Part → List Part → ℕ
jumping_start offset last qs = option_map_or (λ (q : Part). q.start) (find (has_own offset) qs) last.start

-- the part ends in an inserted B, BR or RET
abbrev pub stops_behind : Part → Bool
stops_behind q = option_map_or (λ (w : PatchedWord). is_inserted w && has_row is_last w.word) (last_of q.words) false

-- what falls leave, of a block with this last part
abbrev pub falls_of : Module → List ℕ → Part → Option (List ℕ)
falls_of m block last = if stops_behind last then None else Some (id_at m block last.start)

abbrev pub leaving_from : Module → PatchedBlock → Part → Leaving
leaving_from m b last = record { falls = falls_of m b.id last; jumps = id_at m b.id (jumping_start (b.size - 4) last b.parts) }

-- none where nothing is inserted
abbrev pub leaving_of : Module → PatchedBlock → Option Leaving
leaving_of m b = option_map (leaving_from m b) (last_of b.parts)

abbrev pub leaving_entry : Module → PatchedBlock → List ℕ × Option Leaving
leaving_entry m b = (b.id, leaving_of m b)

-- ---- old edges

abbrev pub from_block : Edge → List ℕ → Edge
from_block e id = record e { source = id }

-- an edge that leaves such a block
abbrev pub edge_left : Edge → Leaving → Option Edge
edge_left e l = if is_fallthrough e then option_map (from_block e) l.falls else Some (from_block e l.jumps)

-- an edge, by where edges leave each block
abbrev pub edge_moved : (List ℕ → Option (Option Leaving)) → Edge → Option Edge
edge_moved found e = option_map_or (edge_left e) (option_and_then (λ (o : Option Leaving). o) (found e.source)) (Some e)
