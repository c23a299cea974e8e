-- The edges of a repaired IR: old ones leave the part that they left, and the ends of new blocks have theirs.
use Rattle.std.specs.Prelude.{ℕ, pos, ◌-◌, Bool, false, ◌==◌, ◌&&◌, if◌then◌else◌, List, [], ◌∷◌, ◌++◌, length, map, drop, find, Option, Some, None, is_some}
use Rattle.std.specs.List.{flat_map, filter_map}
use Rattle.std.specs.Option.{option_map, option_map_or, option_and_then, option_to_list}
use Rattle.std.specs.Ordering.{int_eq}
use Rattle.a64_inst.specs.Kinds.{is_branch}
use Rattle.block_parts.specs.declared.parts.Part.{Part}
use Rattle.block_parts.specs.declared.words.PatchedWord.{PatchedWord}
use Rattle.block_parts.specs.Parts.{parts}
use Rattle.block_parts.specs.Words.{is_inserted}
use Rattle.gt_model.specs.declared.edges.Cfg.{Cfg}
use Rattle.gt_model.specs.declared.edges.Edge.{Edge}
use Rattle.gt_model.specs.declared.edges.Label.{Label}
use Rattle.gt_model.specs.declared.modules.Module.{Module}
use Rattle.edge_repair.specs.Ends.{End, ends, last_of, own_blocks, target_start}
use Rattle.edge_repair.specs.Jumps.{branch_label, fallthrough_label, has_row, is_last}
use Rattle.rewrite.specs.Identifiers.{last_part, part_id}
use Rattle.rewrite.specs.Places.{depth_of}
use Rattle.sym_expr.specs.declared.patches.Function.{Function}
use Rattle.sym_expr.specs.declared.patches.PatchTable.{PatchTable}
use Rattle.sym_expr.specs.declared.patches.PatchWord.{PatchWord}
use Rattle.sym_expr.specs.declared.program.CodeBlock.{CodeBlock}
use Rattle.sym_expr.specs.declared.program.Program.{Program}
use Rattle.sym_expr.specs.Patches.{function_blocks}
use Rattle.sym_expr.specs.Points.{code_at, code_size}
use Rattle.sym_expr.specs.Program.{program}
use Rattle.sym_expr.specs.TableOk.{block_ids}
use Rattle.sym_expr.specs.Tables.{Tables}

-- ---- old edges

-- an edge without a label is none
abbrev pub is_fallthrough : Edge → Bool
is_fallthrough e = option_map_or (λ (l : Label). int_eq l.kind (pos 2)) e.label false

-- the last part ends in an inserted B, BR or RET
abbrev pub never_goes_on : CodeBlock → Bool
never_goes_on b = option_map_or (λ (w : PatchedWord). is_inserted w && has_row is_last w.word) (last_of (last_part (parts b)).words) false

-- the part that has the block's own last word, or else the last part
abbrev pub has_last : CodeBlock → Part → Bool
has_last b q = is_some (depth_of (code_size b - 4) q.words)

abbrev pub leaving_part : CodeBlock → Part
leaving_part b = option_map_or (λ (q : Part). q) (find (has_last b) (parts b)) (last_part (parts b))

-- the edge from a part of a block
abbrev pub edge_from : Module → CodeBlock → Edge → Part → Edge
edge_from m b e q = record e { source = part_id m b.id q }

-- an edge that leaves a block in which words are inserted, or none where it is removed
abbrev pub split_edge : Module → CodeBlock → Edge → Option Edge
split_edge m b e =
    if is_fallthrough e then (if never_goes_on b then None else Some (edge_from m b e (last_part (parts b))))
    else Some (edge_from m b e (leaving_part b))

-- an edge that leaves another block, or a block of another module, stays
abbrev pub moved_edge : Module → Program → Edge → Option Edge
moved_edge m g e = option_map_or (λ (b : CodeBlock). if length b.inserted == 0 then Some e else split_edge m b e) (code_at g e.source) (Some e)

-- ---- new edges

abbrev pub edge_to : End → Label → List ℕ → Edge
edge_to e label target = record { source = e.id; target = target; label = Some label }

-- an inserted direct branch or call leads to the block at whose start its target is
abbrev pub word_edge : Module → PatchTable → End → PatchWord → Option Edge
word_edge m p e w = if is_branch w.word then option_map (edge_to e (branch_label w.word)) (option_and_then (target_start m p) w.target) else None

abbrev pub branch_edge : Module → PatchTable → End → Option Edge
branch_edge m p e = option_and_then (word_edge m p e) e.brought

-- what follows is reached unless the last word is B, BR or RET
abbrev pub next_edge : End → Option Edge
next_edge e = if option_map_or (has_row is_last) e.word false then None else option_map (edge_to e fallthrough_label) e.next

-- the branch or call comes before the fall to what follows
abbrev pub end_edges : Module → PatchTable → End → List Edge
end_edges m p e = option_to_list (branch_edge m p e) ++ option_to_list (next_edge e)

abbrev pub new_edges : Module → Tables → PatchTable → List Edge
new_edges m t p = flat_map (end_edges m p) (ends m t p)

-- ---- vertices

-- the identifiers of the later parts of a block
abbrev pub later_parts : Module → CodeBlock → List (List ℕ)
later_parts m b = map (part_id m b.id) (drop 1 (parts b))

-- the new blocks: parts in block order, and then the blocks of functions
abbrev pub new_vertices : Module → Tables → PatchTable → List (List ℕ)
new_vertices m t p = flat_map (later_parts m) (own_blocks m t p) ++ flat_map (λ (f : Function). block_ids m f 0 (function_blocks f)) p.functions

-- ---- the whole

-- where there is no cfg, new edges make one
abbrev pub made_cfg : List Edge → List (List ℕ) → Option Cfg
made_cfg [] vertices = None
made_cfg (e ∷ es) vertices = Some (record { edges = e ∷ es; vertices = vertices })

abbrev pub repaired_cfg : Module → Tables → PatchTable → Option Cfg → Option Cfg
repaired_cfg m t p None = made_cfg (new_edges m t p) (new_vertices m t p)
repaired_cfg m t p (Some c) = Some (record {
  edges = filter_map (moved_edge m (program m t p)) c.edges ++ new_edges m t p;
  vertices = c.vertices ++ new_vertices m t p;
})
