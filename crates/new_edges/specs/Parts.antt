-- The ends of parts, and the identifiers of later parts.
use Rattle.std.specs.Prelude.{ℕ, ◌==◌, if◌then◌else◌, List, [], ◌∷◌, drop, map, Option, None, slice_get}
use Rattle.std.specs.List.{flat_map}
use Rattle.std.specs.Option.{option_and_then, option_map}
use Rattle.block_parts.specs.declared.parts.Part.{Part}
use Rattle.block_parts.specs.declared.words.Origin.{Origin}
use Rattle.block_parts.specs.declared.words.Origin.TheVariants.{Own, Inserted}
use Rattle.block_parts.specs.declared.words.PatchedWord.{PatchedWord}
use Rattle.edge_repair.specs.Edges.{end_edges}
use Rattle.edge_repair.specs.Ends.{last_of, part_ends}
use Rattle.gt_model.specs.declared.edges.Edge.{Edge}
use Rattle.gt_model.specs.declared.modules.Module.{Module}
use Rattle.new_edges.specs.declared.blocks.PatchedBlock.{PatchedBlock}
use Rattle.new_edges.specs.declared.new_end.Branch.{Branch}
use Rattle.new_edges.specs.declared.new_end.NewEnd.{NewEnd}
use Rattle.rewrite.specs.Identifiers.{part_id}
use Rattle.sym_expr.specs.declared.patches.PatchTable.{PatchTable}
use Rattle.sym_expr.specs.Derived.{derived, part_text}

-- the part of a block that begins at an offset
abbrev pub id_at : Module → List ℕ → ℕ → List ℕ
id_at m block start = if start == 0 then block else derived m.uuid (part_text block start)

-- where a word leads, by the branches of the words that are inserted in its block
abbrev pub origin_branch : List (Option Branch) → Origin → Option Branch
origin_branch news (Own offset) = None
origin_branch news (Inserted k) = option_and_then (λ (b : Option Branch). b) (slice_get news k)

-- the end of a part, by those branches
abbrev pub part_seen : Module → List (Option Branch) → List ℕ → Part → Option Part → NewEnd
part_seen m news block q next = record {
  id = part_id m block q;
  word = option_map (λ (w : PatchedWord). w.word) (last_of q.words);
  branch = option_and_then (λ (w : PatchedWord). origin_branch news w.origin) (last_of q.words);
  next = option_map (part_id m block) next;
}

-- the edges from the ends of a block's parts
abbrev pub block_edges : Module → PatchTable → PatchedBlock → List Edge
block_edges m p b = flat_map (end_edges m p) (part_ends m p b.id b.parts)

-- the identifiers of its later parts
abbrev pub later_ids : Module → PatchedBlock → List (List ℕ)
later_ids m b = map (part_id m b.id) (drop 1 b.parts)
