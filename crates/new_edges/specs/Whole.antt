-- Edges and vertices, by the code blocks of a program.
use Rattle.std.specs.Prelude.{ℕ, List, ◌++◌, map, Option, Some, None}
use Rattle.std.specs.List.{filter_map, flat_map}
use Rattle.std.specs.Str.{bytes_eq}
use Rattle.edge_repair.specs.Edges.{made_cfg}
use Rattle.gt_model.specs.declared.edges.Cfg.{Cfg}
use Rattle.gt_model.specs.declared.edges.Edge.{Edge}
use Rattle.gt_model.specs.declared.modules.Module.{Module}
use Rattle.new_edges.specs.declared.blocks.PatchedBlock.{PatchedBlock}
use Rattle.new_edges.specs.Functions.{function_edges, function_ids}
use Rattle.new_edges.specs.Keyed.{value_at}
use Rattle.new_edges.specs.Leaving.{edge_moved, leaving_entry}
use Rattle.new_edges.specs.Parts.{block_edges, later_ids}
use Rattle.sym_expr.specs.declared.patches.PatchTable.{PatchTable}

-- the edges from new blocks
abbrev pub edges_among : Module → PatchTable → List PatchedBlock → List Edge
edges_among m p blocks = flat_map (block_edges m p) blocks ++ flat_map (function_edges m p) p.functions

-- the new blocks
abbrev pub vertices_among : Module → PatchTable → List PatchedBlock → List (List ℕ)
vertices_among m p blocks = flat_map (later_ids m) blocks ++ flat_map (function_ids m p) p.functions

-- what is left of old edges
abbrev pub old_edges : Module → List PatchedBlock → List Edge → List Edge
old_edges m blocks edges = filter_map (edge_moved (λ id. value_at bytes_eq id (map (leaving_entry m) blocks))) edges

-- a cfg with its old edges moved, and with what is new
abbrev pub cfg_grown : Module → PatchTable → List PatchedBlock → Cfg → Cfg
cfg_grown m p blocks c = record {
  edges = old_edges m blocks c.edges ++ edges_among m p blocks;
  vertices = c.vertices ++ vertices_among m p blocks;
}

abbrev pub cfg_among : Module → PatchTable → List PatchedBlock → Option Cfg → Option Cfg
cfg_among m p blocks None = made_cfg (edges_among m p blocks) (vertices_among m p blocks)
cfg_among m p blocks (Some c) = Some (cfg_grown m p blocks c)
