-- How new blocks end, with what branches of the patches lead to, and the edges from there.
use Rattle.std.specs.Prelude.{ℕ, false, if◌then◌else◌, List, ◌++◌, Option, Some, None}
use Rattle.std.specs.Option.{option_and_then, option_map, option_map_or, option_to_list}
use Rattle.a64_inst.specs.Kinds.{is_branch}
use Rattle.edge_repair.specs.Ends.{target_start}
use Rattle.edge_repair.specs.Jumps.{branch_label, fallthrough_label, has_row, is_last}
use Rattle.gt_model.specs.declared.edges.Edge.{Edge}
use Rattle.gt_model.specs.declared.modules.Module.{Module}
use Rattle.new_edges.specs.declared.new_end.Branch.{Branch}
use Rattle.new_edges.specs.declared.new_end.NewEnd.{NewEnd}
use Rattle.sym_expr.specs.declared.patches.PatchTable.{PatchTable}
use Rattle.sym_expr.specs.declared.patches.PatchWord.{PatchWord}

-- a branch of a word to a block
abbrev pub branch_to : ℕ → List ℕ → Branch
branch_to word target = record { label = branch_label word; target = target }

-- where a word of the patches leads, if it is a direct branch or call to the start of a block
abbrev pub branch_of : Module → PatchTable → PatchWord → Option Branch
branch_of m p w = if is_branch w.word then option_map (branch_to w.word) (option_and_then (target_start m p) w.target) else None

-- the edge of a branch from a block
abbrev pub branch_from : List ℕ → Branch → Edge
branch_from source b = record { source = source; target = b.target; label = Some b.label }

-- the edge from a block to what follows
abbrev pub fall_to : List ℕ → List ℕ → Edge
fall_to source target = record { source = source; target = target; label = Some fallthrough_label }

abbrev pub next_edge : NewEnd → Option Edge
next_edge e = if option_map_or (has_row is_last) e.word false then None else option_map (fall_to e.id) e.next

-- the branch or call, and then the fall to what follows
abbrev pub edges_of : NewEnd → List Edge
edges_of e = option_to_list (option_map (branch_from e.id) e.branch) ++ option_to_list (next_edge e)
