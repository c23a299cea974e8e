-- Repaired edges and tables of small modules: evaluated, and cited by nothing.
use Rattle.std.proofs.Common.{refl, ◌≡◌, pos}
use Rattle.std.specs.Prelude.{ℕ, true, false, List, [], ◌∷◌, Some, None, codes}
use Rattle.a64_inst.specs.Rows.{table}
use Rattle.aux_codec.specs.Value.{Id, Many, Pairs, values, no_entry, entry}
use Rattle.edge_repair.specs.Edges.{repaired_cfg, new_edges}
use Rattle.edge_repair.specs.Sets.{function_value}
use Rattle.gt_model.specs.declared.edges.Edge.{Edge}
use Rattle.gt_model.specs.declared.edges.Label.{Label}
use Rattle.gt_model.specs.declared.tables.Aux.{Aux}
use Rattle.sym_expr.specs.declared.patches.FunLine.{FunLine}
use Rattle.sym_expr.specs.declared.patches.FunLine.TheVariants as lines
use Rattle.sym_expr.specs.declared.patches.PatchTable.{PatchTable}
use Rattle.sym_expr.specs.declared.patches.SymbolName.TheVariants as names
use Rattle.sym_expr.specs.Derived.{derived, block_text, function_text}
use Rattle.sym_expr.specs.Program.{program}
use Rattle.sym_expr.specs.Tables.{no_tables}
use Rattle.sym_expr.proofs.WorkedImages.{u}
use Rattle.rewrite.proofs.Worked.{call, patches, part_of, five, five_symbol, word, looped}

abbrev label : ℕ → Label
label kind = record { conditional = false; direct = true; kind = pos kind }

abbrev edge : List ℕ → List ℕ → ℕ → Edge
edge source target kind = record { source = source; target = target; label = Some (label kind) }

-- a call and the fall to the next block: the fall leaves the new part, the call its block, and each new end has its own
call_cfg : repaired_cfg call no_tables patches (Some (record { edges = edge (u 5) (u 12) 1 ∷ edge (u 5) (u 11) 2 ∷ []; vertices = u 5 ∷ [] })) ≡
    Some (record {
      edges = edge (u 5) (u 12) 1 ∷ edge (part_of 5 4) (u 11) 2 ∷ edge (u 5) (part_of 5 4) 2 ∷ edge (u 11) five 1 ∷ edge (u 11) (part_of 11 4) 2 ∷ [];
      vertices = u 5 ∷ part_of 5 4 ∷ part_of 11 4 ∷ five ∷ [];
    })
unfolding table
call_cfg = refl

-- where there is no cfg, the new edges make one
made : repaired_cfg call no_tables patches None ≡
    Some (record { edges = edge (u 5) (part_of 5 4) 2 ∷ edge (u 11) five 1 ∷ edge (u 11) (part_of 11 4) 2 ∷ []; vertices = part_of 5 4 ∷ part_of 11 4 ∷ five ∷ [] })
unfolding table
made = refl

-- an inserted return at the end: the fall to the next block is gone, and nothing is left to make a cfg for
abbrev returns : PatchTable
returns = record { inserts = record { block = u 12; offset = 0; body = word 0xd65f03c0 ∷ [] } ∷ record { block = u 11; offset = 8; body = word 0xd65f03c0 ∷ [] } ∷ []; functions = [] }

fall_removed : repaired_cfg call no_tables returns (Some (record { edges = edge (u 11) (u 12) 2 ∷ edge (u 12) (u 9) 3 ∷ []; vertices = [] })) ≡
    Some (record { edges = edge (part_of 12 4) (u 9) 3 ∷ []; vertices = part_of 12 4 ∷ [] })
unfolding table
fall_removed = refl

-- a conditional branch inserted before a word, to a block at whose start a symbol is
abbrev skips : PatchTable
skips = record { inserts = record { block = u 5; offset = 4; body = record { word = 0xb4000000; target = Some (record { symbol = names.Old (u 9); offset = pos 0 }) } ∷ [] } ∷ []; functions = [] }

skip_edges : new_edges looped no_tables skips ≡
    record { source = u 5; target = u 11; label = Some (record (label 0) { conditional = true }) } ∷ edge (u 5) (part_of 5 8) 2 ∷ []
unfolding table
skip_edges = refl

-- ---- a function with a loop: blocks that no control word ends fall to the next, and a label behind the last word is no start

abbrev to_new : List ℕ → ℕ → FunLine
to_new name n = lines.Word (record { word = n; target = Some (record { symbol = names.New name; offset = pos 0 }) })

abbrev looping : PatchTable
looping = record {
  inserts = [];
  functions = record { name = codes "f2"; body = lines.Word (word 0xd503201f) ∷ lines.Label (codes "a") ∷ lines.Word (word 0xd503201f) ∷ to_new (codes "a") 0xb4000000 ∷ to_new (codes "z") 0x14000000 ∷ lines.Label (codes "z") ∷ [] } ∷ [];
}

abbrev block_of_loop : ℕ → List ℕ
block_of_loop k = derived (u 2) (block_text (codes "f2") k)

loop_edges : new_edges call no_tables looping ≡
    edge (block_of_loop 0) (block_of_loop 1) 2 ∷ record { source = block_of_loop 1; target = block_of_loop 1; label = Some (record (label 0) { conditional = true }) } ∷ edge (block_of_loop 1) (block_of_loop 2) 2 ∷ []
unfolding table
loop_edges = refl

-- ---- tables of functions

abbrev named : List ℕ → List ℕ → Aux
named name type = record { name = name; type_name = type; bytes = [] }

sets : function_value call (program call no_tables (record patches { functions = [] })) patches (named (codes "functionBlocks") (codes "mapping<UUID,set<UUID>>"))
    (Pairs (entry (Id (u 13)) (Many (values (Id (u 5) ∷ Id (u 11) ∷ []))) no_entry)) ≡
    Pairs (entry (Id (u 13)) (Many (values (Id (u 5) ∷ Id (part_of 5 4) ∷ Id (u 11) ∷ Id (part_of 11 4) ∷ [])))
    (entry (Id (derived (u 2) (function_text (codes "five")))) (Many (values (Id five ∷ []))) no_entry))
unfolding table
sets = refl

symbols : function_value call (program call no_tables patches) patches (named (codes "functionNames") (codes "mapping<UUID,UUID>")) (Pairs no_entry) ≡
    Pairs (entry (Id (derived (u 2) (function_text (codes "five")))) (Id five_symbol) no_entry)
unfolding table
symbols = refl

-- a table of another type stays
other_type : function_value call (program call no_tables patches) patches (named (codes "functionNames") (codes "mapping<UUID,string>")) (Pairs no_entry) ≡ Pairs no_entry
other_type = refl
