use Rattle.std.proofs.Common.{◌≡◌, None, [], sym, subst}
use Rattle.ir_check.specs.Faults.{bad_places}
use Rattle.module_program.specs.Graphs.{formed_at}
use Rattle.node_arena.specs.Arenas.{Arenas, module_at}
use Rattle.node_arena.specs.Plain.{ir_of, plain_module}
use Rattle.sym_expr.specs.Modules.{loaded_intervals}
use Rattle.taken_ids.specs.Faults.{id_fault}
use Rattle.patch_rows.proofs.trial.tried.Goals as goal

pub patch-requires-clause-formed : goal.patch-requires-clause-formed
patch-requires-clause-formed c = subst (λ (g : Arenas). formed_at g c.args.loaded.now.id) (sym c.in_ok-graph.ensures) c.requires.formed

pub patch-requires-clause-placed : goal.patch-requires-clause-placed
patch-requires-clause-placed c =
    subst (λ (g : Arenas). bad_places (loaded_intervals (plain_module g (module_at g c.args.loaded.now.id))) (plain_module g (module_at g c.args.loaded.now.id)).aux ≡ []) (sym c.in_ok-graph.ensures) c.requires.placed

pub repaired_ir-requires-clause-free : goal.repaired_ir-requires-clause-free
repaired_ir-requires-clause-free c =
    subst (λ (g : Arenas). id_fault (ir_of g) (plain_module g (module_at g c.args.loaded.now.id)) c.args.patches.now ≡ None) c.in_ok-graph.ensures c.in_ok-said.ensures
