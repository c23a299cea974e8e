use Rattle.node_arena.specs.Arenas.{module_at}
use Rattle.node_arena.specs.Plain.{ir_of, plain_module}
use Rattle.sym_expr.specs.declared.patches.PatchTable.{PatchTable}
use Rattle.jobs.specs.Rewriting.{patches_of, repaired_free}
use Rattle.jobs.specs.Stages.{exactly}
use Rattle.jobs.proofs.Binding.{chain_gives}
use Rattle.jobs.proofs.Chains.{chain_stops}
use Rattle.jobs.proofs.rewriting.repaired_module.Goals as goal

pub returns-in_err-patches-clause-stage : goal.returns-in_err-patches-clause-stage
returns-in_err-patches-clause-stage c =
    let g = c.args.loaded.now.graph in
    let m = plain_module g (module_at g c.args.loaded.now.id) in
    chain_stops (patches_of c.args.text.now m) (λ (p : PatchTable). exactly (repaired_free (ir_of g) m p)) _ _ c.in_err-patches.ensures.stage c.from_residual.ensures.1

pub returns-clause-stage : goal.returns-clause-stage
returns-clause-stage c =
    let g = c.args.loaded.now.graph in
    let m = plain_module g (module_at g c.args.loaded.now.id) in
    chain_gives (patches_of c.args.text.now m) (repaired_free (ir_of g) m) c.in_ok-patches.patches c.repaired_free.result c.in_ok-patches.ensures.stage c.repaired_free.ensures.made
