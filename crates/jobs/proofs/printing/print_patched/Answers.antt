use Rattle.node_arena.specs.Arenas.{module_at}
use Rattle.node_arena.specs.Plain.{ir_of, plain_module}
use Rattle.sym_expr.specs.declared.patches.PatchTable.{PatchTable}
use Rattle.jobs.specs.Printing.{text_free}
use Rattle.jobs.specs.Programs.{patches_in}
use Rattle.jobs.specs.Stages.{exactly}
use Rattle.jobs.proofs.Binding.{chain_gives}
use Rattle.jobs.proofs.Chains.{chain_stops}
use Rattle.jobs.proofs.printing.print_patched.Goals as goal

pub returns-in_err-patches : goal.returns-in_err-patches
returns-in_err-patches c =
    let g = c.args.loaded.now.graph in
    let m = plain_module g (module_at g c.args.loaded.now.id) in
    chain_stops (patches_in c.args.text.now m) (λ (p : PatchTable). exactly (text_free (ir_of g) m p)) _ _ c.in_err-patches.ensures.stage c.from_residual.ensures.1

pub returns : goal.returns
returns c =
    let g = c.args.loaded.now.graph in
    let m = plain_module g (module_at g c.args.loaded.now.id) in
    chain_gives (patches_in c.args.text.now m) (text_free (ir_of g) m) c.in_ok-patches.patches c.print_free.result c.in_ok-patches.ensures.stage c.print_free.ensures
