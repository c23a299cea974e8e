use Rattle.std.proofs.Common.{Err, subst, sym}
use Rattle.gt_model.specs.declared.ir.Ir.{Ir}
use Rattle.node_arena.specs.Arenas.{module_at}
use Rattle.node_arena.specs.Plain.{plain_module}
use Rattle.command_words.specs.Picked.{picked_view}
use Rattle.jobs.specs.Modules.{program_module}
use Rattle.jobs.specs.Programs.{ModuleProgram}
use Rattle.jobs.specs.Stages.{Answers, exactly}
use Rattle.jobs.proofs.Chains.{chain_goes, chain_stops}
use Rattle.jobs.proofs.Programs.{fails_exactly}
use Rattle.jobs.proofs.program.load_program.Goals as goal

pub returns-in_err-loaded-clause-stage : goal.returns-in_err-loaded-clause-stage
returns-in_err-loaded-clause-stage c =
    let asked = picked_view c.args.asked.now in
    let known = program_module asked c.args.ir.now in
    let stopped : Answers (exactly known) (Err c.in_err-loaded.field-0.0) = fails_exactly known c.in_err-loaded.field-0.0 c.in_err-loaded.ensures.made in
    chain_stops (exactly known) (λ m. ModuleProgram c.args.ir.now c.args.text.now m) _ _ stopped c.from_residual.ensures.1

pub returns-clause-stage : goal.returns-clause-stage
returns-clause-stage c =
    let asked = picked_view c.args.asked.now in
    let known = program_module asked c.args.ir.now in
    let g = c.in_ok-loaded.loaded.graph in
    let m = plain_module g (module_at g c.in_ok-loaded.loaded.id) in
    let its = subst (λ (ir : Ir). Answers (ModuleProgram ir c.args.text.now m) c.program_in.result) c.in_ok-loaded.ensures.same c.program_in.ensures.stage in
    chain_goes (exactly known) (λ m. ModuleProgram c.args.ir.now c.args.text.now m) m c.program_in.result (sym c.in_ok-loaded.ensures.made) its
