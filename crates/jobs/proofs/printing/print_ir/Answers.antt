use Rattle.std.proofs.Common.{◌≡◌, Err, List, Option, ℕ, Ok, subst, sym}
use Rattle.gt_model.specs.declared.ir.Ir.{Ir}
use Rattle.node_arena.specs.Arenas.{module_at}
use Rattle.node_arena.specs.Plain.{ir_of, plain_module}
use Rattle.command_words.specs.declared.role.Role.TheVariants.{Patch}
use Rattle.command_words.specs.Picked.{picked_view}
use Rattle.jobs.specs.Contents.{contents_view}
use Rattle.jobs.specs.Modules.{program_module}
use Rattle.jobs.specs.Printing.{PrintsModule}
use Rattle.jobs.specs.Stages.{Answers, exactly}
use Rattle.jobs.proofs.Chains.{chain_goes, chain_stops}
use Rattle.jobs.proofs.Programs.{fails_exactly}
use Rattle.jobs.proofs.printing.print_ir.Goals as goal

pub returns-in_err-loaded : goal.returns-in_err-loaded
returns-in_err-loaded c =
    let asked = picked_view c.args.asked.now in
    let contents = contents_view c.args.contents.now in
    let known = program_module asked c.args.ir.now in
    let stopped : Answers (exactly known) (Err c.in_err-loaded.field-0.0) = fails_exactly known c.in_err-loaded.field-0.0 c.in_err-loaded.ensures.made in
    chain_stops (exactly known) (λ m. PrintsModule c.args.ir.now (contents Patch) m) _ _ stopped c.from_residual.ensures.1

pub returns : goal.returns
returns c =
    let asked = picked_view c.args.asked.now in
    let contents = contents_view c.args.contents.now in
    let known = program_module asked c.args.ir.now in
    let g = c.in_ok-loaded.loaded.graph in
    let m = plain_module g (module_at g c.in_ok-loaded.loaded.id) in
    let texts = subst (λ (text : Option (List ℕ)). Answers (PrintsModule (ir_of g) text m) c.print_module.result) c.of.ensures c.print_module.ensures in
    let its = subst (λ (ir : Ir). Answers (PrintsModule ir (contents Patch) m) c.print_module.result) c.in_ok-loaded.ensures.same texts in
    chain_goes (exactly known) (λ m. PrintsModule c.args.ir.now (contents Patch) m) m c.print_module.result (sym c.in_ok-loaded.ensures.made) its
