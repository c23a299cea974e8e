use Rattle.node_arena.specs.Arenas.{module_at}
use Rattle.node_arena.specs.Plain.{ir_of, plain_module}
use Rattle.placed_images.specs.Typed.{IsTyped, HasNearEntries}
use Rattle.jobs.proofs.Programs.{given_by}
use Rattle.jobs.proofs.program.plain_program.Goals as goal

pub returns-clause-typed : goal.returns-clause-typed
returns-clause-typed c =
    let g = c.args.loaded.now.graph in
    let m = plain_module g (module_at g c.args.loaded.now.id) in
    let its = c.programs_are_typed.ensures.typed (ir_of g) m _ c.requires.formed in
    given_by IsTyped its c.unpatched_program.result c.unpatched_program.ensures.value

pub returns-clause-near : goal.returns-clause-near
returns-clause-near c =
    let g = c.args.loaded.now.graph in
    let m = plain_module g (module_at g c.args.loaded.now.id) in
    let its = c.programs_are_typed.ensures.near (ir_of g) m _ c.requires.formed in
    given_by HasNearEntries its c.unpatched_program.result c.unpatched_program.ensures.value
