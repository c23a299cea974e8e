use Rattle.std.proofs.Common.{subst, sym}
use Rattle.aux_tables.specs.ModuleTables.{tables_of}
use Rattle.node_arena.specs.Arenas.{module_at}
use Rattle.node_arena.specs.Plain.{ir_of, plain_module}
use Rattle.placed_images.specs.Typed.{IsTyped, HasNearEntries}
use Rattle.sym_expr.specs.WellMade.{well_made}
use Rattle.jobs.proofs.program.patched_program.Goals as goal

pub returns-clause-well : goal.returns-clause-well
returns-clause-well c =
    let g = c.args.loaded.now.graph in
    let m = plain_module g (module_at g c.args.loaded.now.id) in
    let p = c.in_ok-patches.patches in
    let its = c.patched_programs_are_well_made.ensures (ir_of g) m (tables_of m) p c.requires.formed c.requires.few c.in_ok-patches.ensures.table c.in_ok-are_free.ensures.free in
    subst well_made (sym c.in_ok-program_of.ensures) its

pub returns-clause-typed : goal.returns-clause-typed
returns-clause-typed c =
    let g = c.args.loaded.now.graph in
    let m = plain_module g (module_at g c.args.loaded.now.id) in
    let p = c.in_ok-patches.patches in
    let table = c.in_ok-patches.ensures.table in
    let its = c.patched_programs_are_typed.ensures.typed (ir_of g) m (tables_of m) p c.requires.formed table.typed in
    subst IsTyped (sym c.in_ok-program_of.ensures) its

pub returns-clause-near : goal.returns-clause-near
returns-clause-near c =
    let g = c.args.loaded.now.graph in
    let m = plain_module g (module_at g c.args.loaded.now.id) in
    let p = c.in_ok-patches.patches in
    let its = c.patched_programs_are_typed.ensures.near (ir_of g) m (tables_of m) p c.requires.formed c.requires.few c.in_ok-patches.ensures.table c.in_ok-are_free.ensures.free in
    subst HasNearEntries (sym c.in_ok-program_of.ensures) its
