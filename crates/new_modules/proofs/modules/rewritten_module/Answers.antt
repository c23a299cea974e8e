use Rattle.std.proofs.Common.{Result, Ok, Err, ◌≡◌, ◌<◌, ◌^◌, length, sym, ap, subst, ◌∙◌, arith}
use Rattle.std.specs.Prelude.{IfOk, OnOk}
use Rattle.aux_tables.specs.ModuleTables.{tables_of}
use Rattle.gt_model.specs.declared.modules.Module.{Module}
use Rattle.module_program.specs.Graphs.{patched_in}
use Rattle.node_arena.specs.Arenas.{module_at}
use Rattle.node_arena.specs.Plain.{ir_of, plain_module}
use Rattle.rewrite.specs.Rewritten.{rewritten_module}
use Rattle.sym_expr.specs.declared.program.Program.{Program}
use Rattle.sym_expr.specs.Modules.{loaded_intervals}
use Rattle.sym_expr.specs.WellMade.{well_made}
use Rattle.new_modules.proofs.OneModule.{intervals_few}
use Rattle.new_modules.proofs.modules.rewritten_module.Goals as goal

-- what holds anyway holds where a call is Ok
on_ok : {A E : Type 0} (r : Result A E) (P : Type 0) → P → OnOk r P
on_ok (Ok x) P its = its
on_ok (Err e) P its = tt

pub rewritten_plain-requires-clause-well : goal.rewritten_plain-requires-clause-well
rewritten_plain-requires-clause-well c =
    let g = c.args.graph.now in
    let m = plain_module g (module_at g c.args.module) in
    let t = tables_of m in
    let p = c.args.patches.now in
    let most = intervals_few m t p in
    let same = ap (λ (x : Program). length x.stretches) c.requires.program in
    let few : length (loaded_intervals m) < 2 ^ 39 = omega (arith, most, same, c.len-count.ensures, c.if-count-ge-MOST.false) in
    subst well_made (sym c.requires.program) (c.patched_programs_are_well_made.ensures (ir_of g) m t p c.requires.formed few c.requires.accepted c.requires.free)

pub rewritten_plain-requires-clause-program : goal.rewritten_plain-requires-clause-program
rewritten_plain-requires-clause-program c = c.requires.program ∙ ap (λ (x : Module). patched_in x c.args.patches.now) (sym c.in_ok-plain.ensures)

pub rewritten_plain-requires-clause-distinct : goal.rewritten_plain-requires-clause-distinct
rewritten_plain-requires-clause-distinct c = c.requires.accepted.distinct

pub returns-clause-value : goal.returns-clause-value
returns-clause-value c =
    let g = c.args.graph.now in
    let p = c.args.patches.now in
    let whole = λ (x : Module). IfOk c.rewritten_plain.result (λ (made : Module). made ≡ rewritten_module x (tables_of x) p) in
    subst whole c.in_ok-plain.ensures c.rewritten_plain.ensures

pub returns-clause-well : goal.returns-clause-well
returns-clause-well c =
    let g = c.args.graph.now in
    let m = plain_module g (module_at g c.args.module) in
    let t = tables_of m in
    let p = c.args.patches.now in
    let most = intervals_few m t p in
    let same = ap (λ (x : Program). length x.stretches) c.requires.program in
    let few : length (loaded_intervals m) < 2 ^ 39 = omega (arith, most, same, c.len-count.ensures, c.if-count-ge-MOST.false) in
    on_ok c.rewritten_plain.result (well_made c.args.program.now) (subst well_made (sym c.requires.program) (c.patched_programs_are_well_made.ensures (ir_of g) m t p c.requires.formed few c.requires.accepted c.requires.free))
