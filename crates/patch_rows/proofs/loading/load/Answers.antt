use Rattle.std.proofs.Common.{◌<◌, ◌^◌, length, sym, subst, arith}
use Rattle.node_arena.specs.Arenas.{module_at}
use Rattle.node_arena.specs.declared.ids.ModuleId.{ModuleId}
use Rattle.node_arena.specs.Plain.{ir_of, plain_module}
use Rattle.sym_expr.specs.Modules.{intervals_of}
use Rattle.patch_rows.proofs.Formed.{intervals_counted, linkable_formed}
use Rattle.patch_rows.proofs.loading.load.Goals as goal

pub returns-clause-formed : goal.returns-clause-formed
returns-clause-formed c =
    let g = c.in_ok-graph.graph in
    let id = c.in-Some.id in
    let m = plain_module g (module_at g id) in
    let live : id.index < length g.modules = subst (λ (i : ModuleId). i.index < length g.modules) (sym c.in-Some.ensures.value.1) c.in-Some.ensures.value.0 in
    let member = c.modules_are_at_their_ordinals.ensures.member g id live in
    let known = c.in_ok-report.ensures in
    let counted = intervals_counted known.0 (ir_of g) m c.in_ok-report.report known.1 in
    let below = c.if-report-ge-MANY.false in
    let few : length (intervals_of m.sections) < 2 ^ 39 = omega arith in
    let its = c.passing_modules_have_programs.ensures known.0 (ir_of g) m c.in_ok-report.report known.1 (record { values = c.in_ok-graph.ensures.typed; links = c.in_ok-graph.ensures.linked }) c.in_ok-graph.ensures.order member in
    linkable_formed (ir_of g) m its few

pub returns-clause-placed : goal.returns-clause-placed
returns-clause-placed c =
    let g = c.in_ok-graph.graph in
    let known = c.in_ok-report.ensures in
    c.passing_modules_have_no_bad_places.ensures known.0 (ir_of g) (plain_module g (module_at g c.in-Some.id)) c.in_ok-report.report known.1
