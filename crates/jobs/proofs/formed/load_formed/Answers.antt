use Rattle.std.proofs.Common.{◌<◌, ◌^◌, ap, length, subst, sym, arith}
use Rattle.std.specs.Prelude.{Contains}
use Rattle.aux_tables.specs.ModuleTables.{tables_of}
use Rattle.gt_model.specs.declared.ir.Ir.{Ir}
use Rattle.ir_check.specs.declared.report.CheckReport.{CheckReport}
use Rattle.node_arena.specs.Arenas.{module_at}
use Rattle.node_arena.specs.Plain.{plain_module}
use Rattle.sym_expr.specs.Linkable.{formed}
use Rattle.sym_expr.specs.Modules.{intervals_of}
use Rattle.command_words.specs.Picked.{picked_view}
use Rattle.jobs.proofs.Programs.{few_loaded, linkable_formed, loaded_linkable, loaded_placed}
use Rattle.jobs.proofs.formed.load_formed.Goals as goal

pub returns-clause-formed : goal.returns-clause-formed
returns-clause-formed c =
    let g = c.in_ok-loaded.loaded.graph in
    let m = plain_module g (module_at g c.in_ok-loaded.loaded.id) in
    let same = c.in_ok-loaded.ensures.same in
    let among = c.modules_are_at_their_ordinals.ensures.member g c.in_ok-loaded.loaded.id c.in_ok-loaded.ensures.live in
    let member = subst (λ (ir : Ir). Contains ir.modules m) same among in
    let its = loaded_linkable (picked_view c.args.asked.now) c.args.ir.now m c.in_ok-loaded.ensures.made c.linked_without_fault.ensures c.passing_modules_have_programs.ensures c.requires.values c.requires.order member in
    let counted = ap (λ (r : CheckReport). r.intervals) c.in_ok-loaded.ensures.report in
    let below = c.if-loaded-ge-MANY.false in
    let few : length (intervals_of m.sections) < 2 ^ 39 = omega arith in
    subst (λ (ir : Ir). formed ir m (tables_of m)) (sym same) (linkable_formed c.args.ir.now m its few)

pub returns-clause-few : goal.returns-clause-few
returns-clause-few c =
    let g = c.in_ok-loaded.loaded.graph in
    let m = plain_module g (module_at g c.in_ok-loaded.loaded.id) in
    let counted = ap (λ (r : CheckReport). r.intervals) c.in_ok-loaded.ensures.report in
    let below = c.if-loaded-ge-MANY.false in
    let few : length (intervals_of m.sections) < 2 ^ 39 = omega arith in
    few_loaded m few

pub returns-clause-placed : goal.returns-clause-placed
returns-clause-placed c =
    let g = c.in_ok-loaded.loaded.graph in
    loaded_placed (picked_view c.args.asked.now) c.args.ir.now (plain_module g (module_at g c.in_ok-loaded.loaded.id)) c.in_ok-loaded.ensures.made
