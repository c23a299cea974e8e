use Rattle.std.proofs.Common.{◌≡◌, List, Option, Some, sym, ap, subst, ◌∙◌}
use Rattle.std.specs.Prelude.{position, slice_set}
use Rattle.std.specs.Str.{bytes_eq}
use Rattle.aux_tables.specs.ModuleTables.{tables_of}
use Rattle.edge_repair.specs.Edges.{repaired_cfg}
use Rattle.edge_repair.specs.Repaired.{repaired_module}
use Rattle.gt_model.specs.declared.edges.Cfg.{Cfg}
use Rattle.gt_model.specs.declared.ir.Ir.{Ir}
use Rattle.gt_model.specs.declared.modules.Module.{Module}
use Rattle.gt_model.specs.declared.tables.Aux.{Aux}
use Rattle.gt_model.specs.Ordered.{ordered}
use Rattle.node_arena.specs.Arenas.{module_at}
use Rattle.node_arena.specs.Plain.{ir_of, plain_module}
use Rattle.rewrite.specs.Rewritten.{rewritten_module}
use Rattle.new_irs.proofs.repaired.repaired_ir.Goals as goal

pub returns-clause-made : goal.returns-clause-made
returns-clause-made c =
    let g = c.args.graph.now in
    let k = c.args.module.index in
    let m = plain_module g (module_at g c.args.module) in
    let t = tables_of m in
    let p = c.args.patches.now in
    let old = (ir_of g).modules in
    let cfg = c.in_ok-cfg.cfg in
    let tables = c.in_ok-tables.tables in
    let at = c.modules_are_at_their_ordinals.ensures.at g c.args.module c.requires.live in
    let links = c.requires.formed.linked.links in
    let read : c.in_ok-ir.ir ≡ ir_of g = c.in_ok-ir.ensures.value in
    let made : c.in_ok-made.made ≡ rewritten_module m t p = c.in_ok-made.ensures.value in
    let place : position (λ (x : Module). bytes_eq x.uuid c.in_ok-made.made.uuid) c.in_ok-ir.ir.modules ≡ Some k =
    ap (λ (x : Module). position (λ (y : Module). bytes_eq y.uuid x.uuid) c.in_ok-ir.ir.modules) made
    ∙ ap (λ (x : Ir). position (λ (y : Module). bytes_eq y.uuid m.uuid) x.modules) read
    ∙ c.one_module_is_set.ensures.place (ir_of g) k m links at in
    ap (λ (x : Ir). record x { cfg = cfg }) (c.with_module-ir.ensures k place)
    ∙ ap (λ (x : Ir). record x { modules = slice_set x.modules k (record c.in_ok-made.made { aux = tables }); cfg = cfg }) read
    ∙ ap (λ (x : Module). record (ir_of g) { modules = slice_set old k (record x { aux = tables }); cfg = cfg }) made
    ∙ ap (λ (x : List Aux). record (ir_of g) { modules = slice_set old k (record (rewritten_module m t p) { aux = x }); cfg = cfg }) c.in_ok-tables.ensures
    ∙ ap (λ (x : Option Cfg). record (ir_of g) { modules = slice_set old k (repaired_module m t p); cfg = x }) c.in_ok-cfg.ensures
    ∙ ap (λ (x : List Module). record (ir_of g) { modules = x; cfg = repaired_cfg m t p (ir_of g).cfg })
    (c.one_module_is_set.ensures.set (ir_of g) k m (λ (x : Module). repaired_module x t p) links at)

pub returns-clause-order : goal.returns-clause-order
returns-clause-order c =
    let g = c.args.graph.now in
    let m = plain_module g (module_at g c.args.module) in
    subst (λ (x : Ir). ordered x) (sym (returns-clause-made c)) (c.repaired_irs_are_linked.ensures.ordered (ir_of g) m c.args.patches.now c.requires.formed c.requires.accepted)

pub rewritten_module-requires-clause-free : goal.rewritten_module-requires-clause-free
rewritten_module-requires-clause-free c =
    let g = c.args.graph.now in
    c.free_without_fault.ensures (ir_of g) (plain_module g (module_at g c.args.module)) c.args.patches.now c.requires.free
