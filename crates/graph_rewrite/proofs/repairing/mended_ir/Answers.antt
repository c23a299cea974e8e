use Rattle.std.proofs.Common.{◌≡◌, List, Option, Some, ap, subst, ◌∙◌}
use Rattle.std.specs.Prelude.{position, slice_set}
use Rattle.std.specs.Str.{bytes_eq}
use Rattle.graph_rewrite.specs.Moved.{mended}
use Rattle.gt_model.specs.declared.edges.Cfg.{Cfg}
use Rattle.gt_model.specs.declared.ir.Ir.{Ir}
use Rattle.gt_model.specs.declared.modules.Module.{Module}
use Rattle.gt_model.specs.declared.tables.Aux.{Aux}
use Rattle.gt_model.specs.Linked.{linked}
use Rattle.node_arena.specs.Arenas.{module_at}
use Rattle.node_arena.specs.Plain.{ir_of, plain_module}
use Rattle.graph_rewrite.proofs.repairing.mended_ir.Goals as goal

pub returns : goal.returns
returns c =
    let g = c.args.graph.now in
    let k = c.args.module.index in
    let n = plain_module g (module_at g c.args.module) in
    let moved = c.args.moved.now in
    let ir = c.in_ok-ir.ir in
    let plain = c.in_ok-plain.plain in
    let read : ir ≡ ir_of g = c.in_ok-ir.ensures.value in
    let at = c.modules_are_at_their_ordinals.ensures.at g c.args.module c.requires in
    let links : linked (ir_of g) = subst linked read c.in_ok-ir.ensures.linked in
    let place : position (λ (x : Module). bytes_eq x.uuid plain.uuid) ir.modules ≡ Some k =
    ap (λ (x : Module). position (λ (y : Module). bytes_eq y.uuid x.uuid) ir.modules) c.in_ok-plain.ensures
    ∙ ap (λ (x : Ir). position (λ (y : Module). bytes_eq y.uuid n.uuid) x.modules) read
    ∙ c.one_module_is_set.ensures.place (ir_of g) k n links at in
    ap (λ (x : Ir). record x { cfg = c.in_ok-ir-2.field-0 }) (c.with_module-ir.ensures k place)
    ∙ ap (λ (x : Option Cfg). record ir { modules = slice_set ir.modules k (record plain { aux = c.in_ok-plain-2.field-0 }); cfg = x }) c.in_ok-ir-2.ensures
    ∙ ap (λ (x : List Aux). record ir { modules = slice_set ir.modules k (record plain { aux = x }); cfg = moved.cfg }) c.in_ok-plain-2.ensures
    ∙ ap (λ (x : Ir). mended x k plain moved) read
    ∙ ap (λ (x : Module). mended (ir_of g) k x moved) c.in_ok-plain.ensures
