use Rattle.std.proofs.Common.{◌≡◌, sym, ap, ◌∙◌}
use Rattle.std.specs.Prelude.{Some, position, slice_set}
use Rattle.std.specs.Str.{bytes_eq}
use Rattle.aux_tables.specs.ModuleTables.{tables_of}
use Rattle.gt_model.specs.declared.ir.Ir.{Ir}
use Rattle.gt_model.specs.declared.modules.Module.{Module}
use Rattle.node_arena.specs.Arenas.{module_at}
use Rattle.node_arena.specs.Plain.{ir_of, plain_module}
use Rattle.rewrite.specs.Rewritten.{rewritten_module}
use Rattle.new_modules.proofs.OneModule.{placed, whole_set}
use Rattle.new_modules.proofs.modules.rewritten_ir.Goals as goal

pub returns-clause-value : goal.returns-clause-value
returns-clause-value c =
    let g = c.args.graph.now in
    let id = c.args.module in
    let m = plain_module g (module_at g id) in
    let t = tables_of m in
    let p = c.args.patches.now in
    let made_is : c.in_ok-made.made ≡ rewritten_module m t p = c.in_ok-made.ensures.value in
    let links = c.requires.formed.linked.links in
    let at = c.modules_are_at_their_ordinals.ensures.at g id c.requires.live in
    let found : position (λ (x : Module). bytes_eq x.uuid c.in_ok-made.made.uuid) c.in_ok-ir.ir.modules ≡ Some id.index =
    ap (λ (n : Module). position (λ (x : Module). bytes_eq x.uuid n.uuid) c.in_ok-ir.ir.modules) made_is
    ∙ ap (λ (x : Ir). position (λ (y : Module). bytes_eq y.uuid m.uuid) x.modules) c.in_ok-ir.ensures.value
    ∙ placed (ir_of g) id.index m links at in
    c.with_module.ensures id.index found
    ∙ ap (λ (x : Ir). record x { modules = slice_set x.modules id.index c.in_ok-made.made }) c.in_ok-ir.ensures.value
    ∙ ap (λ (n : Module). record (ir_of g) { modules = slice_set (ir_of g).modules id.index n }) made_is
    ∙ whole_set (ir_of g) id.index m t p links at
