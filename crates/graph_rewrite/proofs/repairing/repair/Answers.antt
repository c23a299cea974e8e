use Rattle.std.proofs.Common.{◌≡◌, sym, subst, ◌∙◌}
use Rattle.aux_tables.specs.ModuleTables.{tables_of}
use Rattle.edge_repair.specs.Repaired.{repaired}
use Rattle.gt_model.specs.declared.ir.Ir.{Ir}
use Rattle.gt_model.specs.declared.modules.Module.{Module}
use Rattle.gt_model.specs.Linked.{linked}
use Rattle.gt_model.specs.Ordered.{ordered}
use Rattle.node_arena.specs.Arenas.{module_at}
use Rattle.node_arena.specs.Plain.{ir_of, plain_module}
use Rattle.graph_rewrite.proofs.Mending.{mended_is_repaired}
use Rattle.graph_rewrite.proofs.repairing.repair.Goals as goal

pub graph_of-requires-clause-linked : goal.graph_of-requires-clause-linked
graph_of-requires-clause-linked c =
    let g = c.args.graph.now in
    let id = c.args.module in
    let was = c.requires.applied in
    let ir = was.0 in
    let m = was.1 in
    let p = was.2 in
    let set = λ (f : Module → Module). c.one_module_is_set.ensures.set ir id.index m f was.3.program.linked.links was.3.place in
    let found = c.modules_are_at_their_ordinals.ensures.at g id c.requires.live in
    let made : c.in_ok-ir.ir ≡ repaired ir m (tables_of m) p =
    c.in_ok-ir.ensures
    ∙ mended_is_repaired g id c.args.moved.now ir m (plain_module g (module_at g id)) p was.3 set found in
    subst linked (sym made) (c.repaired_irs_are_linked.ensures.linked ir m p was.3.program was.3.accepted was.3.free)

pub graph_of-requires-clause-ordered : goal.graph_of-requires-clause-ordered
graph_of-requires-clause-ordered c =
    let g = c.args.graph.now in
    let id = c.args.module in
    let was = c.requires.applied in
    let ir = was.0 in
    let m = was.1 in
    let p = was.2 in
    let set = λ (f : Module → Module). c.one_module_is_set.ensures.set ir id.index m f was.3.program.linked.links was.3.place in
    let found = c.modules_are_at_their_ordinals.ensures.at g id c.requires.live in
    let made : c.in_ok-ir.ir ≡ repaired ir m (tables_of m) p =
    c.in_ok-ir.ensures
    ∙ mended_is_repaired g id c.args.moved.now ir m (plain_module g (module_at g id)) p was.3 set found in
    subst ordered (sym made) (c.repaired_irs_are_linked.ensures.ordered ir m p was.3.program was.3.accepted)

pub returns-clause-repaired : goal.returns-clause-repaired
returns-clause-repaired c ir m p applied =
    let g = c.args.graph.now in
    let id = c.args.module in
    let set = λ (f : Module → Module). c.one_module_is_set.ensures.set ir id.index m f applied.program.linked.links applied.place in
    let found = c.modules_are_at_their_ordinals.ensures.at g id c.requires.live in
    c.in_ok-made.ensures
    ∙ c.in_ok-ir.ensures
    ∙ mended_is_repaired g id c.args.moved.now ir m (plain_module g (module_at g id)) p applied set found
