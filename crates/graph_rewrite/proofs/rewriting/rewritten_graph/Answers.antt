use Rattle.std.proofs.Common.{sym, subst}
use Rattle.gt_model.specs.Linked.{linked}
use Rattle.gt_model.specs.Ordered.{ordered}
use Rattle.node_arena.specs.Arenas.{module_at}
use Rattle.node_arena.specs.Plain.{ir_of, plain_module}
use Rattle.graph_rewrite.proofs.rewriting.rewritten_graph.Goals as goal

pub graph_of-requires-clause-linked : goal.graph_of-requires-clause-linked
graph_of-requires-clause-linked c =
    let g = c.args.graph.now in
    let m = plain_module g (module_at g c.args.module) in
    let p = c.args.patches.now in
    subst linked (sym c.in_ok-ir.ensures.value) (c.rewritten_irs_are_linked.ensures (ir_of g) m p c.requires.formed c.requires.accepted c.in_ok-check_ids.ensures.fault)

pub graph_of-requires-clause-ordered : goal.graph_of-requires-clause-ordered
graph_of-requires-clause-ordered c =
    let g = c.args.graph.now in
    let m = plain_module g (module_at g c.args.module) in
    let p = c.args.patches.now in
    subst ordered (sym c.in_ok-ir.ensures.value) (c.rewritten_irs_are_ordered.ensures (ir_of g) m p c.requires.formed c.requires.accepted)
