use Rattle.std.proofs.Common.{subst, sym, Ok}
use Rattle.aux_types.specs.Gives.{Fails}
use Rattle.gt_model.specs.declared.ir.Ir.{Ir}
use Rattle.gt_model.specs.Ordered.{ordered}
use Rattle.demo_ir.specs.Demo.{demo_ir}
use Rattle.jobs.specs.Demo.{demonstrated}
use Rattle.jobs.specs.Modules.{linked_up}
use Rattle.jobs.proofs.Binding.{exactly_stops}
use Rattle.jobs.proofs.demo.demo.Goals as goal

pub linked_up-requires : goal.linked_up-requires
linked_up-requires c =
    subst (λ (ir : Ir). ordered ir) (sym c.in_ok-ir.ensures) (c.the_demo_is_ordered.ensures c.args.settings.seed c.args.settings.blocks)

pub returns-in_err-_graph : goal.returns-in_err-_graph
returns-in_err-_graph c =
    let seed = c.args.settings.seed in
    let blocks = c.args.settings.blocks in
    let stopped = subst (λ (ir : Ir). Fails c.in_err-_graph.field-0.0 (linked_up ir)) c.in_ok-ir.ensures c.in_err-_graph.ensures.made in
    exactly_stops (linked_up (demo_ir seed blocks)) (λ ir. Ok (demonstrated seed blocks)) _ _ stopped c.from_residual-in_err-_graph.ensures.1

pub demonstrated-requires-clause-order : goal.demonstrated-requires-clause-order
demonstrated-requires-clause-order c =
    subst (λ (ir : Ir). ordered ir) (sym c.in_ok-ir.ensures) (c.the_demo_is_ordered.ensures c.args.settings.seed c.args.settings.blocks)
