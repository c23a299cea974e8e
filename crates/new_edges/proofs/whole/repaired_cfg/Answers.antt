use Rattle.std.proofs.Common.{ap, ◌∙◌}
use Rattle.gt_model.specs.declared.ir.Ir.{Ir}
use Rattle.new_edges.proofs.Cfgs.{cfg_of_context}
use Rattle.new_edges.proofs.whole.repaired_cfg.Goals as goal
use Rattle.node_arena.specs.Arenas.{module_at}
use Rattle.node_arena.specs.Plain.{ir_of, plain_module}

pub returns : goal.returns
returns c =
    let g = c.args.graph.now in
    let m = plain_module g (module_at g c.args.module) in
    let from = c.in_ok-context.ensures.from in
    c.in_ok-cfg.ensures
    ∙ cfg_of_context m c.in_ok-context.context.module.now c.args.patches.now c.in_ok-context.context.patches.now c.as_slice.result.now c.args.program.now (ir_of g).cfg c.in_ok-ir.ir.cfg c.whole_blocks_are_one_part.ensures
    (from.0 ∙ c.in_ok-plain.ensures) from.1 (c.as_slice.ensures.value ∙ c.in_ok-blocks.ensures) c.requires.patched (ap (λ (x : Ir). x.cfg) c.in_ok-ir.ensures.value)
