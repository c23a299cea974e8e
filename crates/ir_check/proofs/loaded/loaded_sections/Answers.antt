use Rattle.std.proofs.Common.{ap, ◌∙◌}
use Rattle.node_arena.specs.declared.nodes.ModuleNode.{ModuleNode}
use Rattle.ir_check.proofs.Live.{live_section_at}
use Rattle.ir_check.proofs.loaded.loaded_sections.Goals as goal

pub is_loaded-requires : goal.is_loaded-requires
is_loaded-requires c =
    live_section_at c.args.graph.now c.args.of c.as_slice-id-items.result.now c.loop-id.id-index c.module.ensures.sound c.requires
    (c.as_slice-id-items.ensures ∙ ap (λ (n : ModuleNode). n.sections) c.module.ensures.value) c.loop-id-test.true
