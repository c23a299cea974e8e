use Rattle.std.proofs.Common.{sym, ◌∙◌}
use Rattle.std.specs.List.{flat_map}
use Rattle.gt_model.specs.declared.modules.Module.{Module}
use Rattle.gt_model.specs.declared.modules.Section.{Section}
use Rattle.node_arena.proofs.BareBlocks.{part-solid, part-bare}
use Rattle.node_arena.proofs.bare.bare_in.Goals as goal

pub loop-module-preserved : goal.loop-module-preserved
loop-module-preserved c =
    let within = c.loop-module-test.true in
    let item = c.module-item.is in
    part-solid (λ (m : Module). flat_map (λ (s : Section). s.intervals) m.sections) c.args.modules.now c.loop-module.module-index c.module-item.result within item c.loop-module.invariant (sym c.bare_in_module.ensures ∙ c.in_default.is)

pub returns-in-Some : goal.returns-in-Some
returns-in-Some c =
    let within = c.loop-module-test.true in
    let item = c.module-item.is in
    part-bare (λ (m : Module). flat_map (λ (s : Section). s.intervals) m.sections) c.args.modules.now c.loop-module.module-index c.module-item.result within item c.loop-module.invariant c.in-Some.id (sym c.bare_in_module.ensures ∙ c.in-Some.is)
