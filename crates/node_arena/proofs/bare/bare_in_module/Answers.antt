use Rattle.std.proofs.Common.{sym, ◌∙◌}
use Rattle.gt_model.specs.declared.modules.Section.{Section}
use Rattle.node_arena.proofs.BareBlocks.{part-solid, part-bare}
use Rattle.node_arena.proofs.bare.bare_in_module.Goals as goal

pub loop-section-preserved : goal.loop-section-preserved
loop-section-preserved c =
    let within = rw c.as_slice-section-items.ensures at c.loop-section-test.true in
    let item = rw c.as_slice-section-items.ensures at c.section-item.is in
    part-solid (λ (s : Section). s.intervals) c.args.module.now.sections c.loop-section.section-index c.section-item.result within item c.loop-section.invariant (sym c.bare_in_section.ensures ∙ c.in_default.is)

pub returns-in-Some : goal.returns-in-Some
returns-in-Some c =
    let within = rw c.as_slice-section-items.ensures at c.loop-section-test.true in
    let item = rw c.as_slice-section-items.ensures at c.section-item.is in
    part-bare (λ (s : Section). s.intervals) c.args.module.now.sections c.loop-section.section-index c.section-item.result within item c.loop-section.invariant c.in-Some.id (sym c.bare_in_section.ensures ∙ c.in-Some.is)
