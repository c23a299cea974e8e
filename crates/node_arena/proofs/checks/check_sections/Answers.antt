use Rattle.std.proofs.lemmas.Result.{err_from_is_err_and}
use Rattle.gt_model.specs.References.{section_references}
use Rattle.node_arena.specs.Checking.{kind_found}
use Rattle.node_arena.proofs.Faults.{none-at, fault-at}
use Rattle.node_arena.proofs.checks.check_sections.Goals as goal

pub loop-section-preserved : goal.loop-section-preserved
loop-section-preserved c =
    let within = c.loop-section-test.true in
    let item = c.section-item.is in
    none-at (kind_found c.args.arena.now c.args.index.now) (section_references c.args.parent.index) c.args.sections.now c.loop-section.section-index c.section-item.result within item c.loop-section.invariant
    c.in_ok-check_section.ensures

pub returns-in_err-check_section : goal.returns-in_err-check_section
returns-in_err-check_section c =
    let within = c.loop-section-test.true in
    let item = c.section-item.is in
    let p = err_from_is_err_and c.from_residual.result c.from_residual.ensures.1 in
    rw (p.1, p.2)
    (fault-at (kind_found c.args.arena.now c.args.index.now) (section_references c.args.parent.index) c.args.sections.now c.loop-section.section-index c.section-item.result within item c.loop-section.invariant
    _ c.in_err-check_section.ensures)
