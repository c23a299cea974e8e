use Rattle.std.proofs.Common.{rules}
use Rattle.gt_model.specs.Ordered.{ordered_section}
use Rattle.sym_expr.specs.Modules.{is_loaded}
use Rattle.sym_expr.specs.Program.{section_stretches}
use Rattle.module_program.proofs.Sections.{loaded_more, holds_of}
use Rattle.module_program.proofs.whole.stretches.Goals as goal

pub add_loaded-requires-clause-ordered : goal.add_loaded-requires-clause-ordered
add_loaded-requires-clause-ordered c =
    holds_of ordered_section c.args.context.now.module.sections c.as_slice-section-items.result.now c.loop-section.section-index c.section-item.result c.as_slice-section-items.ensures
    c.requires.ordered.sections c.loop-section-test.true c.section-item.is

pub loop-section-preserved : goal.loop-section-preserved
loop-section-preserved c =
    rw (loaded_more (section_stretches c.args.context.now.module c.args.context.now.tables c.args.context.now.patches.now) is_loaded c.as_slice-section-items.result.now c.loop-section.section-index c.section-item.result c.loop-section-test.true c.section-item.is)
    (search rules)
