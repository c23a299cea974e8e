use Rattle.std.proofs.Common.{◌∙◌, sym, subst}
use Rattle.std.specs.List.{AllByRecursion}
use Rattle.gt_model.specs.declared.modules.Module.{Module}
use Rattle.module_program.proofs.Fits.{all_lines_good, few_words, words_good}
use Rattle.module_program.specs.Knowing.{HasGoodLines, HasGoodWords}
use Rattle.sym_expr.specs.declared.patches.PatchTable.{PatchTable}
use Rattle.module_program.proofs.whole.program_of.Goals as goal

pub new-requires-clause-few : goal.new-requires-clause-few
new-requires-clause-few c = few_words _ c.args.patches.now c.requires.accepted

pub new-requires-clause-good : goal.new-requires-clause-good
new-requires-clause-good c =
    subst (λ (m : Module). AllByRecursion (HasGoodWords m c.args.patches.now) c.args.patches.now.inserts) (sym c.in_ok-plain.ensures)
    (words_good _ c.args.patches.now c.requires.accepted)

pub program-requires-clause-good : goal.program-requires-clause-good
program-requires-clause-good c =
    let from = c.in_ok-context.ensures.from in
    subst (λ (p : PatchTable). AllByRecursion (HasGoodLines c.in_ok-context.context.module p) p.functions) (sym from.1)
    (subst (λ (m : Module). AllByRecursion (HasGoodLines m c.args.patches.now) c.args.patches.now.functions) (sym (from.0 ∙ c.in_ok-plain.ensures))
    (all_lines_good _ c.args.patches.now c.requires.accepted))
