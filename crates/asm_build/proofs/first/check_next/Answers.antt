use Rattle.std.proofs.Common.{◌∙◌, ◌++◌, Result, sym, ap, subst}
use Rattle.asm_read.specs.declared.fault.TextReason.{TextReason}
use Rattle.asm_lines.specs.declared.line.AsmLine.{AsmLine}
use Rattle.asm_modules.specs.Outcomes.{said}
use Rattle.asm_build.specs.Kept.{Sees, given_fault}
use Rattle.asm_build.proofs.Seeing.{seen_fault}
use Rattle.asm_build.proofs.first.check_next.Goals as goal

pub returns-in-Err-check_line-clause-fault : goal.returns-in-Err-check_line-clause-fault
returns-in-Err-check_line-clause-fault c = λ before sees.
    ap (given_fault before) c.in-Ok.is ∙ sym (seen_fault c.args.seen before c.in-Ok.line sees) ∙ c.in-Err-check_line.ensures

pub returns-in_ok-seen-in-Ok-clause-fault : goal.returns-in_ok-seen-in-Ok-clause-fault
returns-in_ok-seen-in-Ok-clause-fault c = λ before sees.
    ap (given_fault before) c.in-Ok.is ∙ sym (seen_fault c.args.seen before c.in-Ok.line sees) ∙ c.in_default.ensures

pub returns-in_ok-seen-in-Ok-clause-sees : goal.returns-in_ok-seen-in-Ok-clause-sees
returns-in_ok-seen-in-Ok-clause-sees c = λ before sees.
    let none = sym (seen_fault c.args.seen before c.in-Ok.line sees) ∙ c.in_default.ensures in
    subst (λ (x : Result AsmLine TextReason). Sees c.in_ok-seen-in-Ok.seen (before ++ said x)) (sym c.in-Ok.is) (c.in_ok-seen-in-Ok.ensures before sees none)
