-- Directives by their operands.
use Rattle.std.proofs.Common.{◌≡◌, ℕ, List, Result, subst, sym}
use Rattle.gr_base.specs.declared.end.End.{End}
use Rattle.a64_forms.specs.declared.form.Numbers.TheVariants.{Any, Fitting}
use Rattle.asm_read.specs.declared.fault.TextReason.{TextReason}
use Rattle.asm_lines.specs.declared.line.AsmLine.{AsmLine}
use Rattle.asm_directives.specs.declared.directive.Directive.{Directive}
use Rattle.asm_directives.specs.Answers.{Answers}
use Rattle.asm_directives.specs.Directives.{OneSays, ThreeSay, TwoSay}

module _ (d e : Directive) (is : d ≡ e) (r : Result AsmLine (End TextReason)) where
  pub one_of : (text : List ℕ) → Answers (OneSays Fitting e text) ((said : AsmLine) × OneSays Any e text said) r → Answers (OneSays Fitting d text) ((said : AsmLine) × OneSays Any d text said) r
  one_of text h = subst (λ (x : Directive). Answers (OneSays Fitting x text) ((said : AsmLine) × OneSays Any x text said) r) (sym is) h

  pub two_of : (first second : List ℕ) → Answers (TwoSay Fitting e first second) ((said : AsmLine) × TwoSay Any e first second said) r → Answers (TwoSay Fitting d first second) ((said : AsmLine) × TwoSay Any d first second said) r
  two_of first second h = subst (λ (x : Directive). Answers (TwoSay Fitting x first second) ((said : AsmLine) × TwoSay Any x first second said) r) (sym is) h

  pub three_of : (first second third : List ℕ) → Answers (ThreeSay Fitting e first second third) ((said : AsmLine) × ThreeSay Any e first second third said) r → Answers (ThreeSay Fitting d first second third) ((said : AsmLine) × ThreeSay Any d first second third said) r
  three_of first second third h = subst (λ (x : Directive). Answers (ThreeSay Fitting x first second third) ((said : AsmLine) × ThreeSay Any x first second third said) r) (sym is) h
