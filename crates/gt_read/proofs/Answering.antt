-- An answer that says more.
use Rattle.std.proofs.Common.{◌≡◌, List, Result, Ok, Err, subst, sym, ◌∙◌}
use Rattle.gr_base.specs.declared.end.End.{End}
use Rattle.gt_read.specs.declared.fault.FormatFault.{FormatFault}
use Rattle.gt_read.specs.Drafts.Answers.{Answers, IsFirst}

pub answers_then : {A : Type 0} (P Q : A → Type 0) (r : Result A (End FormatFault)) (fs gs : List FormatFault) → gs ≡ fs → ((a : A) → P a → Q a) → Answers r fs P → Answers r gs Q
answers_then P Q (Ok a) fs gs e f h = (f a h.0, e ∙ h.1)
answers_then P Q (Err x) fs gs e f h = subst (λ l. IsFirst l x) (sym e) h
