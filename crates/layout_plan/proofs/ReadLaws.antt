-- What a reader that answers by the definitions gives.
use Rattle.std.proofs.Common.{◌≡◌, ℕ, List, Result, Ok, Err, refl}
use Rattle.std.specs.Result.{IfOk, IfErr, MatchResult}
use Rattle.gr_base.specs.declared.end.End.{End}
use Rattle.gr_base.specs.declared.end.End.TheVariants as ends
use Rattle.sym_expr.specs.declared.layout.Layout.{Layout}
use Rattle.sym_expr.specs.Layouts.{IsStackSize}
use Rattle.layout_plan.specs.declared.fault.LayoutFault.{LayoutFault}
use Rattle.layout_plan.specs.Answers.{IsLine}
use Rattle.layout_plan.specs.Text.{layout_text, text_fault}
use Rattle.layout_plan.proofs.ReadingSteps.{stack_fits}

pub gives_it : (text : List ℕ) → ((a b : Layout) → layout_text text a → layout_text text b → a ≡ b) → ((layout : Layout) (number : ℕ) → layout_text text layout → text_fault text number → ⊥)
    → (r : Result Layout (End LayoutFault)) → IfOk r (layout_text text) → IfErr r (λ e. IsLine e (text_fault text))
    → (layout : Layout) → layout_text text layout → MatchResult r (λ read. read ≡ layout) (λ e. e ≡ ends.Memory)
gives_it text one apart (Ok read) found fault layout gives = one read layout found gives
gives_it text one apart (Err ends.Memory) found fault layout gives = refl
gives_it text one apart (Err (ends.Fault f)) found fault layout gives = absurd (apart layout fault.0 gives fault.2)

pub sized : (text : List ℕ) (r : Result Layout (End LayoutFault)) → IfOk r (layout_text text) → IfOk r (λ layout. IsStackSize layout.stack_size)
sized text (Ok read) found = stack_fits text read found
sized text (Err e) found = tt
