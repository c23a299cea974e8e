-- The first pass, one line after another.
use Rattle.std.proofs.Common.{◌≡◌, ℕ, ◌+◌, ◌<◌, ◌≤◌, Some, None, Result, Ok, Err, List, [], ◌∷◌, ◌++◌, length, get_or, drop, append_assoc, append-nil, length-append, refl, sym, ap, subst, ◌∙◌}
use Rattle.std.specs.Option.{option_map, option_or}
use Rattle.std.proofs.lemmas.List.{drop_all, drop_more}
use Rattle.gr_base.specs.declared.end.End.{End}
use Rattle.gr_base.specs.declared.end.End.TheVariants as ends
use Rattle.asm_read.specs.declared.fault.TextFault.{TextFault}
use Rattle.asm_read.specs.declared.fault.TextReason.{TextReason}
use Rattle.asm_lines.specs.declared.line.AsmLine.{AsmLine}
use Rattle.asm_modules.specs.Faults.{fault_behind, first_pass}
use Rattle.asm_modules.specs.Outcomes.{lines_in, said}
use Rattle.asm_build.specs.declared.seen.Seen.{Seen}
use Rattle.asm_build.specs.Answers.{EndTells}
use Rattle.asm_build.specs.Kept.{Sees, end_at, given_fault}

-- the first lines have no fault, and this was seen of them
pub record Passed (given : List (Result AsmLine TextReason)) (seen : Seen) (i : ℕ) : Type 0 where
  pub before : List AsmLine
  pub count : length before ≡ i
  pub lines : lines_in given ≡ before ++ lines_in (drop i given)
  pub pass : first_pass [] given ≡ first_pass before (drop i given)
  pub sees : Sees seen before

pub none_passed : (given : List (Result AsmLine TextReason)) (seen : Seen) → Sees seen [] → Passed given seen 0
none_passed given seen sees = record { before = []; count = refl; lines = refl; pass = refl; sees = sees }

module _ (given : List (Result AsmLine TextReason)) (seen : Seen) (i : ℕ) (within : i < length given) where
  split : (x : Result AsmLine TextReason) → x ≡ get_or given i x → drop i given ≡ x ∷ drop (i + 1) given
  split x is = drop_more given i x within ∙ ap (λ y. y ∷ drop (i + 1) given) (sym is)

  pub one_passed : (more : Seen) (x : Result AsmLine TextReason) → x ≡ get_or given i x → Passed given seen i
      → ((before : List AsmLine) → Sees seen before → given_fault before x ≡ None)
      → ((before : List AsmLine) → Sees seen before → Sees more (before ++ said x)) → Passed given more (i + 1)
  one_passed more (Err reason) is passed none sees = let clash = none passed.before passed.sees in cc
  one_passed more (Ok l) is passed none sees = record {
    before = passed.before ++ l ∷ [];
    count = length-append passed.before (l ∷ []) ∙ ap (λ n. n + 1) passed.count;
    lines = passed.lines ∙ ap (λ rest. passed.before ++ lines_in rest) (split (Ok l) is) ∙ sym (append_assoc passed.before (l ∷ []) (lines_in (drop (i + 1) given)));
    pass =
        passed.pass
        ∙ ap (first_pass passed.before) (split (Ok l) is)
        ∙ ap (λ o. option_or (option_map (fault_behind passed.before) o) (first_pass (passed.before ++ l ∷ []) (drop (i + 1) given))) (none passed.before passed.sees);
    sees = sees passed.before passed.sees;
  }

  at_fault : (x : Result AsmLine TextReason) (reason : TextReason) (before : List AsmLine) → given_fault before x ≡ Some reason → first_pass before (x ∷ drop (i + 1) given) ≡ Some (fault_behind before reason)
  at_fault (Err own) reason before fault = let same : own ≡ reason = cc in ap (λ r. Some (fault_behind before r)) same
  at_fault (Ok l) reason before fault =
      ap (λ o. option_or (option_map (fault_behind before) o) (first_pass (before ++ l ∷ []) (drop (i + 1) given))) fault

  pub fault_here : (x : Result AsmLine TextReason) (reason : TextReason) → x ≡ get_or given i x → Passed given seen i
      → ((before : List AsmLine) → Sees seen before → given_fault before x ≡ Some reason) → first_pass [] given ≡ Some (record { line = i + 1; reason = reason })
  fault_here x reason is passed fault =
      passed.pass
      ∙ ap (first_pass passed.before) (split x is)
      ∙ at_fault x reason passed.before (fault passed.before passed.sees)
      ∙ ap (λ n. Some (record { line = n + 1; reason = reason })) passed.count

  pub end_here : (x : Result AsmLine TextReason) (end : End TextReason) (line : ℕ) (out : End TextFault) → x ≡ get_or given i x → Passed given seen i
      → ((before : List AsmLine) → Sees seen before → EndTells end (given_fault before x)) → line ≡ i + 1 → out ≡ end_at line end → EndTells out (first_pass [] given)
  end_here x ends.Memory line out is passed fault line_is out_is = subst (λ e. EndTells e (first_pass [] given)) (sym out_is) tt
  end_here x (ends.Fault reason) line out is passed fault line_is out_is =
      subst (λ e. EndTells e (first_pass [] given)) (sym out_is)
      (fault_here x reason is passed fault ∙ ap (λ n. Some (record { line = n; reason = reason })) (sym line_is))

module _ (given : List (Result AsmLine TextReason)) (seen : Seen) (i : ℕ) (ended : length given ≤ i) (passed : Passed given seen i) where
  pub no_fault : first_pass [] given ≡ None
  no_fault = passed.pass ∙ ap (first_pass passed.before) (drop_all i given ended)

  pub sees_all : Sees seen (lines_in given)
  sees_all = subst (Sees seen) (sym (passed.lines ∙ ap (λ rest. passed.before ++ lines_in rest) (drop_all i given ended) ∙ append-nil passed.before)) passed.sees
