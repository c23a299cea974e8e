-- The labels that lines name, one line after another.
use Rattle.std.proofs.Common.{◌≡◌, ℕ, ◌+◌, ◌<◌, ◌≤◌, Bool, true, false, Some, None, List, [], ◌∷◌, ◌++◌, length, get_or, take, drop, length-take-le, sym, ap, ◌∙◌, arith}
use Rattle.std.specs.List.{list_all}
use Rattle.std.proofs.lemmas.Bool.{cond-true, cond-false}
use Rattle.std.proofs.lemmas.List.{drop_all, drop_more, take_more}
use Rattle.asm_read.specs.declared.fault.TextReason.TheVariants as reasons
use Rattle.asm_lines.specs.declared.line.AsmLine.{AsmLine}
use Rattle.asm_lines.specs.declared.line.AsmName.{AsmName}
use Rattle.asm_modules.specs.Faults.{fault_behind, line_names, second_pass}

-- the first lines have no fault of the second pass
abbrev pub AreNamed : (AsmName → Bool) → List AsmLine → ℕ → Type 0
AreNamed known ls i = second_pass known [] ls ≡ second_pass known (take i ls) (drop i ls)

module _ (known : AsmName → Bool) (ls : List AsmLine) (i : ℕ) (l : AsmLine) (within : i < length ls) (is : l ≡ get_or ls i l) (so_far : AreNamed known ls i) where
  here : second_pass known [] ls ≡ second_pass known (take i ls) (l ∷ drop (i + 1) ls)
  here = so_far ∙ ap (second_pass known (take i ls)) (drop_more ls i l within ∙ ap (λ k. k ∷ drop (i + 1) ls) (sym is))

  pub named_next : list_all known (line_names l) ≡ true → AreNamed known ls (i + 1)
  named_next all =
      here
      ∙ cond-true (list_all known (line_names l)) (second_pass known (take i ls ++ l ∷ []) (drop (i + 1) ls)) (Some (fault_behind (take i ls) reasons.LabelUnknown)) all
      ∙ ap (λ before. second_pass known before (drop (i + 1) ls)) (sym (take_more ls i l within ∙ ap (λ k. take i ls ++ k ∷ []) (sym is)))

  pub unknown_here : list_all known (line_names l) ≡ false → second_pass known [] ls ≡ Some (record { line = i + 1; reason = reasons.LabelUnknown })
  unknown_here one =
      here
      ∙ cond-false (list_all known (line_names l)) (second_pass known (take i ls ++ l ∷ []) (drop (i + 1) ls)) (Some (fault_behind (take i ls) reasons.LabelUnknown)) one
      ∙ ap (λ n. Some (record { line = n + 1; reason = reasons.LabelUnknown })) (length-take-le i ls (omega arith))

pub all_named : (known : AsmName → Bool) (ls : List AsmLine) (i : ℕ) → length ls ≤ i → AreNamed known ls i → second_pass known [] ls ≡ None
all_named known ls i ended so_far = so_far ∙ ap (second_pass known (take i ls)) (drop_all i ls ended)
