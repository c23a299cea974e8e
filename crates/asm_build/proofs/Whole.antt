-- What was seen of all lines, and what they give.
use Rattle.std.proofs.Common.{◌≡◌, Bool, ◌&&◌, cond, Some, None, Result, Ok, Err, List, [], ◌∷◌, ◌++◌, refl, sym, ap, ◌∙◌}
use Rattle.std.specs.List.{list_all}
use Rattle.asm_read.specs.declared.fault.TextFault.{TextFault}
use Rattle.asm_read.specs.declared.fault.TextReason.{TextReason}
use Rattle.asm_read.specs.declared.fault.TextReason.TheVariants as reasons
use Rattle.asm_lines.specs.declared.line.AsmLine.{AsmLine}
use Rattle.asm_lines.specs.declared.line.AsmName.{AsmName}
use Rattle.asm_modules.specs.declared.module.AsmAt.{AsmAt}
use Rattle.asm_modules.specs.declared.place.Place.TheVariants as places
use Rattle.asm_modules.specs.Faults.{fault_behind, first_pass, is_label_in, line_names, second_pass}
use Rattle.asm_modules.specs.Modules.{entry_behind}
use Rattle.asm_modules.specs.Outcomes.{entered, lines_in, module_of, outcome, unless}
use Rattle.asm_build.specs.declared.seen.Seen.{Seen}
use Rattle.asm_build.specs.Kept.{Sees, has_label}

same_names : (f g : AsmName → Bool) → ((name : AsmName) → f name ≡ g name) → (names : List AsmName) → list_all f names ≡ list_all g names
same_names f g same [] = refl
same_names f g same (n ∷ names) = ap (λ b. b && list_all f names) (same n) ∙ ap (λ b. g n && b) (same_names f g same names)

same_second : (f g : AsmName → Bool) → ((name : AsmName) → f name ≡ g name) → (before ls : List AsmLine) → second_pass f before ls ≡ second_pass g before ls
same_second f g same before [] = refl
same_second f g same before (l ∷ ls) =
    ap (λ b. cond b (second_pass f (before ++ l ∷ []) ls) (Some (fault_behind before reasons.LabelUnknown))) (same_names f g same (line_names l))
    ∙ ap (λ o. cond (list_all g (line_names l)) o (Some (fault_behind before reasons.LabelUnknown))) (same_second f g same (before ++ l ∷ []) ls)

-- all lines were seen, and none has a fault of the first pass
module _ (given : List (Result AsmLine TextReason)) (seen : Seen) (none : first_pass [] given ≡ None) (sees : Sees seen (lines_in given)) where
  pub outcome_is : outcome given ≡ entered (lines_in given) seen.entry
  outcome_is =
      ap (λ f. unless f (entered (lines_in given) (entry_behind places.Ahead (lines_in given)))) none
      ∙ ap (entered (lines_in given)) (sym sees.entry)

  module _ (entry : AsmAt) (there : seen.entry ≡ Some entry) where
    second_is : outcome given ≡ unless (second_pass (has_label seen.labels) [] (lines_in given)) (Ok (module_of (lines_in given) entry))
    second_is =
        outcome_is
        ∙ ap (entered (lines_in given)) there
        ∙ ap (λ f. unless f (Ok (module_of (lines_in given) entry))) (same_second (is_label_in (lines_in given)) (has_label seen.labels) (λ name. sym (sees.labels name)) [] (lines_in given))

    pub fault_is : (fault : TextFault) → second_pass (has_label seen.labels) [] (lines_in given) ≡ Some fault → outcome given ≡ Err fault
    fault_is fault second = second_is ∙ ap (λ f. unless f (Ok (module_of (lines_in given) entry))) second

    pub module_is : second_pass (has_label seen.labels) [] (lines_in given) ≡ None → outcome given ≡ Ok (module_of (lines_in given) entry)
    module_is second = second_is ∙ ap (λ f. unless f (Ok (module_of (lines_in given) entry))) second
