use Rattle.std.proofs.Common.{◌≡◌, None, Ok, Result, List, [], sym, ap, subst, ◌∙◌}
use Rattle.asm_read.specs.declared.fault.TextReason.{TextReason}
use Rattle.asm_lines.specs.declared.line.AsmLine.{AsmLine}
use Rattle.asm_modules.specs.declared.module.AsmInterval.{AsmInterval}
use Rattle.asm_modules.specs.declared.module.AsmLabel.{AsmLabel}
use Rattle.asm_modules.specs.declared.place.Place.TheVariants as places
use Rattle.asm_modules.specs.Faults.{first_pass, second_pass}
use Rattle.asm_modules.specs.Modules.{intervals_in, labels_behind}
use Rattle.asm_modules.specs.Outcomes.{lines_in}
use Rattle.asm_build.specs.Kept.{Sees, has_label}
use Rattle.asm_build.proofs.Whole.{fault_is, module_is}
use Rattle.asm_build.proofs.outcome.build_module.Goals as goal

pub returns-in-Err : goal.returns-in-Err
returns-in-Err c =
    let seen = c.in_ok-labels.field-0 in
    let none = subst (λ (g : List (Result AsmLine TextReason)). first_pass [] g ≡ None) c.as_slice.ensures c.in_ok-labels.ensures.fault in
    let sees = subst (λ (g : List (Result AsmLine TextReason)). Sees seen (lines_in g)) c.as_slice.ensures c.in_ok-labels.ensures.sees in
    let ls = c.as_slice-2.ensures ∙ c.in_ok-lines.ensures in
    fault_is c.args.given seen none sees c.in-Some.entry c.in-Some.is c.in-Err.fault
    (ap (λ (l : List AsmLine). second_pass (has_label seen.labels) [] l) (sym ls) ∙ c.in-Err.ensures)

pub returns : goal.returns
returns c =
    let seen = c.in_ok-labels.field-0 in
    let none = subst (λ (g : List (Result AsmLine TextReason)). first_pass [] g ≡ None) c.as_slice.ensures c.in_ok-labels.ensures.fault in
    let sees = subst (λ (g : List (Result AsmLine TextReason)). Sees seen (lines_in g)) c.as_slice.ensures c.in_ok-labels.ensures.sees in
    let ls = c.as_slice-2.ensures ∙ c.in_ok-lines.ensures in
    let labels = c.in_ok-labels-2.ensures ∙ ap (λ (l : List AsmLine). labels_behind places.Ahead l) (c.as_slice-3.ensures ∙ c.in_ok-lines.ensures) in
    let intervals = c.in_ok-intervals.ensures ∙ ap intervals_in c.in_ok-lines.ensures in
    module_is c.args.given seen none sees c.in-Some.entry c.in-Some.is
    (ap (λ (l : List AsmLine). second_pass (has_label seen.labels) [] l) (sym ls) ∙ c.in_default-check_names.ensures)
    ∙ ap (λ (i : List AsmInterval). Ok (record { intervals = i; labels = labels_behind places.Ahead (lines_in c.args.given); entry = c.in-Some.entry })) (sym intervals)
    ∙ ap (λ (l : List AsmLabel). Ok (record { intervals = c.in_ok-intervals.intervals; labels = l; entry = c.in-Some.entry })) (sym labels)
