use Rattle.std.proofs.Common.{◌≡◌, false, eqb, refl, arith}
use Rattle.std.proofs.lemmas.Bool.{ne_eqb}
use Rattle.std.proofs.lemmas.List.{append-nil}
use Rattle.std.proofs.lemmas.Result.{err_from_is_err_and}
use Rattle.gt_model.specs.Schema.{interval_rows, section_rows}
use Rattle.gt_model.specs.Views.{interval_value}
use Rattle.gt_read.specs.Drafts.Views.{interval_draft, section_draft}
use Rattle.gt_read.specs.Drafts.Draft.{step}
use Rattle.gt_read.specs.Faults.{piece_faults}
use Rattle.gt_read.specs.Drafts.Answers.{carried}
use Rattle.gt_read.proofs.DraftLemmas.{silent, adds_view}
use Rattle.gt_read.proofs.modules.SectionDraftMessage.take.Goals as goal

pub returns-in-1 : goal.returns-in-1
unfolding step piece_faults section_rows section_draft
returns-in-1 c = rw c.in-1.is (rw c.take.ensures.id refl, silent c.args.part.now.place (carried c.args.part.now.carried))

pub returns-in_ok-take_text-in-2 : goal.returns-in_ok-take_text-in-2
unfolding step piece_faults section_rows section_draft
returns-in_ok-take_text-in-2 c =
    rw c.in-2.is (rw c.in_ok-take_text-in-2.ensures.0 refl, rw c.in_ok-take_text-in-2.ensures.1 refl)

pub returns-in_err-take_text-in-2 : goal.returns-in_err-take_text-in-2
unfolding step piece_faults section_rows section_draft
returns-in_err-take_text-in-2 c =
    let p = err_from_is_err_and c.from_residual.result c.from_residual.ensures.1 in
    rw (p.1, p.2, c.in-2.is, append-nil) c.in_err-take_text-in-2.ensures

pub returns-in_ok-take_child-in-5 : goal.returns-in_ok-take_child-in-5
unfolding step piece_faults section_rows section_draft
returns-in_ok-take_child-in-5 c =
    let e = adds_view interval_rows interval_draft interval_value _ _ _ _ _ c.in_ok-take_child-in-5.ensures.0 in
    rw c.in-5.is (rw e refl, rw c.in_ok-take_child-in-5.ensures.1 refl)

pub returns-in_err-take_child-in-5 : goal.returns-in_err-take_child-in-5
unfolding step piece_faults section_rows section_draft
returns-in_err-take_child-in-5 c =
    let p = err_from_is_err_and c.from_residual-in_err-take_child-in-5.result c.from_residual-in_err-take_child-in-5.ensures.1 in
    rw (p.1, p.2, c.in-5.is, append-nil) c.in_err-take_child-in-5.ensures

pub returns-in_ok-take_numbers-in-6 : goal.returns-in_ok-take_numbers-in-6
unfolding step piece_faults section_rows section_draft
returns-in_ok-take_numbers-in-6 c =
    rw c.in-6.is (rw c.in_ok-take_numbers-in-6.ensures.0 refl, rw c.in_ok-take_numbers-in-6.ensures.1 refl)

pub returns-in_err-take_numbers-in-6 : goal.returns-in_err-take_numbers-in-6
unfolding step piece_faults section_rows section_draft
returns-in_err-take_numbers-in-6 c =
    let p = err_from_is_err_and c.from_residual-in_err-take_numbers-in-6.result c.from_residual-in_err-take_numbers-in-6.ensures.1 in
    rw (p.1, p.2, c.in-6.is, append-nil) c.in_err-take_numbers-in-6.ensures

pub returns-in_default : goal.returns-in_default
unfolding step piece_faults section_rows section_draft
returns-in_default c =
    let n = c.args.part.now.number in
    let n1 : eqb n 1 ≡ false = ne_eqb n 1 (λ e. omega arith) in
    let n2 : eqb n 2 ≡ false = ne_eqb n 2 (λ e. omega arith) in
    let n5 : eqb n 5 ≡ false = ne_eqb n 5 (λ e. omega arith) in
    let n6 : eqb n 6 ≡ false = ne_eqb n 6 (λ e. omega arith) in
    rw (n1, n2, n5, n6) (refl, refl)
