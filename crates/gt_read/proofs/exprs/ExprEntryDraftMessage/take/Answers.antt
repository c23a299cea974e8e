use Rattle.std.proofs.Common.{◌≡◌, false, eqb, refl, arith}
use Rattle.std.proofs.lemmas.Bool.{ne_eqb}
use Rattle.std.proofs.lemmas.Result.{err_from_is_err_and}
use Rattle.gt_model.specs.Schema.{expr_rows}
use Rattle.gt_read.specs.Drafts.Views.{expr_draft, expr_entry_draft}
use Rattle.gt_read.specs.Drafts.Draft.{step}
use Rattle.gt_read.specs.Drafts.Answers.{carried}
use Rattle.gt_read.proofs.DraftLemmas.{silent, enters_view}
use Rattle.gt_read.proofs.exprs.ExprEntryDraftMessage.take.Goals as goal

pub returns-in-1 : goal.returns-in-1
unfolding step expr_entry_draft
returns-in-1 c = rw c.in-1.is (rw c.take_unsigned.ensures refl, silent c.args.part.now.place (carried c.args.part.now.carried))

pub returns-in_ok-take_message-in-2 : goal.returns-in_ok-take_message-in-2
unfolding step expr_entry_draft
returns-in_ok-take_message-in-2 c =
    let e = enters_view expr_rows expr_draft _ _ _ c.in_ok-take_message-in-2.ensures.0 in
    rw c.in-2.is (rw e refl, rw c.in_ok-take_message-in-2.ensures.1 refl)

pub returns-in_err-take_message-in-2 : goal.returns-in_err-take_message-in-2
unfolding step expr_entry_draft
returns-in_err-take_message-in-2 c =
    let p = err_from_is_err_and c.from_residual.result c.from_residual.ensures.1 in
    rw (p.1, p.2, c.in-2.is) c.in_err-take_message-in-2.ensures

pub returns-in_default : goal.returns-in_default
unfolding step expr_entry_draft
returns-in_default c =
    let n = c.args.part.now.number in
    let n1 : eqb n 1 ≡ false = ne_eqb n 1 (λ e. omega arith) in
    let n2 : eqb n 2 ≡ false = ne_eqb n 2 (λ e. omega arith) in
    rw (n1, n2) (refl, refl)
