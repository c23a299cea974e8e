use Rattle.std.proofs.Common.{◌≡◌, false, eqb, refl, arith}
use Rattle.std.proofs.lemmas.Bool.{ne_eqb}
use Rattle.std.proofs.lemmas.List.{append-nil}
use Rattle.std.proofs.lemmas.Result.{err_from_is_err_and}
use Rattle.gt_model.specs.Schema.{expr_rows}
use Rattle.gt_read.specs.Drafts.Views.{expr_draft}
use Rattle.gt_read.specs.Drafts.Draft.{step}
use Rattle.gt_read.specs.Faults.{piece_faults}
use Rattle.gt_read.specs.Drafts.Answers.{carried}
use Rattle.gt_read.proofs.Members.{const_steps, addr_steps}
use Rattle.gt_read.proofs.exprs.ExprDraftMessage.take.Goals as goal

pub returns-in_ok-take_member-in-2 : goal.returns-in_ok-take_member-in-2
unfolding step piece_faults expr_rows expr_draft
returns-in_ok-take_member-in-2 c =
    rw c.in-2.is (const_steps c.args.self.now c.args.part.now.place (carried c.args.part.now.carried) _ c.in_ok-take_member-in-2.ensures.0, rw c.in_ok-take_member-in-2.ensures.1 refl)

pub returns-in_err-take_member-in-2 : goal.returns-in_err-take_member-in-2
unfolding step piece_faults expr_rows expr_draft
returns-in_err-take_member-in-2 c =
    let p = err_from_is_err_and c.from_residual.result c.from_residual.ensures.1 in
    rw (p.1, p.2, c.in-2.is, append-nil) c.in_err-take_member-in-2.ensures

pub returns-in_ok-take_member-in-3 : goal.returns-in_ok-take_member-in-3
unfolding step piece_faults expr_rows expr_draft
returns-in_ok-take_member-in-3 c =
    rw c.in-3.is (addr_steps c.args.self.now c.args.part.now.place (carried c.args.part.now.carried) _ c.in_ok-take_member-in-3.ensures.0, rw c.in_ok-take_member-in-3.ensures.1 refl)

pub returns-in_err-take_member-in-3 : goal.returns-in_err-take_member-in-3
unfolding step piece_faults expr_rows expr_draft
returns-in_err-take_member-in-3 c =
    let p = err_from_is_err_and c.from_residual-in_err-take_member-in-3.result c.from_residual-in_err-take_member-in-3.ensures.1 in
    rw (p.1, p.2, c.in-3.is, append-nil) c.in_err-take_member-in-3.ensures

pub returns-in_ok-take_numbers-in-4 : goal.returns-in_ok-take_numbers-in-4
unfolding step piece_faults expr_rows expr_draft
returns-in_ok-take_numbers-in-4 c =
    rw c.in-4.is (rw c.in_ok-take_numbers-in-4.ensures.0 refl, rw c.in_ok-take_numbers-in-4.ensures.1 refl)

pub returns-in_err-take_numbers-in-4 : goal.returns-in_err-take_numbers-in-4
unfolding step piece_faults expr_rows expr_draft
returns-in_err-take_numbers-in-4 c =
    let p = err_from_is_err_and c.from_residual-in_err-take_numbers-in-4.result c.from_residual-in_err-take_numbers-in-4.ensures.1 in
    rw (p.1, p.2, c.in-4.is, append-nil) c.in_err-take_numbers-in-4.ensures

pub returns-in_default : goal.returns-in_default
unfolding step piece_faults expr_rows expr_draft
returns-in_default c =
    let n = c.args.part.now.number in
    let n2 : eqb n 2 ≡ false = ne_eqb n 2 (λ e. omega arith) in
    let n3 : eqb n 3 ≡ false = ne_eqb n 3 (λ e. omega arith) in
    let n4 : eqb n 4 ≡ false = ne_eqb n 4 (λ e. omega arith) in
    rw (n2, n3, n4) (refl, refl)
