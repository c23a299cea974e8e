use Rattle.std.proofs.Common.{◌≡◌, false, eqb, refl, arith}
use Rattle.std.proofs.lemmas.Bool.{ne_eqb}
use Rattle.std.proofs.lemmas.List.{append-nil}
use Rattle.std.proofs.lemmas.Result.{err_from_is_err_and}
use Rattle.gt_model.specs.Schema.{block_rows}
use Rattle.gt_read.specs.Drafts.Views.{block_draft}
use Rattle.gt_read.specs.Drafts.Draft.{step}
use Rattle.gt_read.specs.Faults.{piece_faults}
use Rattle.gt_read.specs.Drafts.Answers.{carried}
use Rattle.gt_read.proofs.DraftLemmas.{silent}
use Rattle.gt_read.proofs.Members.{code_steps, data_steps}
use Rattle.gt_read.proofs.blocks.BlockDraftMessage.take.Goals as goal

pub returns-in-1 : goal.returns-in-1
unfolding step piece_faults block_rows block_draft
returns-in-1 c = rw c.in-1.is (rw c.take_unsigned.ensures refl, silent c.args.part.now.place (carried c.args.part.now.carried))

pub returns-in_ok-take_member-in-2 : goal.returns-in_ok-take_member-in-2
unfolding step piece_faults block_rows block_draft
returns-in_ok-take_member-in-2 c =
    rw c.in-2.is (code_steps c.args.self.now c.args.part.now.place (carried c.args.part.now.carried) _ c.in_ok-take_member-in-2.ensures.0, rw c.in_ok-take_member-in-2.ensures.1 refl)

pub returns-in_err-take_member-in-2 : goal.returns-in_err-take_member-in-2
unfolding step piece_faults block_rows block_draft
returns-in_err-take_member-in-2 c =
    let p = err_from_is_err_and c.from_residual.result c.from_residual.ensures.1 in
    rw (p.1, p.2, c.in-2.is, append-nil) c.in_err-take_member-in-2.ensures

pub returns-in_ok-take_member-in-3 : goal.returns-in_ok-take_member-in-3
unfolding step piece_faults block_rows block_draft
returns-in_ok-take_member-in-3 c =
    rw c.in-3.is (data_steps c.args.self.now c.args.part.now.place (carried c.args.part.now.carried) _ c.in_ok-take_member-in-3.ensures.0, rw c.in_ok-take_member-in-3.ensures.1 refl)

pub returns-in_err-take_member-in-3 : goal.returns-in_err-take_member-in-3
unfolding step piece_faults block_rows block_draft
returns-in_err-take_member-in-3 c =
    let p = err_from_is_err_and c.from_residual-in_err-take_member-in-3.result c.from_residual-in_err-take_member-in-3.ensures.1 in
    rw (p.1, p.2, c.in-3.is, append-nil) c.in_err-take_member-in-3.ensures

pub returns-in_default : goal.returns-in_default
unfolding step piece_faults block_rows block_draft
returns-in_default c =
    let n = c.args.part.now.number in
    let n1 : eqb n 1 ≡ false = ne_eqb n 1 (λ e. omega arith) in
    let n2 : eqb n 2 ≡ false = ne_eqb n 2 (λ e. omega arith) in
    let n3 : eqb n 3 ≡ false = ne_eqb n 3 (λ e. omega arith) in
    rw (n1, n2, n3) (refl, refl)
