use Rattle.std.proofs.Common.{◌≡◌, false, eqb, refl, arith}
use Rattle.std.proofs.lemmas.Bool.{ne_eqb}
use Rattle.gt_model.specs.Schema.{code_rows}
use Rattle.gt_read.specs.Drafts.Views.{code_draft}
use Rattle.gt_read.specs.Drafts.Draft.{step}
use Rattle.gt_read.specs.Faults.{piece_faults}
use Rattle.gt_read.specs.Drafts.Answers.{carried}
use Rattle.gt_read.proofs.DraftLemmas.{silent}
use Rattle.gt_read.proofs.blocks.CodeDraftMessage.take.Goals as goal

pub returns-in-1 : goal.returns-in-1
unfolding step piece_faults code_rows code_draft
returns-in-1 c = rw c.in-1.is (rw c.take.ensures.id refl, silent c.args.part.now.place (carried c.args.part.now.carried))

pub returns-in-3 : goal.returns-in-3
unfolding step piece_faults code_rows code_draft
returns-in-3 c = rw c.in-3.is (rw c.take_unsigned.ensures refl, silent c.args.part.now.place (carried c.args.part.now.carried))

pub returns-in-4 : goal.returns-in-4
unfolding step piece_faults code_rows code_draft
returns-in-4 c = rw c.in-4.is (rw c.take_unsigned-in-4.ensures refl, silent c.args.part.now.place (carried c.args.part.now.carried))

pub returns-in_default : goal.returns-in_default
unfolding step piece_faults code_rows code_draft
returns-in_default c =
    let n = c.args.part.now.number in
    let n1 : eqb n 1 ≡ false = ne_eqb n 1 (λ e. omega arith) in
    let n3 : eqb n 3 ≡ false = ne_eqb n 3 (λ e. omega arith) in
    let n4 : eqb n 4 ≡ false = ne_eqb n 4 (λ e. omega arith) in
    rw (n1, n3, n4) (refl, refl)
