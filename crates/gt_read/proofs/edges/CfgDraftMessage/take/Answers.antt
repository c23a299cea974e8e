use Rattle.std.proofs.Common.{◌≡◌, false, eqb, refl, arith}
use Rattle.std.proofs.lemmas.Bool.{ne_eqb}
use Rattle.std.proofs.lemmas.List.{append-nil}
use Rattle.std.proofs.lemmas.Result.{err_from_is_err_and}
use Rattle.gt_model.specs.Schema.{cfg_rows, edge_rows}
use Rattle.gt_model.specs.Views.{edge_value}
use Rattle.gt_read.specs.Drafts.Views.{edge_draft, cfg_draft}
use Rattle.gt_read.specs.Drafts.Draft.{step}
use Rattle.gt_read.specs.Faults.{piece_faults}
use Rattle.gt_read.specs.Drafts.Answers.{carried}
use Rattle.gt_read.proofs.DraftLemmas.{silent, adds_view}
use Rattle.gt_read.proofs.edges.CfgDraftMessage.take.Goals as goal

pub returns-in_ok-take_child-in-2 : goal.returns-in_ok-take_child-in-2
unfolding step piece_faults cfg_rows cfg_draft
returns-in_ok-take_child-in-2 c =
    let e = adds_view edge_rows edge_draft edge_value _ _ _ _ _ c.in_ok-take_child-in-2.ensures.0 in
    rw c.in-2.is (rw e refl, rw c.in_ok-take_child-in-2.ensures.1 refl)

pub returns-in_err-take_child-in-2 : goal.returns-in_err-take_child-in-2
unfolding step piece_faults cfg_rows cfg_draft
returns-in_err-take_child-in-2 c =
    let p = err_from_is_err_and c.from_residual.result c.from_residual.ensures.1 in
    rw (p.1, p.2, c.in-2.is, append-nil) c.in_err-take_child-in-2.ensures

pub returns-in_ok-take_ids-in-3 : goal.returns-in_ok-take_ids-in-3
unfolding step piece_faults cfg_rows cfg_draft
returns-in_ok-take_ids-in-3 c =
    rw c.in-3.is (rw c.in_ok-take_ids-in-3.ensures refl, silent c.args.part.now.place (carried c.args.part.now.carried))

pub returns-in_default : goal.returns-in_default
unfolding step piece_faults cfg_rows cfg_draft
returns-in_default c =
    let n = c.args.part.now.number in
    let n2 : eqb n 2 ≡ false = ne_eqb n 2 (λ e. omega arith) in
    let n3 : eqb n 3 ≡ false = ne_eqb n 3 (λ e. omega arith) in
    rw (n2, n3) (refl, refl)
