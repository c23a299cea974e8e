use Rattle.std.proofs.Common.{refl}
use Rattle.gt_model.specs.Schema.{expr_rows}
use Rattle.gt_model.specs.Views.{expr_fields}
use Rattle.gt_read.specs.Drafts.Views.{expr_draft}
use Rattle.gt_read.specs.Drafts.Draft.{finished, worst}
use Rattle.gt_read.proofs.DraftLemmas.{earlier-none}
use Rattle.gt_read.proofs.exprs.ExprDraftMessage.finish.Goals as goal

pub returns : goal.returns
unfolding finished worst expr_rows expr_draft expr_fields
returns c =
    let e = c.in_ok-value.ensures in
    (rw (e.addr_const, e.addr_addr) refl, rw earlier-none e.worst)
