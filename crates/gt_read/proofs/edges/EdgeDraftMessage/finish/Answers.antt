use Rattle.std.proofs.Common.{refl}
use Rattle.gt_model.specs.Schema.{edge_rows, label_rows}
use Rattle.gt_model.specs.Views.{label_value, edge_value}
use Rattle.gt_read.specs.Drafts.Views.{label_draft, edge_draft}
use Rattle.gt_read.specs.Drafts.Draft.{finished, worst}
use Rattle.gt_read.proofs.DraftLemmas.{finishes_if, earlier-none}
use Rattle.gt_read.proofs.edges.EdgeDraftMessage.finish.Goals as goal

pub returns : goal.returns
unfolding finished worst edge_rows edge_draft edge_value
returns c =
    let f = finishes_if label_rows label_draft label_value _ _ _ c.in_ok-label.ensures in
    (rw f.0 refl, rw (c.earlier-fault.ensures, c.fault.ensures, c.earlier.ensures, c.fault-2.ensures, f.1, earlier-none) refl)
