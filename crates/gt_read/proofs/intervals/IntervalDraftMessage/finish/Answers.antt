use Rattle.std.proofs.Common.{refl}
use Rattle.gt_model.specs.Schema.{interval_rows}
use Rattle.gt_model.specs.Views.{interval_value}
use Rattle.gt_read.specs.Drafts.Views.{interval_draft}
use Rattle.gt_read.specs.Drafts.Draft.{finished, worst}
use Rattle.gt_read.proofs.DraftLemmas.{earlier-none}
use Rattle.gt_read.proofs.Maps.{exprs_back}
use Rattle.gt_read.proofs.intervals.IntervalDraftMessage.finish.Goals as goal

pub returns : goal.returns
unfolding finished worst interval_rows interval_draft interval_value
returns c =
    let e = c.in_ok-exprs.ensures in
    (rw (e.items, exprs_back) refl, rw (c.earlier-fault.ensures, c.fault.ensures, c.earlier.ensures, e.fault, earlier-none) refl)
