use Rattle.std.proofs.Common.{refl}
use Rattle.gt_model.specs.Schema.{interval_rows}
use Rattle.gt_read.specs.Drafts.Views.{interval_draft}
use Rattle.gt_read.specs.Drafts.Draft.{drafted}
use Rattle.gt_read.specs.Meaning.{meaning}
use Rattle.gt_read.proofs.intervals.IntervalDraftMessage.start.Goals as goal

pub returns : goal.returns
unfolding drafted meaning interval_rows interval_draft
returns c = rw (c.missing.ensures, c.new.ensures.items, c.new.ensures.fault, c.new-2.ensures.empty, c.new-3.ensures) refl
