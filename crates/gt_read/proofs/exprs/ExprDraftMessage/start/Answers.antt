use Rattle.std.proofs.Common.{refl}
use Rattle.gt_model.specs.Schema.{expr_rows}
use Rattle.gt_read.specs.Drafts.Views.{expr_draft}
use Rattle.gt_read.specs.Drafts.Draft.{drafted}
use Rattle.gt_read.specs.Meaning.{meaning}
use Rattle.gt_read.proofs.exprs.ExprDraftMessage.start.Goals as goal

pub returns : goal.returns
unfolding drafted meaning expr_rows expr_draft
returns c = rw (c.new.ensures) refl
