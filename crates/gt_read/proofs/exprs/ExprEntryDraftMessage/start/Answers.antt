use Rattle.std.proofs.Common.{refl}
use Rattle.gt_read.specs.Drafts.Views.{expr_entry_draft}
use Rattle.gt_read.specs.Drafts.Draft.{drafted}
use Rattle.gt_read.specs.Meaning.{meaning}
use Rattle.gt_read.proofs.exprs.ExprEntryDraftMessage.start.Goals as goal

pub returns : goal.returns
unfolding drafted meaning expr_entry_draft
returns c = refl
