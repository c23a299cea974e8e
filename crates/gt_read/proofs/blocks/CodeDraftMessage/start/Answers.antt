use Rattle.std.proofs.Common.{refl}
use Rattle.gt_model.specs.Schema.{code_rows}
use Rattle.gt_read.specs.Drafts.Views.{code_draft}
use Rattle.gt_read.specs.Drafts.Draft.{drafted}
use Rattle.gt_read.specs.Meaning.{meaning}
use Rattle.gt_read.proofs.blocks.CodeDraftMessage.start.Goals as goal

pub returns : goal.returns
unfolding drafted meaning code_rows code_draft
returns c = rw (c.missing.ensures) refl
