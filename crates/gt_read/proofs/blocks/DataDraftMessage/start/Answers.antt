use Rattle.std.proofs.Common.{refl}
use Rattle.gt_model.specs.Schema.{data_rows}
use Rattle.gt_read.specs.Drafts.Views.{data_draft}
use Rattle.gt_read.specs.Drafts.Draft.{drafted}
use Rattle.gt_read.specs.Meaning.{meaning}
use Rattle.gt_read.proofs.blocks.DataDraftMessage.start.Goals as goal

pub returns : goal.returns
unfolding drafted meaning data_rows data_draft
returns c = rw (c.missing.ensures) refl
