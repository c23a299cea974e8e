use Rattle.std.proofs.Common.{refl}
use Rattle.gt_model.specs.Schema.{block_rows}
use Rattle.gt_read.specs.Drafts.Views.{block_draft}
use Rattle.gt_read.specs.Drafts.Draft.{drafted}
use Rattle.gt_read.specs.Meaning.{meaning}
use Rattle.gt_read.proofs.blocks.BlockDraftMessage.start.Goals as goal

pub returns : goal.returns
unfolding drafted meaning block_rows block_draft
returns c = refl
