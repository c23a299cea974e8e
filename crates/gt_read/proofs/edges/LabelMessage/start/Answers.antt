use Rattle.std.proofs.Common.{refl}
use Rattle.gt_model.specs.Schema.{label_rows}
use Rattle.gt_read.specs.Drafts.Views.{label_draft}
use Rattle.gt_read.specs.Drafts.Draft.{drafted}
use Rattle.gt_read.specs.Meaning.{meaning}
use Rattle.gt_read.proofs.edges.LabelMessage.start.Goals as goal

pub returns : goal.returns
unfolding drafted meaning label_rows label_draft
returns c = refl
