use Rattle.std.proofs.Common.{refl}
use Rattle.gt_model.specs.Schema.{label_rows}
use Rattle.gt_model.specs.Views.{label_value}
use Rattle.gt_read.specs.Drafts.Views.{label_draft}
use Rattle.gt_read.specs.Drafts.Draft.{finished, worst}
use Rattle.gt_read.proofs.edges.LabelMessage.finish.Goals as goal

pub returns : goal.returns
unfolding finished worst label_rows label_draft label_value
returns c =
    (refl, refl)
