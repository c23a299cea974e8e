use Rattle.std.proofs.Common.{refl}
use Rattle.gt_model.specs.Schema.{data_rows}
use Rattle.gt_model.specs.Views.{data_fields}
use Rattle.gt_read.specs.Drafts.Views.{data_draft}
use Rattle.gt_read.specs.Drafts.Draft.{finished, worst}
use Rattle.gt_read.proofs.DraftLemmas.{earlier-none}
use Rattle.gt_read.proofs.blocks.DataDraftMessage.finish.Goals as goal

pub returns : goal.returns
unfolding finished worst data_rows data_draft data_fields
returns c =
    (refl, rw (c.fault-fault.ensures, earlier-none) refl)
