use Rattle.std.proofs.Common.{refl}
use Rattle.gt_model.specs.Schema.{block_rows}
use Rattle.gt_model.specs.Views.{block_value}
use Rattle.gt_read.specs.Drafts.Views.{block_draft}
use Rattle.gt_read.specs.Drafts.Draft.{finished, worst}
use Rattle.gt_read.proofs.DraftLemmas.{earlier-none}
use Rattle.gt_read.proofs.blocks.BlockDraftMessage.finish.Goals as goal

pub returns : goal.returns
unfolding finished worst block_rows block_draft block_value
returns c =
    let e = c.in_ok-body.ensures in
    (rw (e.code, e.data_) refl, rw earlier-none e.worst)
