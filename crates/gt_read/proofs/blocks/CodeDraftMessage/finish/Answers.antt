use Rattle.std.proofs.Common.{refl}
use Rattle.gt_model.specs.Schema.{code_rows}
use Rattle.gt_model.specs.Views.{code_fields}
use Rattle.gt_read.specs.Drafts.Views.{code_draft}
use Rattle.gt_read.specs.Drafts.Draft.{finished, worst}
use Rattle.gt_read.proofs.DraftLemmas.{earlier-none}
use Rattle.gt_read.proofs.blocks.CodeDraftMessage.finish.Goals as goal

pub returns : goal.returns
unfolding finished worst code_rows code_draft code_fields
returns c =
    (refl, rw (c.fault-fault.ensures, earlier-none) refl)
