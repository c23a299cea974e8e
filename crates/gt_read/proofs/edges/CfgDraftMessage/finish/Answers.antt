use Rattle.std.proofs.Common.{refl}
use Rattle.gt_model.specs.Schema.{cfg_rows}
use Rattle.gt_model.specs.Views.{cfg_value}
use Rattle.gt_read.specs.Drafts.Views.{cfg_draft}
use Rattle.gt_read.specs.Drafts.Draft.{finished, worst}
use Rattle.gt_read.proofs.DraftLemmas.{earlier-none}
use Rattle.gt_read.proofs.edges.CfgDraftMessage.finish.Goals as goal

pub returns : goal.returns
unfolding finished worst cfg_rows cfg_draft cfg_value
returns c =
    (refl, rw (c.earlier-fault.ensures, earlier-none) refl)
