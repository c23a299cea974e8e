use Rattle.std.proofs.Common.{refl}
use Rattle.gt_model.specs.Schema.{proxy_rows}
use Rattle.gt_model.specs.Views.{proxy_value}
use Rattle.gt_read.specs.Drafts.Views.{proxy_draft}
use Rattle.gt_read.specs.Drafts.Draft.{finished, worst}
use Rattle.gt_read.proofs.DraftLemmas.{earlier-none}
use Rattle.gt_read.proofs.modules.ProxyDraftMessage.finish.Goals as goal

pub returns : goal.returns
unfolding finished worst proxy_rows proxy_draft proxy_value
returns c =
    (refl, rw (c.fault-fault.ensures, earlier-none) refl)
