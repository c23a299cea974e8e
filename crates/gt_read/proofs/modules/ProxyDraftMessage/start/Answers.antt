use Rattle.std.proofs.Common.{refl}
use Rattle.gt_model.specs.Schema.{proxy_rows}
use Rattle.gt_read.specs.Drafts.Views.{proxy_draft}
use Rattle.gt_read.specs.Drafts.Draft.{drafted}
use Rattle.gt_read.specs.Meaning.{meaning}
use Rattle.gt_read.proofs.modules.ProxyDraftMessage.start.Goals as goal

pub returns : goal.returns
unfolding drafted meaning proxy_rows proxy_draft
returns c = rw (c.missing.ensures) refl
