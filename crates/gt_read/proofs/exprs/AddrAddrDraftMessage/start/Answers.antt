use Rattle.std.proofs.Common.{refl}
use Rattle.gt_model.specs.Schema.{addr_addr_rows}
use Rattle.gt_read.specs.Drafts.Views.{addr_addr_draft}
use Rattle.gt_read.specs.Drafts.Draft.{drafted}
use Rattle.gt_read.specs.Meaning.{meaning}
use Rattle.gt_read.proofs.exprs.AddrAddrDraftMessage.start.Goals as goal

pub returns : goal.returns
unfolding drafted meaning addr_addr_rows addr_addr_draft
returns c = rw (c.missing.ensures, c.missing-2.ensures) refl
