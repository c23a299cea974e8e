use Rattle.std.proofs.Common.{refl}
use Rattle.gt_model.specs.Schema.{addr_const_rows}
use Rattle.gt_read.specs.Drafts.Views.{addr_const_draft}
use Rattle.gt_read.specs.Drafts.Draft.{drafted}
use Rattle.gt_read.specs.Meaning.{meaning}
use Rattle.gt_read.proofs.exprs.AddrConstDraftMessage.start.Goals as goal

pub returns : goal.returns
unfolding drafted meaning addr_const_rows addr_const_draft
returns c = rw (c.missing.ensures) refl
