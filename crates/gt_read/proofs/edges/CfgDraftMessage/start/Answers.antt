use Rattle.std.proofs.Common.{refl}
use Rattle.gt_model.specs.Schema.{cfg_rows}
use Rattle.gt_read.specs.Drafts.Views.{cfg_draft}
use Rattle.gt_read.specs.Drafts.Draft.{drafted}
use Rattle.gt_read.specs.Meaning.{meaning}
use Rattle.gt_read.proofs.edges.CfgDraftMessage.start.Goals as goal

pub returns : goal.returns
unfolding drafted meaning cfg_rows cfg_draft
returns c = rw (c.new.ensures.items, c.new.ensures.fault, c.new-2.ensures.items, c.new-2.ensures.fault) refl
