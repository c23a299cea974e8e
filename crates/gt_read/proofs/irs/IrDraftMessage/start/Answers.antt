use Rattle.std.proofs.Common.{refl}
use Rattle.gt_model.specs.Schema.{ir_rows}
use Rattle.gt_read.specs.Drafts.Views.{ir_draft}
use Rattle.gt_read.specs.Drafts.Draft.{drafted}
use Rattle.gt_read.specs.Meaning.{meaning}
use Rattle.gt_read.proofs.irs.IrDraftMessage.start.Goals as goal

pub returns : goal.returns
unfolding drafted meaning ir_rows ir_draft
returns c = rw (c.missing.ensures, c.new.ensures.items, c.new.ensures.fault, c.new-2.ensures.empty) refl
