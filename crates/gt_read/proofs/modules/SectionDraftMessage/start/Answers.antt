use Rattle.std.proofs.Common.{refl}
use Rattle.gt_model.specs.Schema.{section_rows}
use Rattle.gt_read.specs.Drafts.Views.{section_draft}
use Rattle.gt_read.specs.Drafts.Draft.{drafted}
use Rattle.gt_read.specs.Meaning.{meaning}
use Rattle.gt_read.proofs.modules.SectionDraftMessage.start.Goals as goal

pub returns : goal.returns
unfolding drafted meaning section_rows section_draft
returns c = rw (c.missing.ensures, c.new.ensures, c.new-2.ensures.items, c.new-2.ensures.fault, c.new-3.ensures) refl
