use Rattle.std.proofs.Common.{refl}
use Rattle.gt_model.specs.Schema.{module_rows}
use Rattle.gt_read.specs.Drafts.Views.{module_draft}
use Rattle.gt_read.specs.Drafts.Draft.{drafted}
use Rattle.gt_read.specs.Meaning.{meaning}
use Rattle.gt_read.proofs.modules.ModuleDraftMessage.start.Goals as goal

pub returns : goal.returns
unfolding drafted meaning module_rows module_draft
returns c = rw (c.missing.ensures, c.new.ensures, c.new-2.ensures, c.new-3.ensures.items, c.new-3.ensures.fault, c.new-4.ensures.items, c.new-4.ensures.fault, c.new-5.ensures.items, c.new-5.ensures.fault, c.new-6.ensures.empty, c.missing-2.ensures) refl
