use Rattle.std.proofs.Common.{refl}
use Rattle.gt_model.specs.Schema.{section_rows}
use Rattle.gt_model.specs.Views.{section_value}
use Rattle.gt_read.specs.Drafts.Views.{section_draft}
use Rattle.gt_read.specs.Drafts.Draft.{finished, worst}
use Rattle.gt_read.proofs.DraftLemmas.{earlier-none}
use Rattle.gt_read.proofs.modules.SectionDraftMessage.finish.Goals as goal

pub returns : goal.returns
unfolding finished worst section_rows section_draft section_value
returns c =
    (refl, rw (c.earlier-fault.ensures, c.fault.ensures, earlier-none) refl)
