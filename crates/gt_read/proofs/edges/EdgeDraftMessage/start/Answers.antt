use Rattle.std.proofs.Common.{refl}
use Rattle.gt_model.specs.Schema.{edge_rows}
use Rattle.gt_read.specs.Drafts.Views.{edge_draft}
use Rattle.gt_read.specs.Drafts.Draft.{drafted}
use Rattle.gt_read.specs.Meaning.{meaning}
use Rattle.gt_read.proofs.edges.EdgeDraftMessage.start.Goals as goal

pub returns : goal.returns
unfolding drafted meaning edge_rows edge_draft
returns c = rw (c.missing.ensures, c.missing-2.ensures) refl
