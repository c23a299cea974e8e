use Rattle.std.proofs.Common.{refl}
use Rattle.gt_model.specs.Schema.{table_rows}
use Rattle.gt_read.specs.Drafts.Views.{table_draft}
use Rattle.gt_read.specs.Drafts.Draft.{drafted}
use Rattle.gt_read.specs.Meaning.{meaning}
use Rattle.gt_read.proofs.tables.TablePartsMessage.start.Goals as goal

pub returns : goal.returns
unfolding drafted meaning table_rows table_draft
returns c = rw (c.new.ensures, c.new-2.ensures) refl
