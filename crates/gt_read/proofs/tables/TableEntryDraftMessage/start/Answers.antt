use Rattle.std.proofs.Common.{refl}
use Rattle.gt_read.specs.Drafts.Views.{table_entry_draft}
use Rattle.gt_read.specs.Drafts.Draft.{drafted}
use Rattle.gt_read.specs.Meaning.{meaning}
use Rattle.gt_read.proofs.tables.TableEntryDraftMessage.start.Goals as goal

pub returns : goal.returns
unfolding drafted meaning table_entry_draft
returns c = rw (c.new.ensures) refl
