use Rattle.std.proofs.Common.{refl}
use Rattle.gt_model.specs.Schema.{table_rows}
use Rattle.gt_model.specs.Views.{table_fields}
use Rattle.gt_read.specs.Drafts.Views.{table_draft, table_entry_draft, table_parts}
use Rattle.gt_read.specs.Drafts.Draft.{drafted, finished, worst}
use Rattle.gt_read.specs.Meaning.{meaning}
use Rattle.gt_read.proofs.DraftLemmas.{entry_some, entry_none}
use Rattle.gt_read.proofs.tables.TableEntryDraftMessage.finish.Goals as goal

pub returns-in-Some : goal.returns-in-Some
unfolding table_entry_draft
returns-in-Some c = λ place.
    let f = entry_some table_rows table_draft table_parts _ _ _ c.in-Some.parts place c.in_ok-value.ensures c.in-Some.is in
    (refl, f.0, f.1)

pub returns-in-None : goal.returns-in-None
unfolding finished worst drafted meaning table_rows table_entry_draft table_fields
returns-in-None c = λ place.
    let f = entry_none table_rows table_draft table_parts _ _ _ c.in_ok-value.ensures c.in-None.is in
    (refl, rw f.0 (rw (c.new.ensures, c.new-in-None.ensures) refl), f.1)
