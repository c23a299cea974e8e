use Rattle.std.proofs.Common.{refl}
use Rattle.gt_model.specs.Schema.{expr_rows}
use Rattle.gt_model.specs.Views.{expr_fields}
use Rattle.gt_read.specs.Drafts.Views.{expr_draft, expr_entry_draft, expr_parts}
use Rattle.gt_read.specs.Drafts.Draft.{drafted, finished, worst}
use Rattle.gt_read.specs.Meaning.{meaning}
use Rattle.gt_read.proofs.DraftLemmas.{entry_some, entry_none}
use Rattle.gt_read.proofs.exprs.ExprEntryDraftMessage.finish.Goals as goal

pub returns-in-Some : goal.returns-in-Some
unfolding expr_entry_draft
returns-in-Some c = λ place.
    let f = entry_some expr_rows expr_draft expr_parts _ _ _ c.in-Some.parts place c.in_ok-value.ensures c.in-Some.is in
    (refl, f.0, f.1)

pub returns-in-None : goal.returns-in-None
unfolding finished worst drafted meaning expr_rows expr_entry_draft expr_fields
returns-in-None c = λ place.
    let f = entry_none expr_rows expr_draft expr_parts _ _ _ c.in_ok-value.ensures c.in-None.is in
    (refl, rw (f.0, c.new.ensures) refl, rw (f.0, f.1) refl)
