use Rattle.gt_model.specs.Schema.{NumberKey, expr_rows}
use Rattle.gt_read.specs.Kinds.{Run}
use Rattle.gt_read.specs.Drafts.Views.{expr_entry_draft, expr_entry_parts}
use Rattle.gt_read.proofs.EntryLemmas.{entry_read}
use Rattle.gt_read.proofs.Inserting.{expr_inserted}
use Rattle.gt_read.proofs.exprs.take_expr.Goals as goal

pub returns-in_ok-insert-in-Bytes : goal.returns-in_ok-insert-in-Bytes
returns-in_ok-insert-in-Bytes c =
    let run : Run = record { place = c.args.part.now.place; start = c.in-Bytes.run'.start; bytes = c.in-Bytes.run'.bytes.now } in
    let e = entry_read NumberKey expr_rows expr_entry_draft expr_entry_parts run _ _ c.in_ok-entry-in-Bytes.ensures.0 in
    rw (c.in-Bytes.is, c.in_ok-insert-in-Bytes.ensures.entries) (expr_inserted _ run _ _ e, c.in_ok-entry-in-Bytes.ensures.1)
