use Rattle.gt_model.specs.Schema.{TextKey, table_rows}
use Rattle.gt_read.specs.Kinds.{Run}
use Rattle.gt_read.specs.Drafts.Views.{table_entry_draft, table_entry_parts}
use Rattle.gt_read.proofs.EntryLemmas.{entry_read}
use Rattle.gt_read.proofs.Inserting.{table_inserted}
use Rattle.gt_read.proofs.tables.take_table.Goals as goal

pub returns-in_ok-insert-in-Bytes : goal.returns-in_ok-insert-in-Bytes
returns-in_ok-insert-in-Bytes c =
    let run : Run = record { place = c.args.part.now.place; start = c.in-Bytes.run'.start; bytes = c.in-Bytes.run'.bytes.now } in
    let e = entry_read TextKey table_rows table_entry_draft table_entry_parts run _ _ c.in_ok-entry-in-Bytes.ensures.0 in
    rw (c.in-Bytes.is, c.in_ok-insert-in-Bytes.ensures.entries, c.new.ensures) (table_inserted _ run _ _ e, c.in_ok-entry-in-Bytes.ensures.1)
