-- The readers' maps after one more entry.
use Rattle.std.proofs.Common.{◌≡◌, ℕ, List, map, Option, Some, None, refl, sym, ◌∙◌}
use Rattle.std.specs.Ordering.{nat_cmp}
use Rattle.std.specs.BTreeMap.{insert_entry}
use Rattle.std.specs.Cmp.Lexicographic.{slice_cmp}
use Rattle.gt_model.specs.Schema.{TextKey, NumberKey, expr_rows, table_rows}
use Rattle.gt_model.specs.Values.{Fields, Plain}
use Rattle.gt_read.specs.declared.expr_drafts.ExprEntry.{ExprEntry}
use Rattle.gt_read.specs.declared.expr_drafts.HeldExpr.{HeldExpr}
use Rattle.gt_read.specs.declared.module_drafts.TableEntry.{TableEntry}
use Rattle.gt_read.specs.declared.module_drafts.TableParts.{TableParts}
use Rattle.gt_read.specs.declared.ids.IdFault.{IdFault}
use Rattle.gt_read.specs.Kinds.{Read, Run}
use Rattle.gt_read.specs.Meaning.{meaning, entry_of}
use Rattle.gt_read.specs.Identifiers.{bad, least}
use Rattle.gt_read.specs.Drafts.Draft.{entered_map}
use Rattle.gt_read.specs.Drafts.Views.{expr_parts, expr_held, table_parts, table_held}
use Rattle.gt_read.proofs.EntryLemmas.{IsEntry}
use Rattle.gt_read.proofs.Steps.{insert-map}

pub expr_inserted : (old : List (ℕ × HeldExpr)) (r : Run) (made : ExprEntry) (fault : Option IdFault) → IsEntry NumberKey expr_rows r made.at (expr_parts made.parts) fault
    → map expr_held (insert_entry nat_cmp old made.at (record { parts = made.parts; fault = fault })) ≡ entered_map NumberKey expr_rows (map expr_held old) (Some r)
expr_inserted old r made fault e =
    insert-map nat_cmp (λ (h : HeldExpr). (expr_parts h.parts, h.fault)) old made.at (record { parts = made.parts; fault = fault })
    ∙ (λ i. insert_entry nat_cmp (map expr_held old) (e.key_is i) (e.value_is i, e.fault_is i))

-- a table has no identifiers
clean : (v : Fields Read table_rows) → least (bad table_rows v) ≡ None
unfolding bad table_rows
clean v = refl

abbrev no_fault : TableParts → Fields Plain table_rows × Option IdFault
no_fault t = (table_parts t, None)

pub table_inserted : (old : List (List ℕ × TableParts)) (r : Run) (made : TableEntry) (fault : Option IdFault) → IsEntry TextKey table_rows r made.name (table_parts made.parts) fault
    → map table_held (insert_entry (slice_cmp nat_cmp) old made.name made.parts) ≡ entered_map TextKey table_rows (map table_held old) (Some r)
table_inserted old r made fault e =
    insert-map (slice_cmp nat_cmp) no_fault old made.name made.parts
    ∙ (λ i. insert_entry (slice_cmp nat_cmp) (map table_held old) (e.key_is i) (e.value_is i, sym (clean (entry_of TextKey (λ place qs. meaning table_rows place qs) r).1) i))
