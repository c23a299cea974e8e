-- An entry of a map is read as a message of two fields.
use Rattle.std.proofs.Common.{◌≡◌, ℕ, [], Option, Some, None, refl, sym, ap, ◌∙◌}
use Rattle.std.specs.Prelude.{unwrap_or}
use Rattle.std.specs.List.{fold}
use Rattle.std.specs.Option.{option_map}
use Rattle.gt_model.specs.Schema.{Key, TextKey, NumberKey, key_kind, Rows}
use Rattle.gt_model.specs.Values.{Fields, Plain}
use Rattle.gt_read.specs.declared.ids.IdFault.{IdFault}
use Rattle.gt_read.specs.Pieces.{pieces}
use Rattle.gt_read.specs.Kinds.{Read, Run, absent, of_number}
use Rattle.gt_read.specs.Meaning.{meaning, entry_of, last_value, joined_message}
use Rattle.gt_read.specs.Identifiers.{bad, least}
use Rattle.gt_read.specs.Drafts.Draft.{DFields, drafted, drafted_plain, empty, opened, step, finished, worst}
use Rattle.gt_read.specs.Drafts.Entries.{entry_rows, EntryFinishes}
use Rattle.gt_read.specs.Drafts.Answers.{Starts, Steps, WasRead}
use Rattle.gt_read.proofs.Steps.{stepped_all}
use Rattle.gt_read.proofs.Finishing.{all_worst}
use Rattle.gt_read.proofs.DraftLemmas.{folds_view}

same_key : (k : Key) (a b : Read (key_kind k)) → drafted_plain (key_kind k) a ≡ drafted_plain (key_kind k) b → a ≡ b
same_key TextKey a b e = e
same_key NumberKey a b e = e

opened_value : (rows : Rows) (place : ℕ) (o : Option (Fields Read rows)) → finished rows (opened (empty rows) place (option_map (drafted rows) o)) ≡ finished rows (drafted rows (unwrap_or o (meaning rows place [])))
opened_value rows place None = refl
opened_value rows place (Some w) = refl

opened_worst : (rows : Rows) (place : ℕ) (o : Option (Fields Read rows)) → worst rows (opened (empty rows) place (option_map (drafted rows) o)) ≡ least (bad rows (unwrap_or o (meaning rows place [])))
opened_worst rows place None = all_worst rows (meaning rows place [])
opened_worst rows place (Some w) = all_worst rows w

pub record IsEntry (k : Key) (rows : Rows) (r : Run) (key : Read (key_kind k)) (value : Fields Plain rows) (fault : Option IdFault) : Type 0 where
  pub key_is : key ≡ (entry_of k (λ place qs. meaning rows place qs) r).0
  pub value_is : value ≡ finished rows (drafted rows (entry_of k (λ place qs. meaning rows place qs) r).1)
  pub fault_is : fault ≡ least (bad rows (entry_of k (λ place qs. meaning rows place qs) r).1)

pub entry_read : {D A : Type 0} (k : Key) (rows : Rows) (view : D → DFields (entry_rows k rows)) (parts : A → Read (key_kind k) × Fields Plain rows) (r : Run) (made : A) (fault : Option IdFault)
    → WasRead (Starts (entry_rows k rows) view) (Steps (entry_rows k rows) view) (EntryFinishes k rows view parts) r.place (pieces r.bytes r.start) made fault
    → IsEntry k rows r (parts made).0 (parts made).1 fault
unfolding drafted meaning
entry_read k rows view parts r made fault w =
    let ps = pieces r.bytes r.start in
    let key = unwrap_or (last_value (key_kind k) (of_number 1 ps)) (absent (key_kind k) r.place) in
    let value = joined_message (λ place qs. meaning rows place qs) (of_number 2 ps) in
    let last : view w.last ≡ (drafted_plain (key_kind k) key, (option_map (drafted rows) value, tt)) =
    folds_view (entry_rows k rows) view ps w.first w.last w.folded ∙ ap (λ d. fold (step (entry_rows k rows)) d ps) w.begun ∙ sym (stepped_all (entry_rows k rows) r.place [] ps) in
    let e = w.ended r.place in
    let o : (view w.last).1.0 ≡ option_map (drafted rows) value = ap (λ (d : DFields (entry_rows k rows)). d.1.0) last in
    record {
      key_is = sym (same_key k key (parts made).0 (sym (ap (λ (d : DFields (entry_rows k rows)). d.0) last) ∙ e.0));
      value_is = e.1 ∙ ap (λ x. finished rows (opened (empty rows) r.place x)) o ∙ opened_value rows r.place value;
      fault_is = e.2 ∙ ap (λ x. worst rows (opened (empty rows) r.place x)) o ∙ opened_worst rows r.place value;
    }
