-- Entries of maps, as messages of two fields.
use Rattle.std.specs.Prelude.{◌≡◌, ℕ, Option}
use Rattle.gt_model.specs.Schema.{Key, key_kind, field, message, Rows, none, ◌&◌}
use Rattle.gt_model.specs.Values.{Fields, Plain}
use Rattle.gt_read.specs.declared.ids.IdFault.{IdFault}
use Rattle.gt_read.specs.Kinds.{Read}
use Rattle.gt_read.specs.Drafts.Draft.{DFields, drafted_plain, empty, opened, finished, worst}

abbrev pub entry_rows : Key → Rows → Rows
entry_rows k rows = field 1 (key_kind k) & message 2 rows & none

-- an entry's key and value, each the default where it has no record
abbrev pub EntryFinishes : {D A : Type 0} (k : Key) (rows : Rows) → (D → DFields (entry_rows k rows)) → (A → Read (key_kind k) × Fields Plain rows) → D → A → Option IdFault → Type 0
EntryFinishes k rows view parts draft made fault =
    (place : ℕ) → ((view draft).0 ≡ drafted_plain (key_kind k) (parts made).0)
    × ((parts made).1 ≡ finished rows (opened (empty rows) place (view draft).1.0))
    × (fault ≡ worst rows (opened (empty rows) place (view draft).1.0))
