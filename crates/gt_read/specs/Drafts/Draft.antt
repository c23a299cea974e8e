-- Drafts: what a reader holds of a message after some of its records.
use Rattle.std.proofs.Common.{ℕ, Bool, List, [], ◌∷◌, ◌++◌, map, length, Option, Some, None}
use Rattle.std.specs.Prelude.{◌==◌, ◌||◌, if◌then◌else◌}
use Rattle.std.specs.BTreeMap.{insert_entry}
use Rattle.std.specs.List.{flat_map, fold}
use Rattle.std.specs.Option.{option_map}
use Rattle.gt_model.specs.Schema.{Kind, Id, OptionalId, Text, Blob, Unsigned64, Signed64, Unsigned32, Signed32, Flag, Key, key_kind, Row, field, repeated, message, messages, member, member_message, entries, Rows, none, ◌&◌}
use Rattle.gt_model.specs.Values.{Field, Fields, Plain}
use Rattle.gt_read.specs.declared.ids.Identifier.{Identifier}
use Rattle.gt_read.specs.declared.ids.IdFault.{IdFault}
use Rattle.gt_read.specs.Pieces.{Piece, pieces}
use Rattle.gt_read.specs.Kinds.{Located, Read, value_of, values_of, Run, run_of}
use Rattle.gt_read.specs.Meaning.{meaning, key_cmp, is_member, entry_of}
use Rattle.gt_read.specs.Identifiers.{plain_bad, id_of, plain_of, bad, earlier, least}

-- a plain field of a draft: an identifier keeps its place and its length
abbrev pub Draft : Kind → Type 0
Draft Id = Identifier
Draft OptionalId = Identifier
Draft Text = List ℕ
Draft Blob = List ℕ
Draft Unsigned64 = ℕ
Draft Signed64 = Read Signed64
Draft Unsigned32 = ℕ
Draft Signed32 = Read Signed32
Draft Flag = Bool

abbrev pub identifier : Located → Identifier
identifier l = record { place = l.place; len = length l.bytes; id = id_of l }

abbrev pub drafted_plain : (k : Kind) → Read k → Draft k
drafted_plain Id v = identifier v
drafted_plain OptionalId v = identifier v
drafted_plain Text v = v
drafted_plain Blob v = v
drafted_plain Unsigned64 v = v
drafted_plain Signed64 v = v
drafted_plain Unsigned32 v = v
drafted_plain Signed32 v = v
drafted_plain Flag v = v

-- a field of a draft: messages that can't grow any more are finished, beside the least fault in them; where there is
-- one, the file means nothing, and a list of them is empty
abbrev mutual
  pub DField : Row → Type 0
  DField (field number k) = Draft k
  DField (repeated number k) = List (Plain k) × Option IdFault
  DField (message number rows) = Option (DFields rows)
  DField (messages number rows) = List (Fields Plain rows) × Option IdFault
  DField (member members number k) = Option (Draft k)
  DField (member_message members number rows) = Option (DFields rows)
  DField (entries number k rows) = List (Read (key_kind k) × (Fields Plain rows × Option IdFault))

  pub DFields : Rows → Type 0
  DFields none = Unit {0}
  DFields (row & rows) = DField row × DFields rows

-- what a draft comes to: a plain field, and the fault in it
abbrev pub finished_plain : (k : Kind) → Draft k → Plain k
finished_plain Id d = d.id
finished_plain OptionalId d = if d.len == 16 then Some d.id else None
finished_plain Text d = d
finished_plain Blob d = d
finished_plain Unsigned64 d = d
finished_plain Signed64 d = d
finished_plain Unsigned32 d = d
finished_plain Signed32 d = d
finished_plain Flag d = d

abbrev pub fault_of : Identifier → Option IdFault
fault_of d = Some (record { place = d.place; len = d.len })

abbrev pub plain_fault : (k : Kind) → Draft k → Option IdFault
plain_fault Id d = if d.len == 16 then None else fault_of d
plain_fault OptionalId d = if (d.len == 16) || (d.len == 0) then None else fault_of d
plain_fault Text d = None
plain_fault Blob d = None
plain_fault Unsigned64 d = None
plain_fault Signed64 d = None
plain_fault Unsigned32 d = None
plain_fault Signed32 d = None
plain_fault Flag d = None

-- the least fault in a map
abbrev pub map_fault : {K A : Type 0} → List (K × (A × Option IdFault)) → Option IdFault
map_fault [] = None
map_fault (e ∷ es) = earlier e.1.1 (map_fault es)

abbrev pub fault_if : {D : Type 0} → (D → Option IdFault) → Option D → Option IdFault
fault_if f None = None
fault_if f (Some d) = f d

unfoldable mutual
  pub finished_field : (row : Row) → DField row → Field Plain row
  finished_field (field number k) d = finished_plain k d
  finished_field (repeated number k) d = d.0
  finished_field (message number rows) d = option_map (λ e. finished rows e) d
  finished_field (messages number rows) d = d.0
  finished_field (member members number k) d = option_map (finished_plain k) d
  finished_field (member_message members number rows) d = option_map (λ e. finished rows e) d
  finished_field (entries number k rows) d = map (λ (e : Read (key_kind k) × (Fields Plain rows × Option IdFault)). (plain_of (key_kind k) e.0, e.1.0)) d

  pub finished : (rows : Rows) → DFields rows → Fields Plain rows
  finished none d = tt
  finished (row & rows) d = (finished_field row d.0, finished rows d.1)

unfoldable mutual
  pub worst_field : (row : Row) → DField row → Option IdFault
  worst_field (field number k) d = plain_fault k d
  worst_field (repeated number k) d = d.1
  worst_field (message number rows) d = fault_if (λ e. worst rows e) d
  worst_field (messages number rows) d = d.1
  worst_field (member members number k) d = fault_if (plain_fault k) d
  worst_field (member_message members number rows) d = fault_if (λ e. worst rows e) d
  worst_field (entries number k rows) d = map_fault d

  pub worst : (rows : Rows) → DFields rows → Option IdFault
  worst none d = None
  worst (row & rows) d = earlier (worst_field row d.0) (worst rows d.1)

-- repeated values beside the least fault in them: where there is one, none is kept
abbrev pub lean : {A : Type 0} → List A → Option IdFault → List A × Option IdFault
lean items None = (items, None)
lean items (Some fault) = ([], Some fault)

unfoldable mutual
  pub drafted_field : (row : Row) → Field Read row → DField row
  drafted_field (field number k) v = drafted_plain k v
  drafted_field (repeated number k) vs = lean (map (plain_of k) vs) (least (flat_map (plain_bad k) vs))
  drafted_field (message number rows) v = option_map (λ w. drafted rows w) v
  drafted_field (messages number rows) vs = lean (map (λ w. finished rows (drafted rows w)) vs) (least (flat_map (λ w. bad rows w) vs))
  drafted_field (member members number k) v = option_map (drafted_plain k) v
  drafted_field (member_message members number rows) v = option_map (λ w. drafted rows w) v
  drafted_field (entries number k rows) es = map (λ (e : Read (key_kind k) × Fields Read rows). (e.0, (finished rows (drafted rows e.1), least (bad rows e.1)))) es

  -- the draft of a value
  pub drafted : (rows : Rows) → Fields Read rows → DFields rows
  drafted none vs = tt
  drafted (row & rows) vs = (drafted_field row vs.0, drafted rows vs.1)

-- a message that is read whole: what its draft comes to, and the least fault in it
abbrev pub done : (rows : Rows) → Fields Read rows → Fields Plain rows × Option IdFault
done rows v = (finished rows (drafted rows v), least (bad rows v))

-- the draft of a message without records, of which the first stands at the place
abbrev pub empty : (rows : Rows) → ℕ → DFields rows
empty rows first = drafted rows (meaning rows first [])

-- a plain field after one more value, if there is one
abbrev pub kept : {A B : Type 0} → (A → B) → B → Option A → B
kept f old None = old
kept f old (Some new) = f new

-- an embedded message after one more payload, if there is one
abbrev pub opened : {D : Type 0} → (ℕ → D) → ℕ → Option D → D
opened start place None = start place
opened start place (Some d) = d

abbrev pub entered : {D : Type 0} → (ℕ → D) → (D → Piece → D) → Option D → Option Run → Option D
entered start step old None = old
entered start step old (Some r) = Some (fold step (opened start r.place old) (pieces r.bytes r.start))

-- repeated messages after one more, if there is one
abbrev pub added : {A : Type 0} → List A × Option IdFault → Option (A × Option IdFault) → List A × Option IdFault
added old None = old
added old (Some new) = lean (old.0 ++ new.0 ∷ []) (earlier old.1 new.1)

-- repeated plain values after some more
abbrev pub added_all : (k : Kind) → List (Plain k) × Option IdFault → List (Read k) → List (Plain k) × Option IdFault
added_all k old [] = old
added_all k old (v ∷ vs) = lean (old.0 ++ map (plain_of k) (v ∷ vs)) (earlier old.1 (least (flat_map (plain_bad k) (v ∷ vs))))

-- a map after one more entry, if there is one
abbrev pub entered_map : (k : Key) (rows : Rows) → List (Read (key_kind k) × (Fields Plain rows × Option IdFault)) → Option Run → List (Read (key_kind k) × (Fields Plain rows × Option IdFault))
entered_map k rows old None = old
entered_map k rows old (Some r) =
    let e = entry_of k (λ place qs. meaning rows place qs) r in insert_entry (key_cmp k) old e.0 (done rows e.1)

unfoldable mutual
  -- a draft after one more record
  pub step_field : (row : Row) → DField row → Piece → DField row
  step_field (field number k) d p = if p.number == number then kept (drafted_plain k) d (value_of k p) else d
  step_field (repeated number k) d p = if p.number == number then added_all k d (values_of k p) else d
  step_field (message number rows) d p = if p.number == number then entered (empty rows) (λ e q. step rows e q) d (run_of p) else d
  step_field (messages number rows) d p = if p.number == number then added d (option_map (λ (r : Run). done rows (meaning rows r.place (pieces r.bytes r.start))) (run_of p)) else d
  step_field (member members number k) d p =
      if is_member members p then (if p.number == number then kept (λ v. Some (drafted_plain k v)) d (value_of k p) else None) else d
  step_field (member_message members number rows) d p =
      if is_member members p then (if p.number == number then entered (empty rows) (λ e q. step rows e q) d (run_of p) else None) else d
  step_field (entries number k rows) d p = if p.number == number then entered_map k rows d (run_of p) else d

  pub step : (rows : Rows) → DFields rows → Piece → DFields rows
  step none d p = tt
  step (row & rows) d p = (step_field row d.0 p, step rows d.1 p)
