-- What the readers of messages answer: a draft after the records, or the first thing that is wrong with them.
use Rattle.std.specs.Prelude.{◌≡◌, ◌≤◌, ◌+◌, ◌-◌, ℕ, List, [], ◌∷◌, ◌++◌, length, Option, Some, None, Result, Ok, Err}
use Rattle.gr_base.specs.declared.end.End.{End}
use Rattle.gr_base.specs.declared.end.End.TheVariants as ends
use Rattle.pb_wire.specs.declared.records.Load.{Load}
use Rattle.pb_wire.specs.declared.records.Load.TheVariants as loads
use Rattle.gt_model.specs.Schema.{Rows}
use Rattle.gt_model.specs.Values.{Fields, Plain}
use Rattle.gt_read.specs.declared.fault.FormatFault.{FormatFault}
use Rattle.gt_read.specs.declared.ids.IdFault.{IdFault}
use Rattle.gt_read.specs.declared.pieces.Carried.{Carried}
use Rattle.gt_read.specs.declared.pieces.Carried.TheVariants as carrieds
use Rattle.gt_read.specs.declared.pieces.Piece.{Piece}
use Rattle.gt_read.specs.Pieces as spec
use Rattle.gt_read.specs.Pieces.{pieces}
use Rattle.gt_read.specs.Kinds.{Run}
use Rattle.gt_read.specs.Faults.{first_of}
use Rattle.gt_read.specs.Drafts.Draft.{DFields, added, empty, step, finished, worst}

-- a record of the program, with the bytes to which it refers
abbrev pub carried : Carried → spec.Carried
carried (carrieds.Number n) = spec.Number n
carried (carrieds.Bytes r) = spec.Bytes r.start r.bytes.now
carried carrieds.Fixed = spec.Fixed

abbrev pub piece : Piece → spec.Piece
piece p = record { place = p.place; number = p.number; carried = carried p.carried }

-- the run of a record lies within the bytes of its message, of which the first is at the base
abbrev pub RunWithin : Load → List ℕ → ℕ → Type 0
RunWithin (loads.Varint n) bytes base = Unit {0}
RunWithin (loads.Eight n) bytes base = Unit {0}
RunWithin (loads.Run span) bytes base = (base ≤ span.start) × (span.start - base + span.len ≤ length bytes)
RunWithin (loads.Four n) bytes base = Unit {0}

-- a fault that is answered is the first of these
abbrev pub IsFirst : List FormatFault → End FormatFault → Type 0
IsFirst faults (ends.Fault f) = first_of faults ≡ Some f
IsFirst faults ends.Memory = Unit {0}

-- Ok says the fact, and that nothing is wrong
abbrev pub Answers : {A : Type 0} → Result A (End FormatFault) → List FormatFault → (A → Type 0) → Type 0
Answers (Ok a) faults fact = fact a × (faults ≡ [])
Answers (Err e) faults fact = IsFirst faults e

-- one draft after another
abbrev pub Folds : {D : Type 0} → (D → spec.Piece → D → Type 0) → D → List spec.Piece → D → Type 0
Folds steps old [] new = new ≡ old
Folds {D} steps old (p ∷ ps) new = (mid : D) × steps old p mid × Folds steps mid ps new

-- a message that was read whole, from the place of its first record
pub record WasRead {D A : Type 0} (starts : ℕ → D → Type 0) (steps : D → spec.Piece → D → Type 0) (finishes : D → A → Option IdFault → Type 0) (place : ℕ) (ps : List spec.Piece) (made : A) (fault : Option IdFault) : Type 0 where
  pub first : D
  pub last : D
  pub begun : starts place first
  pub folded : Folds steps first ps last
  pub ended : finishes last made fault

-- the members of a message's reader, by its fields and what a draft and a whole message of it hold
abbrev pub Starts : {D : Type 0} (rows : Rows) → (D → DFields rows) → ℕ → D → Type 0
Starts rows view place draft = view draft ≡ empty rows place

abbrev pub Steps : {D : Type 0} (rows : Rows) → (D → DFields rows) → D → spec.Piece → D → Type 0
Steps rows view old p new = view new ≡ step rows (view old) p

abbrev pub Finishes : {D A : Type 0} (rows : Rows) → (D → DFields rows) → (A → Fields Plain rows) → D → A → Option IdFault → Type 0
Finishes rows view value draft made fault = (value made ≡ finished rows (view draft)) × (fault ≡ worst rows (view draft))

-- an embedded message after one more payload, from the place of its record
abbrev pub Entered : {D : Type 0} (starts : ℕ → D → Type 0) (steps : D → spec.Piece → D → Type 0) → Option D → ℕ → List spec.Piece → D → Type 0
Entered {D} starts steps None place ps new = (first : D) × starts place first × Folds steps first ps new
Entered starts steps (Some old) place ps new = Folds steps old ps new

-- an embedded message after one more record
abbrev pub EntersRun : {D : Type 0} (starts : ℕ → D → Type 0) (steps : D → spec.Piece → D → Type 0) → Option D → Option Run → Option D → Type 0
EntersRun starts steps old None new = new ≡ old
EntersRun {D} starts steps old (Some r) new = (draft : D) × (new ≡ Some draft) × Entered starts steps old r.place (pieces r.bytes r.start) draft

-- a oneof after one more record of a member
abbrev pub TakesMember : {D O : Type 0} (starts : ℕ → D → Type 0) (steps : D → spec.Piece → D → Type 0) (member : O → Option D) (made : D → O) → O → Option Run → O → Type 0
TakesMember starts steps member made old None new = new ≡ old
TakesMember {D} {O} starts steps member made old (Some r) new = (draft : D) × (new ≡ made draft) × Entered starts steps (member old) r.place (pieces r.bytes r.start) draft

-- repeated messages after one more record
abbrev pub AddsRun : {D A : Type 0} (starts : ℕ → D → Type 0) (steps : D → spec.Piece → D → Type 0) (finishes : D → A → Option IdFault → Type 0) → List A → Option IdFault → Option Run → List A → Option IdFault → Type 0
AddsRun starts steps finishes items fault None items' fault' = (items' ≡ items) × (fault' ≡ fault)
AddsRun {D} {A} starts steps finishes items fault (Some r) items' fault' =
    (made : A) × (more : Option IdFault) × WasRead starts steps finishes r.place (pieces r.bytes r.start) made more × ((items', fault') ≡ added (items, fault) (Some (made, more)))

-- what an embedded message comes to, if there is one
abbrev pub FinishesIf : {D A : Type 0} (finishes : D → A → Option IdFault → Type 0) → Option D → Option A → Option IdFault → Type 0
FinishesIf finishes None made fault = (made ≡ None) × (fault ≡ None)
FinishesIf {D} {A} finishes (Some draft) made fault = (a : A) × (made ≡ Some a) × finishes draft a fault
