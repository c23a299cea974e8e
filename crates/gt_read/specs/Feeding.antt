-- What a feeder stands for: what a file comes to, of which some bytes were read and others are still to come.
use Rattle.std.specs.Prelude.{◌≡◌, ℕ, List, ◌++◌, Option, Some, None, Result, Ok, Err}
use Rattle.std.specs.List.{fold}
use Rattle.std.specs.Option.{option_map}
use Rattle.gr_base.specs.declared.end.End.{End}
use Rattle.gr_base.specs.declared.end.End.TheVariants as ends
use Rattle.gt_model.specs.Schema.{ir_rows}
use Rattle.gt_model.specs.Typed.{AreBytes}
use Rattle.gt_read.specs.declared.fault.FormatFault.{FormatFault}
use Rattle.gt_read.specs.declared.fault.FormatFault.TheVariants.{UuidLength, Prefix, Wire, Utf8, Version}
use Rattle.gt_read.specs.declared.ids.IdFault.{IdFault}
use Rattle.gt_read.specs.declared.feeding_drafts.BodyDraft.{BodyDraft}
use Rattle.gt_read.specs.declared.feeding_drafts.Stage.{Stage}
use Rattle.gt_read.specs.declared.feeding_drafts.Stage.TheVariants as stages
use Rattle.gt_read.specs.declared.feeding.Feeder.{Feeder}
use Rattle.gt_read.specs.Drafts.Draft.{DFields, step, finished, worst}
use Rattle.gt_read.specs.Drafts.Views.{ir_draft}
use Rattle.gt_read.specs.Faults.{faults, first_of}
use Rattle.gt_read.specs.File.{or_else, version_fault}
use Rattle.gt_read.specs.Outcome.{Outcome, or_fault, outcome}
use Rattle.gt_read.specs.Pieces.{pieces}

-- the version that a draft has
unfoldable pub draft_version : DFields ir_rows → ℕ
unfolding ir_rows
draft_version d = d.1.1.1.0

-- an identifier's fault, as one of a file
abbrev pub length_fault : Option IdFault → Option FormatFault
length_fault fault = option_map (λ (f : IdFault). UuidLength f.place f.len) fault

-- what a whole draft comes to: the version is tested first, then the identifiers
abbrev pub draft_fault : ℕ → DFields ir_rows → Option FormatFault
draft_fault byte d = or_else (version_fault byte (draft_version d)) (length_fault (worst ir_rows d))

-- what a whole draft comes to where these are the faults of its records
abbrev pub draft_ends : ℕ → List FormatFault → DFields ir_rows → Outcome
draft_ends byte fs d = or_fault (or_else (first_of fs) (draft_fault byte d)) (finished ir_rows d)

-- what a draft comes to where these bytes are still to come, the first of them at the place
unfoldable pub body_ends : ℕ → DFields ir_rows → ℕ → List ℕ → Outcome
body_ends byte d place bytes = draft_ends byte (faults ir_rows bytes place) (fold (step ir_rows) d (pieces bytes place))

-- the same of a body whose last record isn't whole yet
abbrev pub body_as : BodyDraft → List ℕ → Outcome
body_as body rest = body_ends body.version (ir_draft body.draft) body.place (body.pending ++ rest)

-- what a file comes to where these bytes are still to come; one that was stopped comes to that end
abbrev pub stage_as : Stage → List ℕ → Outcome
stage_as (stages.Prefix front) rest = outcome (front.bytes ++ rest)
stage_as (stages.Body body) rest = body_as body rest
stage_as (stages.Stopped end) rest = Err end

-- what the file that is fed comes to where these bytes are still to come
abbrev pub ends_as : Feeder → List ℕ → Outcome
ends_as feeder rest = stage_as feeder.stage rest

-- why a feeder takes no more, if it doesn't
abbrev pub stage_end : Stage → Option (End FormatFault)
stage_end (stages.Prefix front) = None
stage_end (stages.Body body) = None
stage_end (stages.Stopped end) = Some end

abbrev pub stopped : Feeder → Option (End FormatFault)
stopped feeder = stage_end feeder.stage

-- a fault that is answered is what the file comes to
abbrev pub Comes : End FormatFault → Outcome → Type 0
Comes (ends.Fault fault) outcome = outcome ≡ Err (ends.Fault fault)
Comes ends.Memory outcome = Unit {0}

-- a fault of the prefix, of a record or of a text
abbrev pub EarlyFault : FormatFault → Type 0
EarlyFault (Prefix place) = Unit {0}
EarlyFault (Wire fault) = Unit {0}
EarlyFault (Utf8 place) = Unit {0}
EarlyFault (Version byte field) = ⊥
EarlyFault (UuidLength place length) = ⊥

-- an answer that may come before the end of the file
abbrev pub IsEarly : End FormatFault → Type 0
IsEarly (ends.Fault fault) = EarlyFault fault
IsEarly ends.Memory = Unit {0}

-- what a taker took is bytes, and whatever follows, the file comes to the same
pub record TookPiece (old : Feeder) (piece : List ℕ) (new : Feeder) : Type 0 where
  pub same : (rest : List ℕ) → ends_as new rest ≡ ends_as old (piece ++ rest)
  pub bytes : AreBytes piece
