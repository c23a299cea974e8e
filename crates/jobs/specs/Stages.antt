-- Stages: what jobs share is a relation of its own, and a job a chain of them.
use Rattle.std.specs.Prelude.{◌≡◌, ◌⊎◌, ℕ, List, Some, Result, Ok, Err}
use Rattle.gr_base.specs.declared.end.End.{End}
use Rattle.gr_base.specs.declared.end.End.TheVariants as ends
use Rattle.gt_model.specs.declared.ir.Ir.{Ir}
use Rattle.gt_read.specs.declared.fault.FormatFault.{FormatFault}
use Rattle.gt_read.specs.File.{file, format_fault}
use Rattle.bare_image.specs.declared.image.Image.{Image as AnImage}
use Rattle.bare_image.specs.declared.fault.ImageFault.{ImageFault}
use Rattle.bare_image.specs.Reading.{image_fault}
use Rattle.bare_image.specs.Valid.{image_bytes}
use Rattle.jobs.specs.declared.verdict.Refusal.{Refusal}
use Rattle.jobs.specs.declared.verdict.Refusal.TheVariants.{Format, Image}

-- what a stage may give: a result, or a refusal
abbrev pub Stage : Type 0 → Type 1
Stage T = Result T Refusal → Type 0

-- the stage that gives this
abbrev pub just : {T : Type 0} → T → Stage T
just value (Ok other) = other ≡ value
just value (Err refusal) = ⊥

-- the stage that gives this result, or refuses so
abbrev pub exactly : {T : Type 0} → Result T Refusal → Stage T
exactly given other = other ≡ given

-- a stage, and then one that goes on from its result
abbrev pub chain : {S T : Type 0} → Stage S → (S → Stage T) → Stage T
chain {S} first next (Ok value) = (mid : S) × first (Ok mid) × next mid (Ok value)
chain {S} first next (Err refusal) = first (Err refusal) ⊎ ((mid : S) × first (Ok mid) × next mid (Err refusal))

-- a stage gives one thing
abbrev pub GivesOne : {T : Type 0} → Stage T → Type 0
GivesOne {T} stage = (a b : Result T Refusal) → stage a → stage b → a ≡ b

-- a stage gives something
abbrev pub GivesSome : {T : Type 0} → Stage T → Type 0
GivesSome {T} stage = (given : Result T Refusal) × stage given

-- a call answers what a stage gives, or that memory ran out
abbrev pub Answers : {T : Type 0} → Stage T → Result T (End Refusal) → Type 0
Answers stage (Ok value) = stage (Ok value)
Answers stage (Err (ends.Fault refusal)) = stage (Err refusal)
Answers stage (Err ends.Memory) = Unit {0}

-- the IR that the bytes of a file mean; other bytes are refused by their first fault
abbrev pub meant : List ℕ → Stage Ir
meant bytes (Ok ir) = file bytes ir
meant bytes (Err refusal) =
    (fault : FormatFault) × (refusal ≡ Format fault) × (format_fault bytes ≡ Some fault) × ((ir : Ir) → file bytes ir → ⊥)

-- the image that bytes spell; other bytes are refused by the place of their first fault
abbrev pub imaged : List ℕ → Stage AnImage
imaged bytes (Ok image) = image_bytes image bytes
imaged bytes (Err refusal) =
    (fault : ImageFault) × (refusal ≡ Image fault) × image_fault bytes fault.place × ((image : AnImage) → image_bytes image bytes → ⊥)
