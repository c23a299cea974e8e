-- Lines that begin with a word of patch text's own: `insert`, `function` and `end`.
use Rattle.std.specs.Prelude.{◌≡◌, ◌⊎◌, ℕ, Bool, false, ◌||◌, MatchBool, List, [], ◌∷◌, Option, Some, None, codes}
use Rattle.std.specs.Str.{bytes_eq}
use Rattle.asm_read.specs.Identifier.{identifier_of}
use Rattle.a64_forms.specs.Number.{IsNumber, IsNumberWord}
use Rattle.asm_lines.specs.declared.line.AsmName.{AsmName}
use Rattle.asm_lines.specs.Labels.{IsLabel}
use Rattle.patch_lines.specs.declared.line.LabelName.{LabelName}
use Rattle.patch_lines.specs.declared.line.PatchLine.{PatchLine}
use Rattle.patch_lines.specs.declared.line.PatchLine.TheVariants as lines
use Rattle.patch_lines.specs.declared.line.Spot.{Spot}
use Rattle.patch_lines.specs.declared.line.Spot.TheVariants as spots

abbrev pub is_insert : List ℕ → Bool
is_insert word = bytes_eq word (codes "insert")

abbrev pub is_function : List ℕ → Bool
is_function word = bytes_eq word (codes "function")

abbrev pub is_end : List ℕ → Bool
is_end word = bytes_eq word (codes "end")

-- the first word is one of these
abbrev pub is_own : List (List ℕ) → Bool
is_own [] = false
is_own (word ∷ words) = is_insert word || is_function word || is_end word

-- the same label
abbrev pub asm_name : LabelName → AsmName
asm_name l = record { name = l.name; ordinal = l.ordinal }

abbrev pub label_name : AsmName → LabelName
label_name l = record { name = l.name; ordinal = l.ordinal }

-- a word that isn't an identifier as a label
abbrev pub IsSpotLabel : List ℕ → Option (List ℕ) → Spot → Type 0
IsSpotLabel word (Some id) spot = spot ≡ spots.Block id
IsSpotLabel word None spot = (label : AsmName) × IsLabel word label × (spot ≡ spots.Symbol (label_name label))

-- where an insert goes: a block's identifier, or a label
abbrev pub IsSpot : List ℕ → Spot → Type 0
IsSpot word spot = IsSpotLabel word (identifier_of word) spot

-- the offset that a word spells; a number word that spells none would do with another number
abbrev pub NumberSays : List ℕ → Spot → PatchLine → Type 0
NumberSays number spot l =
    ((offset : ℕ) × IsNumber number offset × (l ≡ lines.Insert spot offset))
    ⊎ ((((offset : ℕ) → IsNumber number offset → ⊥) × IsNumberWord number × (l ≡ lines.UnfitInsert))
    ⊎ ((IsNumberWord number → ⊥) × ((offset : ℕ) → IsNumber number offset → ⊥) × (l ≡ lines.Other)))

-- what an insert with this place and this offset says
abbrev pub InsertSays : List ℕ → List ℕ → PatchLine → Type 0
InsertSays place number l =
    ((spot : Spot) × IsSpot place spot × NumberSays number spot l) ⊎ (((spot : Spot) → IsSpot place spot → ⊥) × (l ≡ lines.Other))

-- names of functions and labels have no ordinal
abbrev pub bare_line : (List ℕ → PatchLine) → List ℕ → Option ℕ → PatchLine
bare_line line name None = line name
bare_line line name (Some k) = lines.Other

abbrev pub function_line : AsmName → PatchLine
function_line label = bare_line (λ name. lines.Function name) label.name label.ordinal

-- what a function with this name says
abbrev pub FunctionSays : List ℕ → PatchLine → Type 0
FunctionSays word l = ((label : AsmName) × IsLabel word label × (l ≡ function_line label)) ⊎ (((label : AsmName) → IsLabel word label → ⊥) × (l ≡ lines.Other))

-- what these words say: `insert PLACE NUMBER`, `function NAME` or `end`
abbrev pub OwnSays : List (List ℕ) → PatchLine → Type 0
OwnSays [] l = l ≡ lines.Other
OwnSays (first ∷ []) l = MatchBool (is_end first) (l ≡ lines.End) (l ≡ lines.Other)
OwnSays (first ∷ second ∷ []) l = MatchBool (is_function first) (FunctionSays second l) (l ≡ lines.Other)
OwnSays (first ∷ second ∷ third ∷ []) l = MatchBool (is_insert first) (InsertSays second third l) (l ≡ lines.Other)
OwnSays (first ∷ second ∷ third ∷ fourth ∷ rest) l = l ≡ lines.Other
