-- The first line of assembly text at fault.
use Rattle.std.specs.Prelude.{ℕ, ◌+◌, ◌==◌, ◌&&◌, ◌||◌, Bool, true, false, not, if◌then◌else◌, Option, Some, None, Result, Ok, Err, List, [], ◌∷◌, ◌++◌, length}
use Rattle.std.specs.List.{flat_map, list_all, list_any}
use Rattle.std.specs.Option.{option_map, option_or, unwrap_or}
use Rattle.std.specs.Str.{bytes_eq}
use Rattle.asm_read.specs.declared.fault.TextFault.{TextFault}
use Rattle.asm_read.specs.declared.fault.TextReason.{TextReason}
use Rattle.asm_read.specs.declared.fault.TextReason.TheVariants as reasons
use Rattle.asm_lines.specs.declared.line.AsmExpr.{AsmExpr}
use Rattle.asm_lines.specs.declared.line.AsmItem.{AsmItem}
use Rattle.asm_lines.specs.declared.line.AsmItem.TheVariants as items
use Rattle.asm_lines.specs.declared.line.AsmLine.{AsmLine}
use Rattle.asm_lines.specs.declared.line.AsmLine.TheVariants as lines
use Rattle.asm_lines.specs.declared.line.AsmName.{AsmName}
use Rattle.asm_modules.specs.declared.place.Place.{Place}
use Rattle.asm_modules.specs.Places.{may_stand, place_at}

-- ---- labels

-- a label without an ordinal is the first of its name
abbrev pub ordinal_of : AsmName → ℕ
ordinal_of name = unwrap_or name.ordinal 1

abbrev pub same_label : AsmName → AsmName → Bool
same_label a b = bytes_eq a.name b.name && (ordinal_of a == ordinal_of b)

-- the label that a line brings
abbrev pub line_labels : AsmLine → List AsmName
line_labels (lines.Set name value) = name ∷ []
line_labels (lines.Label name) = name ∷ []
line_labels _ = []

abbrev pub is_label_in : List AsmLine → AsmName → Bool
is_label_in ls name = list_any (same_label name) (flat_map line_labels ls)

-- the labels that an item names
abbrev pub item_names : AsmItem → List AsmName
item_names (items.Bytes bytes) = []
item_names (items.Zero count) = []
item_names (items.Quad e) = e.label ∷ []
item_names (items.QuadDiff first second offset) = first ∷ second ∷ []
item_names (items.WordDiff first second offset) = first ∷ second ∷ []
item_names (items.Entry size scale first second) = first ∷ second ∷ []
item_names (items.Word word None) = []
item_names (items.Word word (Some e)) = e.label ∷ []

abbrev pub line_names : AsmLine → List AsmName
line_names (lines.Item item) = item_names item
line_names _ = []

-- ---- what stands once

abbrev pub line_ids : AsmLine → List (List ℕ)
line_ids (lines.Interval uuid align residue) = uuid ∷ []
line_ids _ = []

abbrev pub is_id_in : List AsmLine → List ℕ → Bool
is_id_in ls id = list_any (bytes_eq id) (flat_map line_ids ls)

abbrev pub is_entry : AsmLine → Bool
is_entry lines.Entry = true
is_entry _ = false

-- an interval or the entry for the second time, where these intervals stand before, and the entry or not
abbrev pub is_second : (List ℕ → Bool) → Bool → AsmLine → Bool
is_second is_id entered (lines.Interval uuid align residue) = is_id uuid
is_second is_id entered lines.Entry = entered
is_second is_id entered _ = false

-- ---- the first pass

-- what is wrong with a line that says something, where these intervals and labels stand before it, and the entry or not
abbrev pub line_fault : Place → (List ℕ → Bool) → Bool → (AsmName → Bool) → AsmLine → Option TextReason
line_fault place is_id entered is_label l =
    if not (may_stand place l) || is_second is_id entered l then Some reasons.Directive
    else if list_any is_label (line_labels l) then Some reasons.LabelTwice
    else None

-- what is wrong with the line behind these
abbrev pub next_fault : List AsmLine → AsmLine → Option TextReason
next_fault before l = line_fault (place_at before) (is_id_in before) (list_any is_entry before) (is_label_in before) l

-- a fault of the line behind these
abbrev pub fault_behind : List AsmLine → TextReason → TextFault
fault_behind before reason = record { line = length before + 1; reason = reason }

-- the first line at fault behind these, of lines that say something or nothing
abbrev pub first_pass : List AsmLine → List (Result AsmLine TextReason) → Option TextFault
first_pass before [] = None
first_pass before (Err reason ∷ rest) = Some (fault_behind before reason)
first_pass before (Ok l ∷ rest) = option_or (option_map (fault_behind before) (next_fault before l)) (first_pass (before ++ l ∷ []) rest)

-- ---- the second pass

-- the first line behind these that names a label that is nowhere
abbrev pub second_pass : (AsmName → Bool) → List AsmLine → List AsmLine → Option TextFault
second_pass is_known before [] = None
second_pass is_known before (l ∷ ls) =
    if list_all is_known (line_names l) then second_pass is_known (before ++ l ∷ []) ls else Some (fault_behind before reasons.LabelUnknown)
