-- The module that lines of assembly text give.
use Rattle.std.specs.Prelude.{ℕ, Option, Some, None, List, [], ◌∷◌, ◌++◌}
use Rattle.std.specs.Option.{option_or}
use Rattle.asm_lines.specs.declared.line.AsmItem.{AsmItem}
use Rattle.asm_lines.specs.declared.line.AsmLine.{AsmLine}
use Rattle.asm_lines.specs.declared.line.AsmLine.TheVariants as lines
use Rattle.asm_lines.specs.declared.line.AsmName.{AsmName}
use Rattle.asm_modules.specs.declared.module.AsmAt.{AsmAt}
use Rattle.asm_modules.specs.declared.module.AsmAt.TheVariants as ats
use Rattle.asm_modules.specs.declared.module.AsmInterval.{AsmInterval}
use Rattle.asm_modules.specs.declared.module.AsmLabel.{AsmLabel}
use Rattle.asm_modules.specs.declared.place.Place.{Place}
use Rattle.asm_modules.specs.declared.place.Place.TheVariants as places
use Rattle.asm_modules.specs.Faults.{ordinal_of}
use Rattle.asm_modules.specs.Places.{after}

-- the items up to the next interval
abbrev pub items_ahead : List AsmLine → List AsmItem
items_ahead [] = []
items_ahead (lines.Item item ∷ ls) = item ∷ items_ahead ls
items_ahead (lines.Interval uuid align residue ∷ ls) = []
items_ahead (l ∷ ls) = items_ahead ls

-- the interval that a line begins, with the lines behind it
abbrev pub intervals_at : AsmLine → List AsmLine → List AsmInterval
intervals_at (lines.Interval uuid align residue) ls = record { uuid = uuid; align = align; residue = residue; items = items_ahead ls } ∷ []
intervals_at _ ls = []

-- the intervals, in order
abbrev pub intervals_in : List AsmLine → List AsmInterval
intervals_in [] = []
intervals_in (l ∷ ls) = intervals_at l ls ++ intervals_in ls

abbrev pub label_of : AsmName → AsmAt → AsmLabel
label_of name at = record { name = name.name; ordinal = ordinal_of name; at = at }

-- the label that a line brings at a place
abbrev pub labels_at : Place → AsmLine → List AsmLabel
labels_at place (lines.Set name value) = label_of name (ats.Absolute value) ∷ []
labels_at (places.Inside uuid align offset) (lines.Label name) = label_of name (ats.Inside uuid offset) ∷ []
labels_at _ _ = []

-- the labels, in order, of lines that begin at a place
abbrev pub labels_behind : Place → List AsmLine → List AsmLabel
labels_behind place [] = []
labels_behind place (l ∷ ls) = labels_at place l ++ labels_behind (after place l) ls

abbrev pub entry_at : Place → AsmLine → Option AsmAt
entry_at (places.Inside uuid align offset) lines.Entry = Some (ats.Inside uuid offset)
entry_at _ _ = None

-- the entry, if there is one, of lines that begin at a place
abbrev pub entry_behind : Place → List AsmLine → Option AsmAt
entry_behind place [] = None
entry_behind place (l ∷ ls) = option_or (entry_at place l) (entry_behind (after place l) ls)
