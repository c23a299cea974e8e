-- What is kept of the lines that were read.
use Rattle.std.specs.Prelude.{◌≡◌, ℕ, Bool, false, nat_eq, Option, String, Some, Result, Ok, Err, List, [], ◌∷◌, ◌++◌}
use Rattle.std.specs.HashMap.{HashMap, get, get_by_text}
use Rattle.std.specs.List.{list_any}
use Rattle.std.specs.Option.{is_some, option_map_or}
use Rattle.std.specs.Str.{bytes_eq}
use Rattle.gr_base.specs.declared.end.End.{End}
use Rattle.gr_base.specs.declared.end.End.TheVariants as ends
use Rattle.asm_read.specs.declared.fault.TextFault.{TextFault}
use Rattle.asm_read.specs.declared.fault.TextReason.{TextReason}
use Rattle.asm_lines.specs.declared.line.AsmItem.{AsmItem}
use Rattle.asm_lines.specs.declared.line.AsmLine.{AsmLine}
use Rattle.asm_lines.specs.declared.line.AsmLine.TheVariants as lines
use Rattle.asm_lines.specs.declared.line.AsmName.{AsmName}
use Rattle.asm_modules.specs.declared.module.AsmInterval.{AsmInterval}
use Rattle.asm_modules.specs.declared.place.Place.TheVariants as places
use Rattle.asm_modules.specs.Faults.{is_entry, is_id_in, is_label_in, next_fault, ordinal_of}
use Rattle.asm_modules.specs.Modules.{entry_behind}
use Rattle.asm_modules.specs.Places.{place_at}
use Rattle.asm_build.specs.declared.seen.Seen.{Seen}

-- an identifier is kept
abbrev pub has_id : {X S : Type 0} → HashMap (List ℕ) X S → List ℕ → Bool
has_id ids id = is_some (get bytes_eq ids id)

-- an ordinal of a name is kept
abbrev pub has_ordinal : {X Y S T : Type 0} → HashMap (String Y) (HashMap ℕ X S) T → List ℕ → ℕ → Bool
has_ordinal labels name k = option_map_or (λ ordinals. is_some (get nat_eq ordinals k)) (get_by_text labels name) false

-- a label is kept
abbrev pub has_label : {X Y S T : Type 0} → HashMap (String Y) (HashMap ℕ X S) T → AsmName → Bool
has_label labels name = has_ordinal labels name.name (ordinal_of name)

-- what was seen of these lines
pub record Sees (seen : Seen) (before : List AsmLine) : Type 0 where
  pub place : seen.place ≡ place_at before
  pub ids : (id : List ℕ) → has_id seen.ids id ≡ is_id_in before id
  pub entered : is_some seen.entry ≡ list_any is_entry before
  pub entry : seen.entry ≡ entry_behind places.Ahead before
  pub labels : (name : AsmName) → has_label seen.labels name ≡ is_label_in before name

-- what is wrong with the line behind these, which says something or nothing
abbrev pub given_fault : List AsmLine → Result AsmLine TextReason → Option TextReason
given_fault before (Ok l) = next_fault before l
given_fault before (Err reason) = Some reason

-- an end of a line, as one of a text
abbrev pub end_at : ℕ → End TextReason → End TextFault
end_at line ends.Memory = ends.Memory
end_at line (ends.Fault reason) = ends.Fault (record { line = line; reason = reason })

-- the intervals, with more items in the last
abbrev pub with_items : List AsmInterval → List AsmItem → List AsmInterval
with_items [] more = []
with_items (i ∷ []) more = record { uuid = i.uuid; align = i.align; residue = i.residue; items = i.items ++ more } ∷ []
with_items (i ∷ j ∷ intervals) more = i ∷ with_items (j ∷ intervals) more

-- with one item more in the last
abbrev pub with_item : List AsmInterval → AsmItem → List AsmInterval
with_item intervals item = with_items intervals (item ∷ [])

-- with the interval that a line begins, or the item that it is
abbrev pub with_line : List AsmInterval → AsmLine → List AsmInterval
with_line intervals (lines.Interval uuid align residue) = intervals ++ record { uuid = uuid; align = align; residue = residue; items = [] } ∷ []
with_line intervals (lines.Item item) = with_item intervals item
with_line intervals _ = intervals
