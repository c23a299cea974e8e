-- Which lines of patch text may stand where.
use Rattle.std.specs.Prelude.{Bool, true, false, not, if◌then◌else◌, Option, Some, None, List, [], ◌∷◌}
use Rattle.asm_read.specs.declared.fault.TextReason.{TextReason}
use Rattle.asm_read.specs.declared.fault.TextReason.TheVariants as reasons
use Rattle.patch_lines.specs.declared.line.PatchLine.{PatchLine}
use Rattle.patch_lines.specs.declared.line.PatchLine.TheVariants as lines
use Rattle.patch_lines.specs.declared.place.Place.{Place}
use Rattle.patch_lines.specs.declared.place.Place.TheVariants as places

abbrev pub is_outside : Place → Bool
is_outside places.Outside = true
is_outside _ = false

abbrev pub in_function : Place → Bool
in_function places.EmptyFunction = true
in_function places.Function = true
in_function _ = false

-- in an insert or a function, behind an instruction of it
abbrev pub has_words : Place → Bool
has_words places.Insert = true
has_words places.Function = true
has_words _ = false

-- an insert and a function begin outside and end behind an instruction; instructions stand in both, labels in functions
abbrev pub has_place : Place → PatchLine → Bool
has_place p lines.Blank = true
has_place p (lines.Insert spot offset) = is_outside p
has_place p (lines.Function name) = is_outside p
has_place p (lines.Label name) = in_function p
has_place p (lines.Word word sum) = not (is_outside p)
has_place p lines.End = has_words p
has_place p lines.UnfitInsert = is_outside p
has_place p lines.UnfitWord = not (is_outside p)
has_place p lines.Other = false

-- the same place behind an instruction
abbrev pub filled : Place → Place
filled places.Outside = places.Outside
filled places.EmptyInsert = places.Insert
filled places.Insert = places.Insert
filled places.EmptyFunction = places.Function
filled places.Function = places.Function

-- where the line behind it stands
abbrev pub after : Place → PatchLine → Place
after p lines.Blank = p
after p (lines.Insert spot offset) = places.EmptyInsert
after p (lines.Function name) = places.EmptyFunction
after p (lines.Label name) = p
after p (lines.Word word sum) = filled p
after p lines.End = places.Outside
after p lines.UnfitInsert = p
after p lines.UnfitWord = p
after p lines.Other = p

-- where the line behind these stands
abbrev pub place_behind : Place → List PatchLine → Place
place_behind p [] = p
place_behind p (l ∷ ls) = place_behind (after p l) ls

-- its numbers keep it from saying something
abbrev pub is_unfit : PatchLine → Bool
is_unfit lines.UnfitInsert = true
is_unfit lines.UnfitWord = true
is_unfit _ = false

-- what is wrong with a line there, looking at its form alone: a line without a place is Syntax, whatever its numbers
abbrev pub text_reason : Place → PatchLine → Option TextReason
text_reason p l = if not (has_place p l) then Some reasons.Syntax else (if is_unfit l then Some reasons.Number else None)
