-- Where lines of assembly text stand, and which may stand there.
use Rattle.std.specs.Prelude.{ℕ, ◌+◌, ◌%◌, ◌==◌, ◌&&◌, nat_le, Bool, true, false, not, List, length, fold}
use Rattle.asm_lines.specs.declared.line.AsmItem.{AsmItem}
use Rattle.asm_lines.specs.declared.line.AsmItem.TheVariants as items
use Rattle.asm_lines.specs.declared.line.AsmLine.{AsmLine}
use Rattle.asm_lines.specs.declared.line.AsmLine.TheVariants as lines
use Rattle.asm_modules.specs.declared.place.Place.{Place}
use Rattle.asm_modules.specs.declared.place.Place.TheVariants.{Ahead, Section, Inside}

-- how many bytes an item takes
abbrev pub item_size : AsmItem → ℕ
item_size (items.Bytes bytes) = length bytes
item_size (items.Zero count) = count
item_size (items.Quad e) = 8
item_size (items.QuadDiff first second offset) = 8
item_size (items.WordDiff first second offset) = 4
item_size (items.Entry size scale first second) = size
item_size (items.Word word target) = 4

-- the same place behind an item
abbrev pub behind_item : Place → ℕ → Place
behind_item (Inside uuid align offset) size = Inside uuid align (offset + size)
behind_item place size = place

-- where the line behind it stands
abbrev pub after : Place → AsmLine → Place
after place (lines.Section name) = Section
after place (lines.Interval uuid align residue) = Inside uuid align 0
after place (lines.Item item) = behind_item place (item_size item)
after place _ = place

-- how many bytes of its interval stand ahead of a place
abbrev pub bytes_ahead : Place → ℕ
bytes_ahead (Inside uuid align offset) = offset
bytes_ahead place = 0

-- where the line behind these stands
abbrev pub place_at : List AsmLine → Place
place_at before = fold after Ahead before

abbrev pub is_ahead : Place → Bool
is_ahead Ahead = true
is_ahead _ = false

abbrev pub is_inside : Place → Bool
is_inside (Inside uuid align offset) = true
is_inside _ = false

-- the offset and the alignment of the interval are multiples of 4
abbrev pub can_enter : Place → Bool
can_enter (Inside uuid align offset) = nat_le 4 align && (offset % 4 == 0)
can_enter _ = false

-- whether the line may stand there: labels, items and the entry in an interval, intervals in a section, `.set` ahead of all
abbrev pub may_stand : Place → AsmLine → Bool
may_stand place lines.Blank = true
may_stand place (lines.Section name) = true
may_stand place (lines.Set name value) = is_ahead place
may_stand place (lines.Interval uuid align residue) = not (is_ahead place)
may_stand place (lines.Label name) = is_inside place
may_stand place (lines.Item item) = is_inside place
may_stand place lines.Entry = can_enter place
