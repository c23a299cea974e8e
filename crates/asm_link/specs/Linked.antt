-- The image of a module of assembly under a layout, and why there is none.
use Rattle.std.specs.Prelude.{ℕ, ◌+◌, ◌^◌, ◌==◌, not, nat_lt, Bool, if◌then◌else◌, List, [], ◌∷◌, ◌++◌, map, filter, replicate, sum_by, Option}
use Rattle.std.specs.List.{flat_map, filter_map}
use Rattle.asm_lines.specs.declared.line.AsmItem.{AsmItem}
use Rattle.asm_lines.specs.declared.line.AsmItem.TheVariants as items
use Rattle.asm_modules.specs.declared.module.AsmInterval.{AsmInterval}
use Rattle.asm_modules.specs.declared.module.AsmLabel.{AsmLabel}
use Rattle.asm_modules.specs.declared.module.AsmModule.{AsmModule}
use Rattle.asm_modules.specs.Places.{item_size}
use Rattle.asm_modules.specs.Valid.{interval_size}
use Rattle.bare_image.specs.declared.image.Image.{Image}
use Rattle.bare_image.specs.declared.image.Segment.{Segment}
use Rattle.sym_expr.specs.declared.layout.Layout.{Layout}
use Rattle.sym_expr.specs.declared.link_fault.LinkFault.{LinkFault}
use Rattle.sym_expr.specs.declared.link_fault.LinkFault.TheVariants.{TooBig}
use Rattle.sym_expr.specs.Images.{by_address, bytes_of, first_fault, fit_or, misfit}
use Rattle.sym_expr.specs.Layouts.{address_of}
use Rattle.asm_link.specs.Values.{at_value, item_value}

-- items with the offset of each, from an offset on
abbrev pub items_at : ℕ → List AsmItem → List (ℕ × AsmItem)
items_at offset [] = []
items_at offset (item ∷ rest) = (offset, item) ∷ items_at (offset + item_size item) rest

-- the bytes of an item whose number is known
abbrev pub bytes_with : AsmItem → ℕ → List ℕ
bytes_with (items.Bytes bytes) value = bytes
bytes_with (items.Zero count) value = replicate count 0
bytes_with item value = bytes_of (item_size item) value

-- the bytes of an item at an address
abbrev pub item_bytes : Layout → List AsmLabel → ℕ → AsmItem → List ℕ
item_bytes l labels at item = bytes_with item (fit_or 0 (item_value l labels at item))

-- the bytes of items from an address on
abbrev pub items_bytes : Layout → List AsmLabel → ℕ → List AsmItem → List ℕ
items_bytes l labels at items = flat_map (λ (x : ℕ × AsmItem). item_bytes l labels x.0 x.1) (items_at at items)

-- an interval where the layout puts it
abbrev pub segment_of : Layout → List AsmLabel → AsmInterval → Segment
segment_of l labels i = record { at = address_of l i.uuid; bytes = items_bytes l labels (address_of l i.uuid) i.items }

-- the interval has a byte
abbrev pub is_some_bytes : AsmInterval → Bool
is_some_bytes i = not (interval_size i == 0)

-- the image of a module under a layout
abbrev pub asm_image : AsmModule → Layout → Image
asm_image m l = record {
  entry = at_value l m.entry;
  stack_at = l.stack_at;
  stack_size = l.stack_size;
  segments = by_address (map (segment_of l m.labels) (filter is_some_bytes m.intervals));
}

-- what doesn't fit of an item at an offset of an interval
abbrev pub item_fault : Layout → List AsmLabel → List ℕ → (ℕ × AsmItem) → Option LinkFault
item_fault l labels uuid x = misfit uuid x.0 (item_value l labels (address_of l uuid + x.0) x.1)

-- the faults of an interval, in order
abbrev pub interval_faults : Layout → List AsmLabel → AsmInterval → List LinkFault
interval_faults l labels i = filter_map (item_fault l labels i.uuid) (items_at 0 i.items)

-- intervals and stack have more bytes than an image may have
abbrev pub size_faults : Layout → AsmModule → List LinkFault
size_faults l m =
    let sum = sum_by interval_size m.intervals + l.stack_size in
    if nat_lt (2 ^ 24) sum then TooBig sum ∷ [] else []

-- the first fault: of the size, then of the items in order
abbrev pub asm_link_fault : AsmModule → Layout → Option LinkFault
asm_link_fault m l = first_fault (size_faults l m ++ flat_map (interval_faults l m.labels) m.intervals)
