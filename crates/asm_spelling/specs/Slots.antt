-- What a slot of a form is for a word: a text, and the bits that this text gives when it is read.
use Rattle.std.specs.Prelude.{ℕ, ◌*◌, ◌==◌, ℤ, pos, ◌+ℤ◌, ◌-ℤ◌, false, nat_eq, if◌then◌else◌, List, [], ◌∷◌, ◌++◌, codes, find, bit_or, bit_xor, Option, Some, None}
use Rattle.std.specs.Fmt.{digits, signed_decimal}
use Rattle.std.specs.Int.{int_rem_euclid}
use Rattle.std.specs.List.{range_with_len}
use Rattle.std.specs.Option.{option_and_then, option_eq, option_map}
use Rattle.std.specs.Ordering.{int_eq}
use Rattle.a64_inst.specs.declared.kind.Bits.{Bits}
use Rattle.a64_inst.specs.declared.kind.Operand.{Operand}
use Rattle.a64_inst.specs.Kinds.{operand}
use Rattle.a64_inst.specs.Parts.{bits_at}
use Rattle.a64_forms.specs.declared.form.Aim.{Aim}
use Rattle.a64_forms.specs.declared.form.Aim.TheVariants as aims
use Rattle.a64_forms.specs.declared.form.Names.{Names}
use Rattle.a64_forms.specs.declared.form.Names.TheVariants as lists
use Rattle.a64_forms.specs.declared.form.Slot.{Slot}
use Rattle.a64_forms.specs.declared.form.Slot.TheVariants as slots
use Rattle.a64_forms.specs.Bits.{mask_of, number_bits, placed}
use Rattle.a64_forms.specs.Names.{Name, names_of}
use Rattle.asm_spelling.specs.declared.written.Written.{Written}
use Rattle.asm_spelling.specs.declared.named.Named.{Named}
use Rattle.asm_spelling.specs.declared.named.Named.TheVariants.{Nothing, Label}
use Rattle.asm_spelling.specs.Labels.{offset_text}

-- a text that gives these bits
abbrev pub written : List ℕ → ℕ → Written
written text bits = record { text = text; bits = bits }

-- how many bits tell the names of a list apart
abbrev pub name_width : Names → ℕ
name_width lists.X = 5
name_width lists.XOrSp = 5
name_width lists.W = 5
name_width lists.WOrSp = 5
name_width lists.Condition = 4
name_width lists.Shift = 2
name_width lists.ShiftOrTurn = 2
name_width lists.Left = 0
name_width lists.ExtendW = 3
name_width lists.ExtendX = 3
name_width lists.Extend = 3
name_width lists.OffsetW = 3
name_width lists.OffsetX = 3

-- the first name of these bits
abbrev pub name_of : List Name → ℕ → Option Name
name_of names bits = find (λ (n : Name). n.bits == bits) names

abbrev pub written_name : ℕ → Names → ℕ → Option Written
written_name word list place = option_map (λ (n : Name). written n.text (placed place n.bits)) (name_of (names_of list) (bits_at place (name_width list) word))

-- the number of units that the operand has in a word
abbrev pub units_in : Operand → ℕ → ℕ
units_in o word = bit_or (bits_at o.low.place o.low.width word) (placed o.low.width (bits_at o.high.place o.high.width word))

-- the value of so many units in a range, from its least one on and modulo its length
abbrev pub value_in : Operand → ℕ → ℤ
value_in o units = o.least +ℤ int_rem_euclid (pos (units * o.unit) -ℤ o.least) (o.most -ℤ o.least +ℤ pos o.unit)

abbrev pub written_number : ℕ → Operand → Option Written
written_number word o = option_map (written (codes "#" ++ signed_decimal (value_in o (units_in o word)))) (number_bits o (value_in o (units_in o word)))

-- how many values the fields of a logical immediate have
unfoldable pub field_values : ℕ
field_values = 8192

-- the first fields that spell a logical immediate
abbrev pub fields_of : ℕ → ℕ → Option ℕ
fields_of sf value = find (λ f. option_eq nat_eq (mask_of sf f) (Some value)) (range_with_len 0 field_values)

-- their bits
abbrev pub value_bits : ℕ → ℕ → Option ℕ
value_bits sf value = option_map (placed 10) (fields_of sf value)

abbrev pub written_value : ℕ → ℕ → Option Written
written_value sf value = option_map (written (codes "#0x" ++ digits 16 false value)) (value_bits sf value)

abbrev pub written_mask : ℕ → ℕ → Option Written
written_mask word sf = option_and_then (written_value sf) (mask_of sf (bits_at 10 13 word))

-- what stands for what the operand names: a label has no offset
abbrev pub aim_text : Aim → Named → Option (List ℕ)
aim_text aim Nothing = None
aim_text aims.Label (Label text offset) = if int_eq offset (pos 0) then Some text else None
aim_text aims.Expression (Label text offset) = Some (text ++ offset_text offset)

abbrev pub written_slot : ℕ → Named → Slot → Option Written
written_slot word named (slots.Name list place) = written_name word list place
written_slot word named (slots.Number o) = written_number word o
written_slot word named (slots.Distance kind) = written_number word (operand kind)
written_slot word named (slots.Mask sf) = written_mask word sf
written_slot word named (slots.Aim aim) = option_map (λ text. written text 0) (aim_text aim named)

-- the word with 0 in so many bits that end at a place
abbrev pub without : ℕ → ℕ → ℕ → ℕ
without place width word = bit_xor word (placed place (bits_at place width word))

abbrev pub without_operand : Operand → ℕ → ℕ
without_operand o word = without o.high.place o.high.width (without o.low.place o.low.width word)

-- the word with 0 in the bits that the slot has
abbrev pub without_slot : Slot → ℕ → ℕ
without_slot (slots.Name list place) word = without place (name_width list) word
without_slot (slots.Number o) word = without_operand o word
without_slot (slots.Distance kind) word = without_operand (operand kind) word
without_slot (slots.Mask sf) word = without 10 13 word
without_slot (slots.Aim aim) word = word
