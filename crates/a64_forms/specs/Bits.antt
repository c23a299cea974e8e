-- The bits of a word that a number or a register gives.
use Rattle.std.specs.Prelude.{ℕ, ◌≡◌, ◌*◌, ◌/◌, ◌%◌, ◌^◌, ◌<◌, ℤ, pos, Bool, ◌==◌, ◌&&◌, ◌||◌, not, nat_lt, unsigned_abs, bit_or, if◌then◌else◌, Option, Some, None}
use Rattle.std.specs.Int.{int_div_euclid, int_rem_euclid}
use Rattle.a64_inst.specs.declared.kind.Operand.{Operand}
use Rattle.a64_inst.specs.Fitting.{is_aligned, is_in_range}
use Rattle.a64_inst.specs.Numbers.{bit_mask, bits_of, element_size}
use Rattle.a64_inst.specs.Meaning.{width_of}
use Rattle.a64_inst.specs.Parts.{bits_at}
use Rattle.a64_inst.specs.Reserved.{is_no_mask}
use Rattle.a64_forms.specs.declared.form.Apart.{Apart}
use Rattle.a64_forms.specs.declared.form.Apart.TheVariants.{Always, UnlessSp}

-- a number whose bits end at this place of a word
abbrev pub placed : ℕ → ℕ → ℕ
placed place n = n * 2 ^ place % 2 ^ 32

-- how many units a value has, modulo those of a word
abbrev pub units : Operand → ℤ → ℕ
units o value = unsigned_abs (int_rem_euclid (int_div_euclid value (pos o.unit)) (pos (2 ^ 32)))

-- the operand's bits of a number of units
abbrev pub unit_bits : Operand → ℕ → ℕ
unit_bits o n = bit_or (placed o.low.place (n % 2 ^ o.low.width)) (placed o.high.place (n / 2 ^ o.low.width % 2 ^ o.high.width))

-- the operand's bits of a value, where the operand takes it
abbrev pub number_bits : Operand → ℤ → Option ℕ
number_bits o value =
    if o.unit == 0 then None
    else if is_in_range o value && is_aligned o value then Some (unit_bits o (units o value))
    else None

-- the three fields of a logical immediate as one number: N, immr and imms
abbrev pub n_of : ℕ → ℕ
n_of fields = fields / 4096

abbrev pub immr_of : ℕ → ℕ
immr_of fields = fields / 64 % 64

abbrev pub imms_of : ℕ → ℕ
imms_of fields = fields % 64

-- they spell a mask: they name one, with a rotation below the size of its element
abbrev pub spells_mask : ℕ → ℕ → Bool
spells_mask sf fields = not (is_no_mask sf (n_of fields) (imms_of fields)) && nat_lt (immr_of fields) (element_size (n_of fields) (imms_of fields))

-- the mask of the fields, where they spell one
abbrev pub mask_of : ℕ → ℕ → Option ℕ
mask_of sf fields = if spells_mask sf fields then Some (bit_mask (bits_of (width_of sf)) (n_of fields) (immr_of fields) (imms_of fields)) else None

-- the bits of a logical immediate, by the first fields that spell it
abbrev pub IsMask : ℕ → ℕ → ℕ → Type 0
IsMask sf value bits =
    (fields : ℕ) × (fields < 8192) × (mask_of sf fields ≡ Some value)
    × ((f : ℕ) → f < fields → mask_of sf f ≡ Some value → ⊥) × (bits ≡ placed 10 fields)

-- the register whose bits end at this place
abbrev pub register_at : ℕ → ℕ → ℕ
register_at place word = bits_at place 5 word

-- two registers of the word differ where they have to
abbrev pub are_apart : ℕ → Apart → Bool
are_apart word (Always a b) = not (register_at a word == register_at b word)
are_apart word (UnlessSp a b) = not (register_at a word == register_at b word) || (register_at a word == 31)
