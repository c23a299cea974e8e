-- What a GTIRB file means, and what is wrong with one that means nothing.
use Rattle.std.specs.Prelude.{◌≡◌, ℕ, ◌+◌, ◌==◌, nat_lt, if◌then◌else◌, List, [], ◌∷◌, ◌++◌, length, drop, slice_index, Option, Some, None, codes}
use Rattle.std.specs.Option.{option_map}
use Rattle.gt_model.specs.declared.ir.Ir.{Ir}
use Rattle.gt_model.specs.Schema.{ir_rows}
use Rattle.gt_model.specs.Values.{Fields}
use Rattle.gt_model.specs.Views.{ir_value}
use Rattle.gt_read.specs.declared.fault.FormatFault.{FormatFault}
use Rattle.gt_read.specs.declared.fault.FormatFault.TheVariants.{Prefix, Version, UuidLength}
use Rattle.gt_read.specs.declared.ids.IdFault.{IdFault}
use Rattle.gt_read.specs.Pieces.{pieces}
use Rattle.gt_read.specs.Kinds.{Read}
use Rattle.gt_read.specs.Meaning.{meaning}
use Rattle.gt_read.specs.Faults.{faults, first_of}
use Rattle.gt_read.specs.Identifiers.{bad, least, plain}

-- the five letters; behind them stand two bytes of any value, the version byte and the body
abbrev pub letters : List ℕ
letters = codes "GTIRB"

-- the place of the body's first byte
abbrev pub body_at : ℕ
body_at = 8

abbrev pub body_of : List ℕ → List ℕ
body_of bytes = drop body_at bytes

abbrev pub version_byte : List ℕ → ℕ
version_byte bytes = slice_index bytes 7

-- a body's meaning, with the places of its identifiers
unfoldable pub body_meaning : List ℕ → Fields Read ir_rows
body_meaning body = meaning ir_rows 0 (pieces body body_at)

-- the place of the first byte that differs from these or is missing
abbrev pub differs_at : List ℕ → List ℕ → ℕ → Option ℕ
differs_at [] bytes at = None
differs_at (c ∷ cs) [] at = Some at
differs_at (c ∷ cs) (b ∷ bs) at = if b == c then differs_at cs bs (at + 1) else Some at

abbrev pub or_else : {A : Type 0} → Option A → Option A → Option A
or_else (Some a) b = Some a
or_else None b = b

-- the first wrong or missing byte of the prefix
unfoldable pub prefix_fault : List ℕ → Option FormatFault
prefix_fault bytes =
    option_map Prefix (or_else (differs_at letters bytes 0) (if nat_lt (length bytes) body_at then Some (length bytes) else None))

-- the version byte and the field of the version differ
unfoldable pub version_fault : ℕ → ℕ → Option FormatFault
version_fault byte version = if byte == version then None else Some (Version byte version)

-- the identifier of the least place among those that haven't their length
unfoldable pub id_fault : Fields Read ir_rows → Option FormatFault
id_fault value = option_map (λ (f : IdFault). UuidLength f.place f.len) (least (bad ir_rows value))

-- the field of the version
unfoldable pub version_of : Fields Read ir_rows → ℕ
unfolding ir_rows
version_of value = value.1.1.1.0

-- the first fault of a body behind the version byte, but for its identifiers: a record, a packed run or a text,
-- the one of the least place; and then the version
abbrev pub body_fault : ℕ → List ℕ → Option FormatFault
body_fault byte body = or_else (first_of (faults ir_rows body body_at)) (version_fault byte (version_of (body_meaning body)))

-- the first fault in the order of precedence: the prefix, the body, the identifiers
unfoldable pub format_fault : List ℕ → Option FormatFault
format_fault bytes =
    or_else (prefix_fault bytes) (
    or_else (body_fault (version_byte bytes) (body_of bytes)) (
    id_fault (body_meaning (body_of bytes))))

-- the bytes are a file that means the IR
pub record file (bytes : List ℕ) (ir : Ir) : Type 0 where
  pub reserved : ℕ × ℕ
  pub version : ℕ
  pub body : List ℕ
  pub whole : bytes ≡ letters ++ reserved.0 ∷ reserved.1 ∷ version ∷ body
  -- every payload has records, every packed run is a list of varints, every text is UTF-8
  pub sound : faults ir_rows body body_at ≡ []
  -- each identifier has its length
  pub ids : bad ir_rows (body_meaning body) ≡ []
  -- the body means the IR
  pub value : plain ir_rows (body_meaning body) ≡ ir_value ir
  pub same_version : version ≡ ir.version
