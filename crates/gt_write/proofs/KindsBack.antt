-- A plain field that is written reads back.
use Rattle.std.proofs.Common.{◌≡◌, ℕ, ◌^◌, ◌<◌, ◌≤◌, true, false, cond, eqb, List, [], ◌∷◌, length, replicate, Some, None, refl, sym, ap, ◌∙◌, arith}
use Rattle.std.specs.Prelude.{ℤ, pos, negsuc, IfSome, IsUtf8, ◌||◌}
use Rattle.std.specs.Int.{w32, w64, cast_signed, cast_unsigned}
use Rattle.std.proofs.lemmas.Bool.{eq-eqb, eqb-true}
use Rattle.std.proofs.lemmas.Int.{to_z-of_z}
use Rattle.std.proofs.lemmas.List.{nil_from_length}
use Rattle.std.proofs.lemmas.Str.{is_utf8-from_IsUtf8}
use Rattle.gt_model.specs.Schema.{Kind, Id, OptionalId, Text, Blob, Unsigned64, Signed64, Unsigned32, Signed32, Flag, varint, run}
use Rattle.gt_model.specs.Values.{Plain}
use Rattle.gt_model.specs.Typed.{IsI64, IsI32}
use Rattle.gt_read.specs.declared.fault.FormatFault.TheVariants.{Utf8}
use Rattle.gt_read.specs.Pieces.{Carried, Number, Bytes}
use Rattle.gt_read.specs.Kinds.{Located, Read, low32, from_carried, absent, is_varint_kind}
use Rattle.gt_read.specs.Meaning.{wire_of}
use Rattle.gt_read.specs.Identifiers.{plain_of, plain_bad, fault_at}
use Rattle.gt_read.specs.Faults.{in_run, text_faults}
use Rattle.gt_write.specs.Spelling.{signed_varint, plain_record, is_default}
use Rattle.gt_write.specs.Lengths.{LengthFits, plain_length}
use Rattle.gt_write.proofs.ReadingLaws.{ReadingLaws}
use Rattle.gt_write.proofs.Walking.{Walks, varint_walks, run_start, run_walks}

-- the value is one of its kind
abbrev pub Fits : (k : Kind) → Plain k → Type 0
Fits Id id = length id ≡ 16
Fits OptionalId id = IfSome id (λ bytes. length bytes ≡ 16)
Fits Text text = IsUtf8 text
Fits Blob bytes = Unit {0}
Fits Unsigned64 n = n < 2 ^ 64
Fits Signed64 z = IsI64 z
Fits Unsigned32 n = n < 2 ^ 32
Fits Signed32 z = IsI32 z
Fits Flag b = Unit {0}

-- the wire type of a kind
abbrev pub wire_of_kind : Kind → ℕ
wire_of_kind k = cond (is_varint_kind k) varint run

-- a field number
pub record IsNumber (number : ℕ) : Type 0 where
  pub first : 1 ≤ number
  pub last : number < 2 ^ 29

-- ---- signed numbers

pub signed_fits : (z : ℤ) → IsI64 z → signed_varint z < 2 ^ 64
signed_fits (pos n) h = omega arith
signed_fits (negsuc n) h = omega arith

pub signed32_fits : (z : ℤ) → IsI32 z → IsI64 z
signed32_fits (pos n) h = omega arith
signed32_fits (negsuc n) h = omega arith

pub signed64_back : (z : ℤ) → IsI64 z → cast_signed w64 (signed_varint z) ≡ z
signed64_back (pos n) h = to_z-of_z w64 (pos n) (record { sfits = h })
signed64_back (negsuc n) h = to_z-of_z w64 (negsuc n) (record { sfits = h })

low_part : (z : ℤ) → IsI32 z → low32 (signed_varint z) ≡ cast_unsigned w32 z
low_part (pos n) h = omega arith
low_part (negsuc n) h = omega arith

signed32_again : (z : ℤ) → IsI32 z → cast_signed w32 (cast_unsigned w32 z) ≡ z
signed32_again (pos n) h = to_z-of_z w32 (pos n) (record { sfits = h })
signed32_again (negsuc n) h = to_z-of_z w32 (negsuc n) (record { sfits = h })

pub signed32_back : (z : ℤ) → IsI32 z → cast_signed w32 (low32 (signed_varint z)) ≡ z
signed32_back z h = ap (cast_signed w32) (low_part z h) ∙ signed32_again z h

-- ---- a record of a plain field

pub record PlainBack (k : Kind) (number : ℕ) (v : Plain k) (base : ℕ) : Type 0 where
  pub carried : Carried
  pub walks : Walks (plain_record number k v) base (record { place = base; number = number; carried = carried } ∷ [])
  pub read : Read k
  pub value : from_carried k base carried ≡ Some read
  pub plain : plain_of k read ≡ v
  pub bad : plain_bad k read ≡ []
  pub sound : in_run (λ place start bytes. text_faults k place bytes) base carried ≡ []
  pub wire : wire_of carried ≡ wire_of_kind k

module _ (laws : ReadingLaws) (number base : ℕ) (n : IsNumber number) where
  id_back : (id : List ℕ) → length id ≡ 16 → LengthFits id → PlainBack Id number id base
  id_back id len short =
      let is : eqb (length id) 16 ≡ true = eq-eqb _ _ len in
      let read : Located = record { place = base; bytes = id } in
      record {
        carried = Bytes (run_start base number id) id;
        walks = run_walks laws base number id n.first n.last short;
        read = read;
        value = refl;
        plain = ap (λ t. cond t id (replicate 16 0)) is;
        bad = ap (λ t. cond t [] (fault_at read)) is;
        sound = refl;
        wire = refl;
      }

  some_id_back : (id : List ℕ) → length id ≡ 16 → LengthFits id → PlainBack OptionalId number (Some id) base
  some_id_back id len short =
      let is : eqb (length id) 16 ≡ true = eq-eqb _ _ len in
      let read : Located = record { place = base; bytes = id } in
      record {
        carried = Bytes (run_start base number id) id;
        walks = run_walks laws base number id n.first n.last short;
        read = read;
        value = refl;
        plain = ap (λ t. cond t (Some id) None) is;
        bad = ap (λ t. cond (t || eqb (length id) 0) [] (fault_at read)) is;
        sound = refl;
        wire = refl;
      }

  pub plain_back : (k : Kind) (v : Plain k) → Fits k v → plain_length k v → PlainBack k number v base
  plain_back Id v fits short = id_back v fits short
  plain_back OptionalId None fits short = record {
    carried = Bytes (run_start base number []) [];
    walks = run_walks laws base number [] n.first n.last (omega arith);
    read = record { place = base; bytes = [] };
    value = refl;
    plain = refl;
    bad = refl;
    sound = refl;
    wire = refl;
  }
  plain_back OptionalId (Some id) fits short = some_id_back id fits short
  plain_back Text v fits short = record {
    carried = Bytes (run_start base number v) v;
    walks = run_walks laws base number v n.first n.last short;
    read = v;
    value = refl;
    plain = refl;
    bad = refl;
    sound = ap (λ t. cond t [] (Utf8 base ∷ [])) (is_utf8-from_IsUtf8 v fits);
    wire = refl;
  }
  plain_back Blob v fits short = record {
    carried = Bytes (run_start base number v) v;
    walks = run_walks laws base number v n.first n.last short;
    read = v;
    value = refl;
    plain = refl;
    bad = refl;
    sound = refl;
    wire = refl;
  }
  plain_back Unsigned64 v fits short = record {
    carried = Number v;
    walks = varint_walks laws base number v n.first n.last fits;
    read = v;
    value = refl;
    plain = refl;
    bad = refl;
    sound = refl;
    wire = refl;
  }
  plain_back Signed64 v fits short = record {
    carried = Number (signed_varint v);
    walks = varint_walks laws base number (signed_varint v) n.first n.last (signed_fits v fits);
    read = cast_signed w64 (signed_varint v);
    value = refl;
    plain = signed64_back v fits;
    bad = refl;
    sound = refl;
    wire = refl;
  }
  plain_back Unsigned32 v fits short = record {
    carried = Number v;
    walks = varint_walks laws base number v n.first n.last (omega (arith, fits));
    read = low32 v;
    value = refl;
    plain = omega (arith, fits);
    bad = refl;
    sound = refl;
    wire = refl;
  }
  plain_back Signed32 v fits short = record {
    carried = Number (signed_varint v);
    walks = varint_walks laws base number (signed_varint v) n.first n.last (signed_fits v (signed32_fits v fits));
    read = cast_signed w32 (low32 (signed_varint v));
    value = refl;
    plain = signed32_back v fits;
    bad = refl;
    sound = refl;
    wire = refl;
  }
  plain_back Flag true fits short = record {
    carried = Number 1;
    walks = varint_walks laws base number 1 n.first n.last (omega arith);
    read = true;
    value = refl;
    plain = refl;
    bad = refl;
    sound = refl;
    wire = refl;
  }
  plain_back Flag false fits short = record {
    carried = Number 0;
    walks = varint_walks laws base number 0 n.first n.last (omega arith);
    read = false;
    value = refl;
    plain = refl;
    bad = refl;
    sound = refl;
    wire = refl;
  }

-- ---- a plain field that is left out

abbrev DefaultBack : (k : Kind) → Plain k → ℕ → Type 0
DefaultBack k v first = (plain_of k (absent k first) ≡ v) × (plain_bad k (absent k first) ≡ [])

empty_is : (bytes : List ℕ) → eqb (length bytes) 0 ≡ true → ◌≡◌ {A = List ℕ} [] bytes
empty_is bytes e = sym (nil_from_length bytes (eqb-true _ _ e))

zero_is : (z : ℤ) → IsI64 z → signed_varint z ≡ 0 → pos 0 ≡ z
zero_is (pos n) h e = ap pos (sym e)
zero_is (negsuc n) h e = absurd (omega (arith, h, e))

pub default_back : (k : Kind) (v : Plain k) → Fits k v → is_default k v ≡ true → (first : ℕ) → DefaultBack k v first
default_back Id v fits e first = absurd cc
default_back OptionalId None fits e first = (refl, refl)
default_back OptionalId (Some id) fits e first = absurd cc
default_back Text v fits e first = (empty_is v e, refl)
default_back Blob v fits e first = (empty_is v e, refl)
default_back Unsigned64 v fits e first = (sym (eqb-true _ _ e), refl)
default_back Signed64 v fits e first = (zero_is v fits (eqb-true _ _ e), refl)
default_back Unsigned32 v fits e first = (sym (eqb-true _ _ e), refl)
default_back Signed32 v fits e first = (zero_is v (signed32_fits v fits) (eqb-true _ _ e), refl)
default_back Flag true fits e first = absurd cc
default_back Flag false fits e first = (refl, refl)
