-- Taking the numbers of a packed run one after another.
use Rattle.std.proofs.Common.{◌≡◌, ◌≢◌, ℕ, zero, suc, ◌≤◌, ℤ, false, eqb, List, [], ◌∷◌, ◌++◌, map, length, drop, Option, Some, None, Result, Ok, Err, refl, sym, ap, ◌∙◌, append_assoc, arith}
use Rattle.std.specs.List.{filter_map, flat_map}
use Rattle.std.specs.Int.{w32, cast_signed}
use Rattle.std.proofs.lemmas.List.{append-nil, length-drop}
use Rattle.pb_wire.specs.declared.fault.WireReason.{WireReason}
use Rattle.pb_wire.specs.Reading.{varint_of, varint_within}
use Rattle.gt_model.specs.Schema.{Signed32}
use Rattle.gt_read.specs.Kinds.{Packed, put_number, packed_on, packed_within, packed, packed_signed, from_varint, low32}
use Rattle.gt_read.specs.Faults.{packed_faults, failed_at}
use Rattle.gt_read.specs.declared.ids.IdFault.{IdFault}
use Rattle.gt_read.specs.Identifiers.{least, plain_bad}
use Rattle.gt_read.specs.Drafts.Draft.{lean, added_all}

shorter : (b : ℕ) (bs : List ℕ) (n k : ℕ) → length (b ∷ bs) ≤ suc n → 1 ≤ k → length (drop k (b ∷ bs)) ≤ n
shorter b bs n k h one = omega (arith, length-drop k (b ∷ bs))

pub packed-nil : packed [] ≡ record { numbers = []; failed = None }
unfolding packed_within
packed-nil = refl

pub packed-err : (bytes : List ℕ) (reason : WireReason) → bytes ≢ [] → varint_of bytes ≡ Err reason → packed bytes ≡ record { numbers = []; failed = Some reason }
unfolding packed_within
packed-err [] reason some e = absurd (some refl)
packed-err (b ∷ bs) reason some e = ap (packed_on (λ found. put_number found.0 (packed_within (length bs) (drop found.1 (b ∷ bs))))) e

-- the numbers before the rest were taken
pub record Unpacks (first : List ℤ) (bytes rest : List ℕ) (slot : List ℤ) : Type 0 where
  pub numbers : slot ++ packed_signed rest ≡ first ++ packed_signed bytes
  pub failed : (packed rest).failed ≡ (packed bytes).failed

pub unpacks_first : (first : List ℤ) (bytes : List ℕ) → Unpacks first bytes bytes first
unpacks_first first bytes = record { numbers = refl; failed = refl }

pub unpacked : (first : List ℤ) (bytes rest : List ℕ) (slot : List ℤ) (place : ℕ) → Unpacks first bytes rest slot → rest ≡ []
    → (slot ≡ first ++ packed_signed bytes) × (packed_faults Signed32 place bytes ≡ [])
unpacked first bytes rest slot place u e =
    let done : packed rest ≡ record { numbers = []; failed = None } = ap packed e ∙ packed-nil in (
      sym (append-nil slot) ∙ ap (λ (p : Packed). slot ++ filter_map (from_varint Signed32) p.numbers) (sym done) ∙ u.numbers,
      ap (failed_at place) (sym u.failed ∙ ap (λ (p : Packed). p.failed) done),
    )

pub not_packed : (first : List ℤ) (bytes rest : List ℕ) (slot : List ℤ) (place : ℕ) (reason : WireReason) → Unpacks first bytes rest slot → rest ≢ [] → varint_of rest ≡ Err reason
    → packed_faults Signed32 place bytes ≡ failed_at place (Some reason)
not_packed first bytes rest slot place reason u some e =
    ap (failed_at place) (sym u.failed ∙ ap (λ (p : Packed). p.failed) (packed-err rest reason some e))

pub not_empty : (rest : List ℕ) → false ≡ eqb (length rest) 0 → rest ≢ []
not_empty [] e h = absurd cc
not_empty (b ∷ bs) e h = absurd cc

-- a run of the field's numbers, as one more part of the field
pub packed_added : (old new : List ℤ) (bytes : List ℕ) → new ≡ old ++ packed_signed bytes
    → ◌≡◌ {A = List ℤ × Option IdFault} (new, None) (added_all Signed32 (old, None) (filter_map (from_varint Signed32) (packed bytes).numbers))
packed_added old new bytes e = by (packed_signed bytes) e
  where
    map-id : (zs : List ℤ) → map (λ z. z) zs ≡ zs
    map-id [] = refl
    map-id (z ∷ zs) = ap (λ (l : List ℤ). z ∷ l) (map-id zs)

    no_bad : (zs : List ℤ) → ◌≡◌ {A = Option IdFault} (least (flat_map (plain_bad Signed32) zs)) None
    no_bad [] = refl
    no_bad (z ∷ zs) = no_bad zs

    by : (zs : List ℤ) → new ≡ old ++ zs → ◌≡◌ {A = List ℤ × Option IdFault} (new, None) (added_all Signed32 (old, None) zs)
    by [] e = ap (λ (l : List ℤ). lean l None) (e ∙ append-nil old)
    by (z ∷ zs) e =
        ap (λ (l : List ℤ). lean l None) (e ∙ ap (λ (l : List ℤ). old ++ l) (sym (map-id (z ∷ zs))))
        ∙ ap (λ (o : Option IdFault). lean (old ++ map (λ z. z) (z ∷ zs)) o) (sym (no_bad (z ∷ zs)))

-- a varint takes a byte at least
abbrev pub VarintsAreLong : Type 0
VarintsAreLong = (bytes : List ℕ) (value size : ℕ) → varint_of bytes ≡ Ok (value, size) → 1 ≤ size

module _ (long : VarintsAreLong) where
  packed_same : (n m : ℕ) (bytes : List ℕ) → length bytes ≤ n → length bytes ≤ m → packed_within n bytes ≡ packed_within m bytes
  unfolding packed_within
  packed_same zero zero bytes h k = refl
  packed_same zero (suc m) [] h k = refl
  packed_same zero (suc m) (b ∷ bs) h k = absurd (omega arith)
  packed_same (suc n) zero [] h k = refl
  packed_same (suc n) zero (b ∷ bs) h k = absurd (omega arith)
  packed_same (suc n) (suc m) [] h k = refl
  packed_same (suc n) (suc m) (b ∷ bs) h k = at (λ bytes. packed_same n m bytes) (varint_of (b ∷ bs)) refl
    where
      at : ((bytes : List ℕ) → length bytes ≤ n → length bytes ≤ m → packed_within n bytes ≡ packed_within m bytes)
          → (r : Result (ℕ × ℕ) WireReason) → varint_of (b ∷ bs) ≡ r
          → packed_on (λ found. put_number found.0 (packed_within n (drop found.1 (b ∷ bs)))) r ≡ packed_on (λ found. put_number found.0 (packed_within m (drop found.1 (b ∷ bs)))) r
      at same (Ok found) e =
          let one = long (b ∷ bs) found.0 found.1 e in
          ap (put_number found.0) (same (drop found.1 (b ∷ bs)) (shorter b bs n found.1 h one) (shorter b bs m found.1 k one))
      at same (Err reason) e = refl

  pub packed-ok : (bytes : List ℕ) (found : ℕ × ℕ) → varint_of bytes ≡ Ok found → packed bytes ≡ put_number found.0 (packed (drop found.1 bytes))
  unfolding packed_within varint_within
  packed-ok [] found e = absurd cc
  packed-ok (b ∷ bs) found e =
      let one = long (b ∷ bs) found.0 found.1 e in
      ap (packed_on (λ found. put_number found.0 (packed_within (length bs) (drop found.1 (b ∷ bs))))) e
      ∙ ap (put_number found.0) (packed_same (length bs) (length (drop found.1 (b ∷ bs))) (drop found.1 (b ∷ bs)) (shorter b bs (length bs) found.1 (omega arith) one) (omega arith))

  pub unpacks_next : (first : List ℤ) (bytes rest : List ℕ) (slot : List ℤ) (found : ℕ × ℕ) (slot' : List ℤ) → Unpacks first bytes rest slot → varint_of rest ≡ Ok found
      → slot' ≡ slot ++ cast_signed w32 (low32 found.0) ∷ [] → Unpacks first bytes (drop found.1 rest) slot'
  unpacks_next first bytes rest slot found slot' u e s =
      let one = packed-ok rest found e in
      record {
        numbers =
            ap (λ (l : List ℤ). l ++ packed_signed (drop found.1 rest)) s
            ∙ append_assoc slot (cast_signed w32 (low32 found.0) ∷ []) (packed_signed (drop found.1 rest))
            ∙ ap (λ (p : Packed). slot ++ filter_map (from_varint Signed32) p.numbers) (sym one) ∙ u.numbers;
        failed = ap (λ (p : Packed). p.failed) (sym one) ∙ u.failed;
      }
