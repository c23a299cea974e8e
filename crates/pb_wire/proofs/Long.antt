-- A varint and a record take a byte at least.
use Rattle.std.proofs.Common.{◌≡◌, ℕ, zero, suc, ◌+◌, ◌≤◌, ◌/◌, ◌%◌, ltb, List, [], ◌∷◌, drop, Result, Ok, Err, refl, arith, inl, inr}
use Rattle.pb_wire.specs.declared.fault.WireReason.{WireReason}
use Rattle.pb_wire.specs.declared.fault.WireReason.TheVariants as reasons
use Rattle.pb_wire.specs.declared.records.Load.{Load}
use Rattle.pb_wire.specs.declared.records.Record.{Record}
use Rattle.pb_wire.specs.Reading.{varint_within, varint_of, above, payload_of, with_key, behind_key, record_of}
use Rattle.pb_wire.proofs.Varints.{chosen}

longer : (b : ℕ) (r : Result (ℕ × ℕ) WireReason) (found : ℕ × ℕ) → above b r ≡ Ok found → 1 ≤ found.1
longer b (Ok x) found e = let s : suc x.1 ≡ found.1 = cc in omega arith
longer b (Err x) found e = absurd cc

one_byte : (b : ℕ) (found : ℕ × ℕ) → ◌≡◌ {A = Result (ℕ × ℕ) WireReason} (Ok (b, 1)) (Ok found) → 1 ≤ found.1
one_byte b found e = let s : 1 ≡ found.1 = cc in omega arith

pub varint_long : (more : ℕ) (bytes : List ℕ) (found : ℕ × ℕ) → varint_within more bytes ≡ Ok found → 1 ≤ found.1
unfolding varint_within
varint_long zero [] found e = absurd cc
varint_long (suc more) [] found e = absurd cc
varint_long zero (b ∷ bs) found e =
    elim (chosen (ltb 1 b) (Err reasons.Varint) (Ok (b, 1)) (Ok found) e) [
      | inl h ↦ let no : ◌≡◌ {A = Result (ℕ × ℕ) WireReason} (Err reasons.Varint) (Ok found) = h.1 in absurd cc
      | inr h ↦ one_byte b found h.1
    ]
varint_long (suc more) (b ∷ bs) found e =
    elim (chosen (ltb b 128) (Ok (b, 1)) (above b (varint_within more bs)) (Ok found) e) [
      | inl h ↦ one_byte b found h.1
      | inr h ↦ longer b (varint_within more bs) found h.1
    ]

with_long : (place field size : ℕ) (r : Result (Load × ℕ) WireReason) (found : Record × ℕ) → with_key place field size r ≡ Ok found → size ≤ found.1
with_long place field size (Ok x) found e = let s : size + x.1 ≡ found.1 = cc in omega arith
with_long place field size (Err x) found e = absurd cc

behind_long : (bytes : List ℕ) (place : ℕ) (r : Result (ℕ × ℕ) WireReason) (found : Record × ℕ) → ((x : ℕ × ℕ) → r ≡ Ok x → 1 ≤ x.1) → behind_key bytes place r ≡ Ok found → 1 ≤ found.1
behind_long bytes place (Ok x) found long e =
    elim (chosen (ltb x.0 8) (Err reasons.FieldZero) (with_key place (x.0 / 8) x.1 (payload_of (x.0 % 8) (drop x.1 bytes) (place + x.1))) (Ok found) e) [
      | inl h ↦ let no : ◌≡◌ {A = Result (Record × ℕ) WireReason} (Err reasons.FieldZero) (Ok found) = h.1 in absurd cc
      | inr h ↦ let a = with_long place (x.0 / 8) x.1 (payload_of (x.0 % 8) (drop x.1 bytes) (place + x.1)) found h.1 in let b = long x refl in omega arith
    ]
behind_long bytes place (Err x) found long e = absurd cc

pub record_long : (bytes : List ℕ) (place : ℕ) (found : Record × ℕ) → record_of bytes place ≡ Ok found → 1 ≤ found.1
unfolding record_of
record_long bytes place found e = behind_long bytes place (varint_of bytes) found (varint_long 9 bytes) e
