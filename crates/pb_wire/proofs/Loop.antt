-- A varint read byte by byte, as a loop does.
use Rattle.std.proofs.Common.{◌≡◌, ℕ, zero, suc, ◌+◌, ◌-◌, ◌*◌, ◌%◌, ◌^◌, ◌<◌, ◌≤◌, List, [], ◌∷◌, length, get_or, drop, Result, Ok, Err, refl, sym, ap, ◌∙◌, arith, inl, inr}
use Rattle.std.proofs.lemmas.Bool.{lt-ltb, le-ltb, cases_lt}
use Rattle.std.proofs.lemmas.List.{drop_more, drop_all}
use Rattle.std.proofs.lemmas.Nat.{shl_whole, shl_below, pow-add, mul-le}
use Rattle.std.proofs.Math.Nat.{pow-le-pow_right}
use Rattle.pb_wire.specs.declared.fault.WireReason.{WireReason}
use Rattle.pb_wire.specs.declared.fault.WireReason.TheVariants.{Varint, Truncated}
use Rattle.pb_wire.specs.Reading.{above, varint_within, varint_of}

-- the value of the bytes read so far, and what the bytes behind them give
abbrev pub with_low : ℕ → ℕ → Result (ℕ × ℕ) WireReason → Result (ℕ × ℕ) WireReason
with_low value i (Ok found) = Ok (value + 2 ^ (7 * i) * found.0, i + found.1)
with_low value i (Err reason) = Err reason

-- what a loop keeps at the index
pub record Reads (bytes : List ℕ) (i value : ℕ) : Type 0 where
  pub early : i ≤ 9
  pub small : value < 2 ^ (7 * i)
  pub so_far : with_low value i (varint_within (9 - i) (drop i bytes)) ≡ varint_of bytes

next_power : (i : ℕ) → 2 ^ (7 * (i + 1)) ≡ 128 * 2 ^ (7 * i)
next_power i =
    let e : 7 * (i + 1) ≡ 7 * i + 7 = omega arith in
    rw (e, pow-add 2 (7 * i) 7) (omega arith)

-- no bit is shifted out
pub shifted : (i b : ℕ) → i ≤ 9 → (i ≡ 9 → b ≤ 1) → (b % 128 * 2 ^ (7 * i)) % 2 ^ 64 ≡ b % 128 * 2 ^ (7 * i)
shifted i b early tenth =
    elim (cases_lt i 9) [
      | inl lt ↦ shl_whole (b % 128) 7 (7 * i) 64 (omega arith) (omega arith)
      | inr ge ↦
          let nine : i ≡ 9 = omega arith in
          let small = tenth nine in
          shl_whole (b % 128) 1 (7 * i) 64 (omega arith) (omega arith)
    ]

-- the sum has 64 bits
pub sum_fits : (i b value : ℕ) → i ≤ 9 → (i ≡ 9 → b ≤ 1) → value < 2 ^ (7 * i) → value + b % 128 * 2 ^ (7 * i) < 2 ^ 64
sum_fits i b value early tenth small =
    elim (cases_lt i 9) [
      | inl lt ↦
          let product : b % 128 * 2 ^ (7 * i) < 2 ^ (7 + 7 * i) = shl_below (b % 128) 7 (7 * i) (omega arith) in
          let most : 2 ^ (7 + 7 * i) ≤ 2 ^ 63 = pow-le-pow_right {n = 2} (omega arith) {i = 7 + 7 * i} {j = 63} (omega arith) in
          let low : 2 ^ (7 * i) ≤ 2 ^ 63 = pow-le-pow_right {n = 2} (omega arith) {i = 7 * i} {j = 63} (omega arith) in
          omega (arith, product, most, low, small)
      | inr ge ↦
          let nine : i ≡ 9 = omega arith in
          let one = tenth nine in
          let power : 2 ^ (7 * i) ≡ 2 ^ 63 = ap (λ (k : ℕ). 2 ^ (7 * k)) nine in
          let product : b % 128 * 2 ^ (7 * i) ≤ 1 * 2 ^ (7 * i) = mul-le (b % 128) (2 ^ (7 * i)) 1 (2 ^ (7 * i)) (omega arith) (omega arith) in
          omega (arith, power, product, small)
    ]

-- the byte at the index is the first of those behind it
front_is : (bytes : List ℕ) (i : ℕ) → i < length bytes → drop i bytes ≡ get_or bytes i 0 ∷ drop (i + 1) bytes
front_is bytes i within = drop_more bytes i 0 within

regroup : (value i b : ℕ) (r : Result (ℕ × ℕ) WireReason) → with_low value i (above b r) ≡ with_low (value + b % 128 * 2 ^ (7 * i)) (i + 1) r
regroup value i b (Ok x) =
    let first : value + 2 ^ (7 * i) * (b % 128 + 128 * x.0) ≡ value + b % 128 * 2 ^ (7 * i) + 2 ^ (7 * (i + 1)) * x.0 = rw (next_power i) (omega arith) in
    let second : i + suc x.1 ≡ i + 1 + x.1 = omega arith in
    rw (first, second) refl
regroup value i b (Err reason) = refl

-- a tenth byte above 1
pub wrong_tenth : (bytes : List ℕ) (i value : ℕ) → Reads bytes i value → i < length bytes → i ≡ 9 → 1 < get_or bytes i 0 → Err Varint ≡ varint_of bytes
unfolding varint_within
wrong_tenth bytes i value h within nine large =
    let none : 9 - i ≡ 0 = omega arith in
    let e : with_low value i (varint_within (9 - i) (drop i bytes)) ≡ Err Varint = rw (front_is bytes i within, none, lt-ltb 1 (get_or bytes i 0) large) refl in
    sym e ∙ h.so_far

-- the last byte
pub ends : (bytes : List ℕ) (i value low : ℕ) → Reads bytes i value → i < length bytes → (i ≡ 9 → get_or bytes i 0 ≤ 1) → get_or bytes i 0 < 128 → low ≡ get_or bytes i 0 % 128
    → Ok (value + (low * 2 ^ (7 * i)) % 2 ^ 64, i + 1) ≡ varint_of bytes
unfolding varint_within
ends bytes i value low h within tenth last is =
    let b = get_or bytes i 0 in
    let same : b % 128 ≡ b = omega arith in
    let last_is : varint_within (9 - i) (drop i bytes) ≡ Ok (b, 1) = elim (cases_lt i 9) [
      | inl lt ↦
          let more : 9 - i ≡ suc (8 - i) = omega arith in
          rw (front_is bytes i within, more, lt-ltb b 128 last) refl
      | inr ge ↦
          let nine : i ≡ 9 = omega arith in
          let none : 9 - i ≡ 0 = omega arith in
          rw (front_is bytes i within, none, le-ltb 1 b (tenth nine)) refl
    ] in
    let sum : value + (low * 2 ^ (7 * i)) % 2 ^ 64 ≡ value + 2 ^ (7 * i) * b = rw (is, shifted i b h.early tenth, same) (omega arith) in
    rw sum (sym (ap (with_low value i) last_is) ∙ h.so_far)

-- a byte after which the varint goes on
pub goes_on : (bytes : List ℕ) (i value low : ℕ) → Reads bytes i value → i < length bytes → (i ≡ 9 → get_or bytes i 0 ≤ 1) → 128 ≤ get_or bytes i 0 → low ≡ get_or bytes i 0 % 128
    → Reads bytes (i + 1) (value + (low * 2 ^ (7 * i)) % 2 ^ 64)
unfolding varint_within
goes_on bytes i value low h within tenth high is =
    let b = get_or bytes i 0 in
    let lt : i < 9 = elim (cases_lt i 9) [
      | inl lt ↦ lt
      | inr ge ↦ let nine : i ≡ 9 = omega arith in absurd (omega (arith, tenth nine))
    ] in
    let more : 9 - i ≡ suc (9 - (i + 1)) = omega arith in
    let value_is : value + (low * 2 ^ (7 * i)) % 2 ^ 64 ≡ value + b % 128 * 2 ^ (7 * i) = rw (is, shifted i b h.early tenth) refl in
    let product : b % 128 * 2 ^ (7 * i) ≤ 127 * 2 ^ (7 * i) = mul-le (b % 128) (2 ^ (7 * i)) 127 (2 ^ (7 * i)) (omega arith) (omega arith) in
    let step : with_low value i (varint_within (9 - i) (drop i bytes)) ≡ with_low (value + b % 128 * 2 ^ (7 * i)) (i + 1) (varint_within (9 - (i + 1)) (drop (i + 1) bytes)) =
    rw (front_is bytes i within, more, le-ltb b 128 high) (regroup value i b (varint_within (9 - (i + 1)) (drop (i + 1) bytes))) in
    rw value_is (record { early = omega arith; small = rw (next_power i) (omega (arith, h.small, product)); so_far = sym step ∙ h.so_far })

-- the bytes end first
pub runs_out : (bytes : List ℕ) (i value : ℕ) → Reads bytes i value → length bytes ≤ i → Err Truncated ≡ varint_of bytes
unfolding varint_within
runs_out bytes i value h past =
    let e : with_low value i (varint_within (9 - i) (drop i bytes)) ≡ Err Truncated = rw (drop_all i bytes past, none (9 - i)) refl in
    sym e ∙ h.so_far
  where
    none : (more : ℕ) → varint_within more [] ≡ Err Truncated
    none zero = refl
    none (suc more) = refl
