-- No function of numbers gives more than 64 bits.
use Rattle.std.proofs.Common.{◌≡◌, ℕ, zero, suc, ◌+◌, ◌-◌, ◌*◌, ◌/◌, ◌%◌, ◌^◌, ◌<◌, ◌≤◌, inl, inr, Bool, true, false, refl, ap, ◌∙◌, subst, arith}
use Rattle.std.specs.Prelude.{◌==◌, nat_le, if◌then◌else◌}
use Rattle.std.specs.Int.{w16, w32, w64, swap_bytes, reverse_bits_onto}
use Rattle.std.specs.Int.Bits.{and_lt}
use Rattle.std.proofs.Math.Arith.{mod-mul}
use Rattle.std.proofs.Math.Nat.{div-eq_of_lt, mod-le, mul-mod_left, mul-le-mul, mul-le-mul_right, div-le_self, div-mul-le_self}
use Rattle.std.proofs.Math.Pow.{pow_mono}
use Rattle.std.proofs.lemmas.Bool.{leb-true, leb-false, cases_lt}
use Rattle.std.proofs.lemmas.Nat.{mod_below, pow_pos, pow-add, shr_below, shl-shr, or_lt, xor_lt, leading_le}
use Rattle.a64_inst.specs.declared.operations.Binary.{Binary}
use Rattle.a64_inst.specs.declared.operations.Binary.TheVariants as binary
use Rattle.a64_inst.specs.declared.operations.Sum.{Sum}
use Rattle.a64_inst.specs.declared.operations.Sum.TheVariants.{Add, Subtract}
use Rattle.a64_inst.specs.declared.operations.Unary.{Unary}
use Rattle.a64_inst.specs.declared.operations.Unary.TheVariants as unary
use Rattle.a64_inst.specs.declared.operations.Width.{Width}
use Rattle.a64_inst.specs.declared.operations.Width.TheVariants.{W, X}
use Rattle.a64_inst.specs.Numbers.{bits_of, low, inverse, is_negative, same, sign_extended, addend, rotated, shifted, moved_bits, moved_top, moved_place, element_size, bit_mask, magnitude, swapped_parts, leading_signs, one_source_value, two_sources_value, logic_value, unary_value, binary_value}

-- ---- either of two

pub either_small : (b : Bool) (x y n : ℕ) → x < n → y < n → (if b then x else y) < n
either_small true x y n h k = h
either_small false x y n h k = k

either_given : (b : Bool) (x y n : ℕ) → (b ≡ true → x < n) → (b ≡ false → y < n) → (if b then x else y) < n
either_given true x y n h k = h refl
either_given false x y n h k = k refl

-- a number of either width
wide : (w : Width) (n : ℕ) → n < 2 ^ bits_of w → n < 2 ^ 64
wide W n h = omega (arith, h)
wide X n h = h

low_small : (w a : ℕ) → low w a < 2 ^ w
low_small w a = mod_below a (2 ^ w) (pow_pos w)

none_small : (w : ℕ) → 0 < 2 ^ w
none_small w = pow_pos w

inverse_small : (w a : ℕ) → inverse w a < 2 ^ w
inverse_small w a = let h = pow_pos w in omega (arith, h)

-- ---- shifts

factors : (w k : ℕ) → k ≤ w → 2 ^ w ≡ 2 ^ k * 2 ^ (w - k)
factors w k h = let s : k + (w - k) ≡ w = omega (arith, h) in subst (λ (x : ℕ). 2 ^ x ≡ 2 ^ k * 2 ^ (w - k)) s (pow-add 2 k (w - k))

raised : (w k a : ℕ) → k ≤ w → (a * 2 ^ (w - k)) % 2 ^ w ≡ (a % 2 ^ k) * 2 ^ (w - k)
raised w k a h =
    let split = mod-mul (a * 2 ^ (w - k)) {m = 2 ^ k} {c = 2 ^ (w - k)} (pow_pos k) (pow_pos (w - k)) in
    let part = shl-shr a (w - k) in
    let rest = mul-mod_left a (2 ^ (w - k)) in
    rw (factors w k h) (split ∙ rw (part, rest) (omega arith))

quotient_small : (w k a : ℕ) → low w a / 2 ^ k < 2 ^ (w - k)
quotient_small w k a =
    let most : 2 ^ w ≤ 2 ^ (w - k + k) = pow_mono (omega arith) in
    let below = low_small w a in
    shr_below (low w a) (w - k) k (omega (arith, most, below))

-- a number shifted up leaves room for what is below it
room : (w k a : ℕ) → (a * 2 ^ (w - k)) % 2 ^ w + 2 ^ (w - k) ≤ 2 ^ w
room w k a =
    elim (cases_lt w k) [
      | inl more ↦
          let none : w - k ≡ 0 = omega (arith, more) in
          let below = mod_below (a * 2 ^ (w - k)) (2 ^ w) (pow_pos w) in
          let one : 2 ^ (w - k) ≡ 1 = ap (λ (n : ℕ). 2 ^ n) none in
          omega (arith, below, one)
      | inr fewer ↦
          let part = raised w k a fewer in
          let all = factors w k fewer in
          let below : suc (a % 2 ^ k) * 2 ^ (w - k) ≤ 2 ^ k * 2 ^ (w - k) = mul-le-mul_right (2 ^ (w - k)) (mod_below a (2 ^ k) (pow_pos k)) in
          omega (arith, part, all, below)
    ]

pub rotated_small : (w a k : ℕ) → rotated w a k < 2 ^ w
rotated_small w a k =
    let high = quotient_small w k a in
    let rest = room w k (low w a) in
    omega (arith, high, rest)

signed_small : (w k a x : ℕ) → x ≤ 2 ^ w - 2 ^ (w - k) → low w a / 2 ^ k + x < 2 ^ w
signed_small w k a x h =
    let high = quotient_small w k a in
    let most : 2 ^ (w - k) ≤ 2 ^ w = pow_mono (omega arith) in
    omega (arith, high, most, h)

either_most : (b : Bool) (n : ℕ) → (if b then n else 0) ≤ n
either_most true n = omega arith
either_most false n = omega arith

pub shifted_small : (w kind a k : ℕ) → shifted w kind a k < 2 ^ w
shifted_small w kind a k =
    let below = low_small w a in
    let least = div-le_self (low w a) (2 ^ k) in
    either_small (kind == 0) _ _ (2 ^ w) (low_small w (low w a * 2 ^ k))
    (either_small (kind == 1) _ _ (2 ^ w) (omega (arith, below, least))
    (either_small (kind == 2) _ _ (2 ^ w) (signed_small w k a _ (either_most (is_negative w (low w a)) (2 ^ w - 2 ^ (w - k)))) (rotated_small w a k)))

-- ---- bit fields

-- with as many bits as the width or fewer
extended_most : (bits w n : ℕ) → n < 2 ^ w → sign_extended bits w n < 2 ^ w
extended_most bits w n h =
    let below = mod_below n (2 ^ bits) (pow_pos bits) in
    let least = mod-le n (2 ^ bits) in
    either_small (is_negative bits (low bits n)) _ _ (2 ^ w)
    (elim (cases_lt w bits) [
      | inl more ↦ let p : 2 ^ w ≤ 2 ^ bits = pow_mono (omega (arith, more)) in omega (arith, least, p, h)
      | inr fewer ↦ let p : 2 ^ bits ≤ 2 ^ w = pow_mono fewer in omega (arith, below, p)
    ])
    (omega (arith, least, h))

lifted_small : (w immr x count : ℕ) → count ≤ immr → x < 2 ^ w → x % 2 ^ count * 2 ^ (w - immr) < 2 ^ w
lifted_small w immr x count h small =
    elim (cases_lt w immr) [
      | inl more ↦
          let none : w - immr ≡ 0 = omega (arith, more) in
          let least = mod-le x (2 ^ count) in
          let one : x % 2 ^ count * 2 ^ (w - immr) ≡ x % 2 ^ count * 1 = ap (λ (n : ℕ). x % 2 ^ count * 2 ^ n) none in
          omega (arith, one, least, small)
      | inr fewer ↦
          let below : suc (x % 2 ^ count) * 2 ^ (w - immr) ≤ 2 ^ count * 2 ^ (w - immr) = mul-le-mul_right (2 ^ (w - immr)) (mod_below x (2 ^ count) (pow_pos count)) in
          let more : 2 ^ count * 2 ^ (w - immr) ≤ 2 ^ immr * 2 ^ (w - immr) = mul-le-mul_right (2 ^ (w - immr)) (pow_mono h) in
          let all = factors w immr fewer in
          let some = pow_pos (w - immr) in
          omega (arith, below, more, all, some)
    ]

field_small : (w immr imms a : ℕ) → moved_bits w immr imms a < 2 ^ w
field_small w immr imms a =
    let below = low_small w a in
    either_given (nat_le immr imms) _ _ (2 ^ w)
    (λ e.
    let first = div-le_self (low w a) (2 ^ immr) in
    let second = mod-le (low w a / 2 ^ immr) (2 ^ (imms - immr + 1)) in
    omega (arith, first, second, below))
    (λ e. let less = leb-false immr imms e in lifted_small w immr (low w a) (imms + 1) (omega (arith, less)) below)

either_field : (signed : Bool) (w immr imms a : ℕ) → (if signed then sign_extended (moved_top w immr imms) w (moved_bits w immr imms a) else moved_bits w immr imms a) < 2 ^ w
either_field true w immr imms a = extended_most (moved_top w immr imms) w (moved_bits w immr imms a) (field_small w immr imms a)
either_field false w immr imms a = field_small w immr imms a

-- ---- bits and bytes turned round

reversed_small : (k n a i : ℕ) → a < 2 ^ i → reverse_bits_onto k n a < 2 ^ (i + k)
unfolding reverse_bits_onto
reversed_small zero n a i h = subst (λ (x : ℕ). a < 2 ^ x) (let e : i ≡ i + 0 = omega arith in e) h
reversed_small (suc k) n a i h =
    let twice : 2 ^ (i + 1) ≡ 2 ^ i * 2 = pow-add 2 i 1 in
    let next : a * 2 + n % 2 < 2 ^ (i + 1) = omega (arith, h, twice) in
    subst (λ (x : ℕ). reverse_bits_onto k (n / 2) (a * 2 + n % 2) < 2 ^ x) (let e : i + 1 + k ≡ i + suc k = omega arith in e) (reversed_small k (n / 2) (a * 2 + n % 2) (i + 1) next)

reversed_all : (w n : ℕ) → reverse_bits_onto w n 0 < 2 ^ w
reversed_all w n = subst (λ (x : ℕ). reverse_bits_onto w n 0 < 2 ^ x) (let e : 0 + w ≡ w = omega arith in e) (reversed_small w n 0 0 (omega arith))

swap_two : (n : ℕ) → swap_bytes w16 n < 2 ^ 16
swap_two n = omega arith

swap_four : (n : ℕ) → swap_bytes w32 n < 2 ^ 32
swap_four n = omega arith

swap_eight : (n : ℕ) → swap_bytes w64 n < 2 ^ 64
swap_eight n = omega arith

halves_swapped : (w : Width) (a : ℕ) → swapped_parts w16 (bits_of w / 16) a < 2 ^ bits_of w
halves_swapped W a = let p = swap_two (a % 2 ^ 16) in let q = swap_two (a / 2 ^ 16 % 2 ^ 16) in omega (arith, p, q)
halves_swapped X a =
    let p = swap_two (a % 2 ^ 16) in
    let q = swap_two (a / 2 ^ 16 % 2 ^ 16) in
    let r = swap_two (a / 2 ^ 16 / 2 ^ 16 % 2 ^ 16) in
    let s = swap_two (a / 2 ^ 16 / 2 ^ 16 / 2 ^ 16 % 2 ^ 16) in
    omega (arith, p, q, r, s)

words_swapped : (w : Width) (a : ℕ) → swapped_parts w32 (bits_of w / 32) a < 2 ^ bits_of w
words_swapped W a = let p = swap_four (a % 2 ^ 32) in omega (arith, p)
words_swapped X a = let p = swap_four (a % 2 ^ 32) in let q = swap_four (a / 2 ^ 32 % 2 ^ 32) in omega (arith, p, q)

all_swapped : (w : Width) (a : ℕ) → swapped_parts w64 (bits_of w / 64) a < 2 ^ bits_of w
all_swapped W a = omega arith
all_swapped X a = let p = swap_eight (a % 2 ^ 64) in omega (arith, p)

width_small : (w : Width) (n : ℕ) → n ≤ bits_of w → n < 2 ^ bits_of w
width_small W n h = omega (arith, h)
width_small X n h = omega (arith, h)

signs_small : (w : Width) (a : ℕ) → leading_signs (bits_of w) a < 2 ^ bits_of w
signs_small w a =
    let first = leading_le (bits_of w - 1) (2 ^ bits_of w - 1 - a) in
    let second = leading_le (bits_of w - 1) a in
    either_small (is_negative (bits_of w) a) _ _ (2 ^ bits_of w) (width_small w _ (omega (arith, first))) (width_small w _ (omega (arith, second)))

one_source_small : (opcode : ℕ) (w : Width) (a : ℕ) → one_source_value opcode (bits_of w) a < 2 ^ bits_of w
one_source_small opcode w a =
    either_small (opcode == 0) _ _ (2 ^ bits_of w) (reversed_all (bits_of w) (low (bits_of w) a))
    (either_small (opcode == 1) _ _ (2 ^ bits_of w) (halves_swapped w (low (bits_of w) a))
    (either_small (opcode == 2) _ _ (2 ^ bits_of w) (words_swapped w (low (bits_of w) a))
    (either_small (opcode == 3) _ _ (2 ^ bits_of w) (all_swapped w (low (bits_of w) a))
    (either_small (opcode == 4) _ _ (2 ^ bits_of w) (width_small w _ (leading_le (bits_of w) (low (bits_of w) a))) (signs_small w (low (bits_of w) a))))))

addend_small : (sum : Sum) (w a : ℕ) → addend sum w a < 2 ^ w
addend_small Add w a = low_small w a
addend_small Subtract w a = inverse_small w a

pub unary_small : (f : Unary) (w : Width) (n : ℕ) → unary_value f (bits_of w) n < 2 ^ 64
unary_small (unary.Insert value at) w n = wide w _ (low_small (bits_of w) _)
unary_small (unary.Shift kind amount) w n = wide w _ (shifted_small (bits_of w) kind n amount)
unary_small (unary.Extend option amount) w n = wide w _ (low_small (bits_of w) _)
unary_small (unary.Bitfield signed immr imms) w n = wide w _ (either_field signed (bits_of w) immr imms n)
unary_small (unary.Addend sum) w n = wide w _ (addend_small sum (bits_of w) n)
unary_small (unary.OneSource opcode) w n = wide w _ (one_source_small opcode w n)
unary_small (unary.Bit place) w n = omega arith

-- ---- functions of two numbers

logic_small : (w opc a b : ℕ) → a < 2 ^ w → b < 2 ^ w → logic_value opc a b < 2 ^ w
logic_small w opc a b h k = either_small (opc == 1) _ _ (2 ^ w) (or_lt w a b h k) (either_small (opc == 2) _ _ (2 ^ w) (xor_lt w a b h k) (and_lt w a b h k))

quotient_most : (w a b : ℕ) → a < 2 ^ w → a / b < 2 ^ w
quotient_most w a b h = let least = div-le_self a b in omega (arith, least, h)

magnitude_small : (w a : ℕ) → magnitude w a < 2 ^ w
magnitude_small w a =
    let below = low_small w a in
    either_given (is_negative w (low w a)) _ _ (2 ^ w)
    (λ e. let high = leb-true (2 ^ (w - 1)) (low w a) e in let some = pow_pos (w - 1) in omega (arith, high, some, below)) (λ e. below)

two_sources_small : (w opcode a b : ℕ) → two_sources_value opcode w a b < 2 ^ w
two_sources_small w opcode a b =
    either_small (opcode == 2) _ _ (2 ^ w) (either_small (low w b == 0) _ _ (2 ^ w) (none_small w) (quotient_most w (low w a) (low w b) (low_small w a)))
    (either_small (opcode == 3) _ _ (2 ^ w)
    (either_small (low w b == 0) _ _ (2 ^ w) (none_small w)
    (either_small (same (is_negative w (low w a)) (is_negative w (low w b))) _ _ (2 ^ w) (quotient_most w (magnitude w a) (magnitude w b) (magnitude_small w a)) (low_small w (2 ^ w - magnitude w a / magnitude w b))))
    (shifted_small w (opcode - 8) a (low w b % w)))

-- what a bit field moves, with any bits below it, has no more bits than up to its topmost
risen : (x j k : ℕ) → x < 2 ^ j → x * 2 ^ k + 2 ^ k ≤ 2 ^ (j + k)
risen x j k h = let e = pow-add 2 j k in let m : suc x * 2 ^ k ≤ 2 ^ j * 2 ^ k = mul-le-mul_right (2 ^ k) h in omega (arith, e, m)

either_room : (t : Bool) (w immr imms x : ℕ) → (if t then x / 2 ^ immr % 2 ^ (imms - immr + 1) else x % 2 ^ (imms + 1) * 2 ^ (w - immr)) + 2 ^ (if t then 0 else w - immr) ≤ 2 ^ (if t then imms - immr + 1 else imms + 1 + (w - immr))
either_room true w immr imms x = let m = mod_below (x / 2 ^ immr) (2 ^ (imms - immr + 1)) (pow_pos (imms - immr + 1)) in omega (arith, m)
either_room false w immr imms x = risen (x % 2 ^ (imms + 1)) (imms + 1) (w - immr) (mod_below x (2 ^ (imms + 1)) (pow_pos (imms + 1)))

field_room : (w immr imms a : ℕ) → moved_bits w immr imms a + 2 ^ moved_place w immr imms ≤ 2 ^ moved_top w immr imms
field_room w immr imms a = either_room (nat_le immr imms) w immr imms (low w a)

-- so do they not pass the width
raised_room : (w immr imms x : ℕ) → imms < immr → x < 2 ^ w → x % 2 ^ (imms + 1) * 2 ^ (w - immr) + 2 ^ (w - immr) ≤ 2 ^ w
raised_room w immr imms x less small =
    elim (cases_lt w immr) [
      | inl more ↦
          let none : w - immr ≡ 0 = omega (arith, more) in
          let least = mod-le x (2 ^ (imms + 1)) in
          let one : x % 2 ^ (imms + 1) * 2 ^ (w - immr) + 2 ^ (w - immr) ≡ x % 2 ^ (imms + 1) * 1 + 1 = ap (λ (n : ℕ). x % 2 ^ (imms + 1) * 2 ^ n + 2 ^ n) none in
          omega (arith, one, least, small)
      | inr fewer ↦
          let up = risen (x % 2 ^ (imms + 1)) (imms + 1) (w - immr) (mod_below x (2 ^ (imms + 1)) (pow_pos (imms + 1))) in
          let most : 2 ^ (imms + 1 + (w - immr)) ≤ 2 ^ w = pow_mono (omega (arith, less, fewer)) in
          omega (arith, up, most)
    ]

either_within : (t : Bool) (w immr imms x : ℕ) → (t ≡ false → imms < immr) → x < 2 ^ w
    → (if t then x / 2 ^ immr % 2 ^ (imms - immr + 1) else x % 2 ^ (imms + 1) * 2 ^ (w - immr)) + 2 ^ (if t then 0 else w - immr) ≤ 2 ^ w
either_within true w immr imms x less small =
    let first = div-le_self x (2 ^ immr) in
    let second = mod-le (x / 2 ^ immr) (2 ^ (imms - immr + 1)) in
    omega (arith, first, second, small)
either_within false w immr imms x less small = raised_room w immr imms x (less refl) small

field_within : (w immr imms a : ℕ) → moved_bits w immr imms a + 2 ^ moved_place w immr imms ≤ 2 ^ w
field_within w immr imms a = either_within (nat_le immr imms) w immr imms (low w a) (leb-false immr imms) (low_small w a)

-- bits above a place, bits up to it, and any below those
into_small : (w top x y z p : ℕ) → x < 2 ^ w → y + p ≤ 2 ^ top → y + p ≤ 2 ^ w → z < p → x / 2 ^ top * 2 ^ top + y + z < 2 ^ w
into_small w top x y z p h room whole below =
    elim (cases_lt w top) [
      | inl more ↦
          let most : 2 ^ w ≤ 2 ^ top = pow_mono (omega (arith, more)) in
          let none : x / 2 ^ top ≡ 0 = div-eq_of_lt (omega (arith, h, most)) in
          rw none (omega (arith, whole, below))
      | inr fewer ↦
          let all : w - top + top ≡ w = omega (arith, fewer) in
          let up : x / 2 ^ top * 2 ^ top + 2 ^ top ≤ 2 ^ (w - top + top) = risen (x / 2 ^ top) (w - top) top (shr_below x (w - top) top (rw all h)) in
          let same : 2 ^ (w - top + top) ≡ 2 ^ w = ap (λ (n : ℕ). 2 ^ n) all in
          omega (arith, up, same, room, below)
    ]

pub binary_small : (f : Binary) (w : Width) (m n : ℕ) → binary_value f (bits_of w) m n < 2 ^ 64
binary_small (binary.Logic opc inverted) w m n =
    wide w _ (logic_small (bits_of w) opc _ _ (low_small (bits_of w) m) (either_small inverted _ _ (2 ^ bits_of w) (inverse_small (bits_of w) n) (low_small (bits_of w) n)))
binary_small (binary.TwoSources opcode) w m n = wide w _ (two_sources_small (bits_of w) opcode m n)
binary_small (binary.BitfieldInto immr imms) w m n =
    wide w _ (into_small (bits_of w) (moved_top (bits_of w) immr imms) (low (bits_of w) m) (moved_bits (bits_of w) immr imms n) (m % 2 ^ moved_place (bits_of w) immr imms) (2 ^ moved_place (bits_of w) immr imms)
    (low_small (bits_of w) m) (field_room (bits_of w) immr imms n) (field_within (bits_of w) immr imms n) (mod_below m (2 ^ moved_place (bits_of w) immr imms) (pow_pos (moved_place (bits_of w) immr imms))))
binary_small (binary.Extract place) w m n = wide w _ (low_small (bits_of w) _)
binary_small binary.Product w m n = wide w _ (low_small (bits_of w) _)
binary_small (binary.LongProduct signed) w m n = either_small signed _ _ (2 ^ 64) (low_small 64 _) (long_product (low 32 m) (low 32 n) (low_small 32 m) (low_small 32 n))
  where
    long_product : (a b : ℕ) → a < 2 ^ 32 → b < 2 ^ 32 → a * b < 2 ^ 64
    long_product a b h k =
        let most : a * b ≤ (2 ^ 32 - 1) * (2 ^ 32 - 1) = mul-le-mul {n₁ = a} {m₁ = b} {n₂ = 2 ^ 32 - 1} {m₂ = 2 ^ 32 - 1} (omega (arith, h)) (omega (arith, k)) in
        omega (arith, most)
binary_small (binary.HighProduct signed) w m n = either_small signed _ _ (2 ^ 64) (high_half _) (high_product (low 64 m) (low 64 n) (low_small 64 m) (low_small 64 n))
  where
    high_half : (x : ℕ) → low 128 x / 2 ^ 64 < 2 ^ 64
    high_half x = omega arith

    high_product : (a b : ℕ) → a < 2 ^ 64 → b < 2 ^ 64 → a * b / 2 ^ 64 < 2 ^ 64
    high_product a b h k =
        let most : a * b ≤ (2 ^ 64 - 1) * (2 ^ 64 - 1) = mul-le-mul {n₁ = a} {m₁ = b} {n₂ = 2 ^ 64 - 1} {m₂ = 2 ^ 64 - 1} (omega (arith, h)) (omega (arith, k)) in
        omega (arith, most)
binary_small (binary.PlainSum sum) w m n = wide w _ (low_small (bits_of w) _)

-- ---- logical immediates

-- as many of the wholes as fit
within : (x d n : ℕ) → x ≤ d → x * (n / d) ≤ n
within x d n h = let a : x * (n / d) ≤ d * (n / d) = mul-le-mul_right (n / d) h in let b = div-mul-le_self n d in omega (arith, a, b)

pub mask_small : (w : Width) (n immr imms : ℕ) → bit_mask (bits_of w) n immr imms < 2 ^ 64
mask_small w n immr imms =
    let size : ℕ = element_size n imms in
    let turned = rotated_small size (2 ^ (imms % size + 1) - 1) (immr % size) in
    let some = pow_pos (bits_of w) in
    wide w _ (let all = within (rotated size (2 ^ (imms % size + 1) - 1) (immr % size)) (2 ^ size - 1) (2 ^ bits_of w - 1) (omega (arith, turned)) in omega (arith, all, some))
