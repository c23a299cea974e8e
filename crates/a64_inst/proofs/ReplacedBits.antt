-- Bits of a word that are replaced.
use Rattle.std.proofs.Common.{◌≡◌, ℕ, ◌+◌, ◌-◌, ◌*◌, ◌/◌, ◌%◌, ◌^◌, ◌<◌, ◌≤◌, sym, ap, ◌∙◌, arith}
use Rattle.std.proofs.Math.Nat.{mod-eq_of_lt, div-lt_iff_lt-mul}
use Rattle.std.proofs.lemmas.Nat.{pow-add, pow_pos, mul-le, one_shl, mod_below}

-- a number of so many bits stays below their end
pub below_end : (place width n : ℕ) → n < 2 ^ width → n * 2 ^ place + 2 ^ place ≤ 2 ^ (place + width)
below_end place width n small =
    let much : (n + 1) * 2 ^ place ≤ 2 ^ width * 2 ^ place = mul-le (n + 1) (2 ^ place) (2 ^ width) (2 ^ place) (omega arith) (omega arith) in
    omega (arith, pow-add 2 place width, much)

-- what stands from a place on leaves room for what is below it
pub above_place : (place n : ℕ) → place ≤ 32 → n < 2 ^ 32 → n / 2 ^ place * 2 ^ place + 2 ^ place ≤ 2 ^ 32
above_place place n within small =
    let whole : 32 - place + place ≡ 32 = omega arith in
    let split : 2 ^ (32 - place) * 2 ^ place ≡ 2 ^ 32 = sym (pow-add 2 (32 - place) place) ∙ ap (λ (k : ℕ). 2 ^ k) whole in
    let high : n / 2 ^ place < 2 ^ (32 - place) = (div-lt_iff_lt-mul (pow_pos place)).1 (omega (arith, split)) in
    let much : (n / 2 ^ place + 1) * 2 ^ place ≤ 2 ^ (32 - place) * 2 ^ place = mul-le (n / 2 ^ place + 1) (2 ^ place) (2 ^ (32 - place)) (2 ^ place) (omega arith) (omega arith) in
    omega (arith, split, much)

-- the number above the low bits of a number
pub high_bits : (n low high : ℕ) → n < 2 ^ (low + high) → n / 2 ^ low < 2 ^ high
high_bits n low high small = (div-lt_iff_lt-mul (pow_pos low)).1 (omega (arith, pow-add 2 low high))

-- the parts of a word with some bits replaced, and as a machine computes them
pub record Parts (place width n word : ℕ) : Type 0 where
  pub high : word / 2 ^ (place + width) * 2 ^ (place + width) % 4294967296 ≡ word / 2 ^ (place + width) * 2 ^ (place + width)
  pub middle : n * 2 ^ place % 4294967296 ≡ n * 2 ^ place
  pub low : 1 * 2 ^ place % 4294967296 ≡ 2 ^ place
  pub rest : word % 2 ^ place < 2 ^ place
  pub room : word / 2 ^ (place + width) * 2 ^ (place + width) + n * 2 ^ place + 2 ^ place ≤ 2 ^ 32

pub parts : (place width n word : ℕ) → place + width < 32 → n < 2 ^ width → word < 2 ^ 32 → Parts place width n word
parts place width n word inside small fits =
    let middle = below_end place width n small in
    let high = above_place (place + width) word (omega arith) fits in
    record {
      high = mod-eq_of_lt (omega (arith, high, pow_pos (place + width)));
      middle = mod-eq_of_lt (omega (arith, high, middle, pow_pos place));
      low = one_shl place 32 (omega arith);
      rest = mod_below word (2 ^ place) (pow_pos place);
      room = omega (arith, high, middle);
    }
