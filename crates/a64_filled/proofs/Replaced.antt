-- The bits of a word with a number in its operand: those of the operand are the number's, all others stay.
use Rattle.std.proofs.Common.{◌≡◌, ℕ, ◌+◌, ◌-◌, ◌*◌, ◌/◌, ◌%◌, ◌^◌, ◌<◌, ◌≤◌, ◌⊎◌, inl, inr, Bool, true, nat_le, ◌&&◌, ◌||◌, sym, ap, ◌∙◌, arith}
use Rattle.std.proofs.Math.Nat.{div-lt_iff_lt-mul, mul_comm, mul_assoc, add-mul}
use Rattle.std.proofs.Math.Pow.{mod-mod-pow}
use Rattle.std.proofs.lemmas.Bool.{and_parts, or_cases, leb-true}
use Rattle.std.proofs.lemmas.Nat.{pow-add, pow_pos, mul-le, mod_below, field_of, shr-shr, shr_high, mod_low}
use Rattle.a64_inst.specs.declared.kind.Bits.{Bits}
use Rattle.a64_inst.specs.declared.kind.Operand.{Operand}
use Rattle.a64_inst.specs.Fitting.{with_bits, with_operand}
use Rattle.a64_inst.specs.Parts.{bits_at}

-- a number of so many bits, and what is below it
below_end : (place width n rest : ℕ) → n < 2 ^ width → rest < 2 ^ place → n * 2 ^ place + rest < 2 ^ (place + width)
below_end place width n rest small low =
    let much : (n + 1) * 2 ^ place ≤ 2 ^ width * 2 ^ place = mul-le (n + 1) (2 ^ place) (2 ^ width) (2 ^ place) (omega arith) (omega arith) in
    omega (arith, pow-add 2 place width, much)

-- a word above bits that are replaced
high_stays : (place width n word : ℕ) → n < 2 ^ width → (word / 2 ^ (place + width) * 2 ^ (place + width) + n * 2 ^ place + word % 2 ^ place) / 2 ^ (place + width) ≡ word / 2 ^ (place + width)
high_stays place width n word small =
    let low = below_end place width n (word % 2 ^ place) small (mod_below word (2 ^ place) (pow_pos place)) in
    let grouped : word / 2 ^ (place + width) * 2 ^ (place + width) + n * 2 ^ place + word % 2 ^ place ≡ word / 2 ^ (place + width) * 2 ^ (place + width) + (n * 2 ^ place + word % 2 ^ place) = omega arith in
    ap (λ (x : ℕ). x / 2 ^ (place + width)) grouped ∙ shr_high (word / 2 ^ (place + width)) (place + width) (n * 2 ^ place + word % 2 ^ place) low

-- the part above the low bits, as a multiple
lifted : (place width a n rest : ℕ) → a * 2 ^ (place + width) + n * 2 ^ place + rest ≡ (a * 2 ^ width + n) * 2 ^ place + rest
lifted place width a n rest =
    let power = pow-add 2 place width in
    let turned : a * 2 ^ (place + width) ≡ a * 2 ^ width * 2 ^ place = ap (λ (x : ℕ). a * x) (power ∙ mul_comm (2 ^ place) (2 ^ width)) ∙ sym (mul_assoc a (2 ^ width) (2 ^ place)) in
    let spread : (a * 2 ^ width + n) * 2 ^ place ≡ a * 2 ^ width * 2 ^ place + n * 2 ^ place = add-mul (a * 2 ^ width) n (2 ^ place) in
    omega (arith, turned, spread)

-- and below them
low_stays : (place width n word : ℕ) → (word / 2 ^ (place + width) * 2 ^ (place + width) + n * 2 ^ place + word % 2 ^ place) % 2 ^ place ≡ word % 2 ^ place
low_stays place width n word =
    ap (λ (x : ℕ). x % 2 ^ place) (lifted place width (word / 2 ^ (place + width)) n (word % 2 ^ place))
    ∙ mod_low (word / 2 ^ (place + width) * 2 ^ width + n) place (word % 2 ^ place) (mod_below word (2 ^ place) (pow_pos place))

-- the bits that are replaced
middle_is : (place width n word : ℕ) → n < 2 ^ width → (word / 2 ^ (place + width) * 2 ^ (place + width) + n * 2 ^ place + word % 2 ^ place) / 2 ^ place % 2 ^ width ≡ n
middle_is place width n word small =
    ap (λ (x : ℕ). x / 2 ^ place % 2 ^ width) (lifted place width (word / 2 ^ (place + width)) n (word % 2 ^ place))
    ∙ ap (λ (x : ℕ). x % 2 ^ width) (shr_high (word / 2 ^ (place + width) * 2 ^ width + n) place (word % 2 ^ place) (mod_below word (2 ^ place) (pow_pos place)))
    ∙ mod_low (word / 2 ^ (place + width)) width n small

-- bits from a place on or below it depend on what is there alone
above_alike : (end place width a b : ℕ) → a / 2 ^ end ≡ b / 2 ^ end → end ≤ place → bits_at place width a ≡ bits_at place width b
above_alike end place width a b e h =
    let split : end + (place - end) ≡ place = omega arith in
    let shifted : (x : ℕ) → x / 2 ^ place ≡ x / 2 ^ end / 2 ^ (place - end) = λ x. sym (shr-shr x end (place - end) ∙ ap (λ (k : ℕ). x / 2 ^ k) split) in
    ap (λ (x : ℕ). x % 2 ^ width) (shifted a ∙ (ap (λ (x : ℕ). x / 2 ^ (place - end)) e ∙ sym (shifted b)))

below_alike : (start place width a b : ℕ) → a % 2 ^ start ≡ b % 2 ^ start → place + width ≤ start → bits_at place width a ≡ bits_at place width b
below_alike start place width a b e h =
    let split : start - (width + place) + (width + place) ≡ start = omega arith in
    let low : (x : ℕ) → x % 2 ^ start % 2 ^ (width + place) ≡ x % 2 ^ (width + place) = λ x. sym (ap (λ (k : ℕ). x % 2 ^ k % 2 ^ (width + place)) split) ∙ mod-mod-pow x (start - (width + place)) (width + place) in
    let bits : (x : ℕ) → bits_at place width x ≡ x % 2 ^ start % 2 ^ (width + place) / 2 ^ place = λ x. sym (field_of x width place) ∙ sym (ap (λ (y : ℕ). y / 2 ^ place) (low x)) in
    bits a ∙ (ap (λ (y : ℕ). y % 2 ^ (width + place) / 2 ^ place) e ∙ sym (bits b))

-- ---- one run of bits

-- so many bits at a place are none of these
abbrev pub is_clear : Bits → ℕ → ℕ → Bool
is_clear b place width = nat_le (b.place + b.width) place || nat_le (place + width) b.place

bits_stay : (b : Bits) (n word place width : ℕ) → n < 2 ^ b.width → is_clear b place width ≡ true → bits_at place width (with_bits b n word) ≡ bits_at place width word
bits_stay b n word place width small h = at (or_cases (nat_le (b.place + b.width) place) (nat_le (place + width) b.place) h)
  where
    at : (nat_le (b.place + b.width) place ≡ true) ⊎ (nat_le (place + width) b.place ≡ true) → bits_at place width (with_bits b n word) ≡ bits_at place width word
    at (inl e) = above_alike (b.place + b.width) place width (with_bits b n word) word (high_stays b.place b.width n word small) (leb-true _ _ e)
    at (inr e) = below_alike b.place place width (with_bits b n word) word (low_stays b.place b.width n word) (leb-true _ _ e)

-- ---- an operand

abbrev pub is_outside : Operand → ℕ → ℕ → Bool
is_outside o place width = is_clear o.low place width && is_clear o.high place width

low_part : (n k : ℕ) → n % 2 ^ k < 2 ^ k
low_part n k = mod_below n (2 ^ k) (pow_pos k)

high_part : (n low high : ℕ) → n < 2 ^ (low + high) → n / 2 ^ low < 2 ^ high
high_part n low high small = (div-lt_iff_lt-mul (pow_pos low)).1 (omega (arith, pow-add 2 low high))

pub others_stay : (o : Operand) (n word place width : ℕ) → n < 2 ^ (o.low.width + o.high.width) → is_outside o place width ≡ true → bits_at place width (with_operand o n word) ≡ bits_at place width word
others_stay o n word place width small h =
    let both = and_parts (is_clear o.low place width) (is_clear o.high place width) h in
    bits_stay o.high (n / 2 ^ o.low.width) (with_bits o.low (n % 2 ^ o.low.width) word) place width (high_part n o.low.width o.high.width small) both.1
    ∙ bits_stay o.low (n % 2 ^ o.low.width) word place width (low_part n o.low.width) both.0

pub low_is : (o : Operand) (n word : ℕ) → n < 2 ^ (o.low.width + o.high.width) → is_clear o.high o.low.place o.low.width ≡ true → bits_at o.low.place o.low.width (with_operand o n word) ≡ n % 2 ^ o.low.width
low_is o n word small h =
    bits_stay o.high (n / 2 ^ o.low.width) (with_bits o.low (n % 2 ^ o.low.width) word) o.low.place o.low.width (high_part n o.low.width o.high.width small) h
    ∙ middle_is o.low.place o.low.width (n % 2 ^ o.low.width) word (low_part n o.low.width)

pub high_is : (o : Operand) (n word : ℕ) → n < 2 ^ (o.low.width + o.high.width) → bits_at o.high.place o.high.width (with_operand o n word) ≡ n / 2 ^ o.low.width
high_is o n word small = middle_is o.high.place o.high.width (n / 2 ^ o.low.width) (with_bits o.low (n % 2 ^ o.low.width) word) (high_part n o.low.width o.high.width small)
