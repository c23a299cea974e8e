-- Powers of two, as shifts make them.
use Rattle.std.proofs.Common.{◌≡◌, ℕ, zero, suc, ◌+◌, ◌-◌, ◌*◌, ◌/◌, ◌%◌, ◌^◌, ◌<◌, ◌≤◌, refl, ap, ◌∙◌, subst, arith}
use Rattle.std.specs.Prelude.{bit_or}
use Rattle.std.specs.Int.Bits.{or_self}
use Rattle.std.proofs.Math.Nat.{pow-suc, mul-mod_left, mod-eq_of_lt, mod_self, div-one, mul-le-mul_right, mul-one, mul_comm}
use Rattle.std.proofs.Math.Pow.{pow_mono}
use Rattle.std.proofs.Math.Arith.{mod-mul}
use Rattle.std.proofs.lemmas.Nat.{pow_pos, pow_below, pow-add, shl-shr, shr_split, shr_below, or_comm, or_shifted, div-mul-add, mod_below}

-- a power is twice the one before
pub double : (k : ℕ) → 1 ≤ k → 2 ^ k ≡ 2 * 2 ^ (k - 1)
double zero some = absurd (omega arith)
double (suc k) some = let e = pow-suc 2 k in let s : suc k - 1 ≡ k = omega arith in rw s (omega (arith, e))

-- a power in two factors
pub factors : (w k : ℕ) → k ≤ w → 2 ^ w ≡ 2 ^ k * 2 ^ (w - k)
factors w k h = let s : k + (w - k) ≡ w = omega arith in subst (λ (x : ℕ). 2 ^ x ≡ 2 ^ k * 2 ^ (w - k)) s (pow-add 2 k (w - k))

-- a shift to the left keeps the low bits
pub lifted : (w k a : ℕ) → k ≤ w → (a * 2 ^ (w - k)) % 2 ^ w ≡ (a % 2 ^ k) * 2 ^ (w - k)
lifted w k a h =
    let split = mod-mul (a * 2 ^ (w - k)) {m = 2 ^ k} {c = 2 ^ (w - k)} (pow_pos k) (pow_pos (w - k)) in
    let part = shl-shr a (w - k) in
    let rest = mul-mod_left a (2 ^ (w - k)) in
    rw (factors w k h) (split ∙ rw (part, rest) (omega arith))

-- a shift to the left in as many bits is a product
pub room : (w k a : ℕ) → k ≤ w → a < 2 ^ k → (a * 2 ^ (w - k)) % 2 ^ w ≡ a * 2 ^ (w - k)
room w k a h small = lifted w k a h ∙ ap (λ (x : ℕ). x * 2 ^ (w - k)) (mod-eq_of_lt small)

-- a number turned round to the right
pub rotation : (w k a : ℕ) → k < w → a < 2 ^ w → bit_or (a / 2 ^ (k % w)) (a * 2 ^ ((w - k % w) % w) % 2 ^ w) ≡ a % 2 ^ w / 2 ^ k + a % 2 ^ w * 2 ^ (w - k) % 2 ^ w
rotation w zero a h small =
    let none : zero % w ≡ zero = mod-eq_of_lt h in
    let all : w - zero ≡ w = omega arith in
    let same : (w - zero) % w ≡ zero = rw all (mod_self w) in
    let whole : a % 2 ^ w ≡ a = mod-eq_of_lt small in
    let gone : a * 2 ^ w % 2 ^ w ≡ zero = mul-mod_left a (2 ^ w) in
    rw (none, same, all) (simp (div-one, mul-one, whole, or_self, gone) (omega arith))
rotation w (suc k) a h small =
    let here : suc k % w ≡ suc k = mod-eq_of_lt h in
    let there : (w - suc k) % w ≡ w - suc k = mod-eq_of_lt (omega arith) in
    let whole : a % 2 ^ w ≡ a = mod-eq_of_lt small in
    let all : w - suc k + suc k ≡ w = omega arith in
    let below : a / 2 ^ suc k < 2 ^ (w - suc k) = shr_below a (w - suc k) (suc k) (rw all small) in
    rw (here, there, whole, lifted w (suc k) a (omega arith), or_comm (a / 2 ^ suc k) (a % 2 ^ suc k * 2 ^ (w - suc k)), or_shifted (a % 2 ^ suc k) (w - suc k) (a / 2 ^ suc k) below) (omega arith)

-- the parts of a number turned round
part : (q d m r : ℕ) → r < m → ((q + 1 + d) * m - suc (q * m + r)) / m ≡ d
part q d m r h = let e : (q + 1 + d) * m - suc (q * m + r) ≡ d * m + (m - 1 - r) = omega arith in rw e (div-mul-add d m (m - 1 - r) (omega arith))

-- a shift to the right that copies the top bit
pub copied : (w k a : ℕ) → k ≤ w → a < 2 ^ w → 2 ^ w - suc ((2 ^ w - suc a) / 2 ^ k) ≡ a / 2 ^ k + (2 ^ w - 2 ^ (w - k))
copied w k a h small =
    let all : w - k + k ≡ w = omega arith in
    let below : a / 2 ^ k < 2 ^ (w - k) = shr_below a (w - k) k (rw all small) in
    let d : ℕ = 2 ^ (w - k) - suc (a / 2 ^ k) in
    let high : 2 ^ (w - k) ≡ a / 2 ^ k + 1 + d = omega arith in
    let both : 2 ^ w ≡ (a / 2 ^ k + 1 + d) * 2 ^ k = rw (← high) (factors w k h ∙ mul_comm (2 ^ k) (2 ^ (w - k))) in
    let e : (2 ^ w - suc a) / 2 ^ k ≡ d =
    ap (λ (x : ℕ). x / 2 ^ k) (omega (arith, both, shr_split a k)) ∙ part (a / 2 ^ k) d (2 ^ k) (a % 2 ^ k) (mod_below a (2 ^ k) (pow_pos k)) in
    let most : 2 ^ (w - k) ≤ 2 ^ w = pow_mono (omega arith) in
    rw e (omega arith)

-- ones turned round by no place
pub ones_stay : (size count : ℕ) → count < size → (2 ^ count - 1) % 2 ^ size / 1 + ((2 ^ count - 1) % 2 ^ size * 2 ^ (size - 0)) % 2 ^ size ≡ 2 ^ count - 1
ones_stay size count h =
    let p : 2 ^ count < 2 ^ size = pow_below count size h in
    let q = pow_pos count in
    let whole : (2 ^ count - 1) % 2 ^ size ≡ 2 ^ count - 1 = mod-eq_of_lt (omega arith) in
    let none : size - 0 ≡ size = omega arith in
    let gone : (2 ^ count - 1) * 2 ^ size % 2 ^ size ≡ zero = mul-mod_left (2 ^ count - 1) (2 ^ size) in
    rw (none, whole) (simp (div-one, gone) (omega arith))

-- ones are below a greater power
pub ones_below : (size count : ℕ) → count < size → 2 ^ count - 1 < 2 ^ size
ones_below size count h = let p : 2 ^ count < 2 ^ size = pow_below count size h in omega (arith, p)

-- ones turned round
pub ones_turn : (size count by : ℕ) → count < size → by ≤ size → (2 ^ count - 1) / 2 ^ by + (2 ^ count - 1) % 2 ^ by * 2 ^ (size - by) ≡ (2 ^ count - 1) % 2 ^ size / 2 ^ by + ((2 ^ count - 1) % 2 ^ size * 2 ^ (size - by)) % 2 ^ size
ones_turn size count by h b =
    let p : 2 ^ count < 2 ^ size = pow_below count size h in
    let q = pow_pos count in
    let whole : (2 ^ count - 1) % 2 ^ size ≡ 2 ^ count - 1 = mod-eq_of_lt (omega arith) in
    rw (whole, lifted size by (2 ^ count - 1) b) refl

-- and they have no more bits than the size
pub turned_below : (size by x : ℕ) → by ≤ size → x < 2 ^ size → x / 2 ^ by + x % 2 ^ by * 2 ^ (size - by) < 2 ^ size
turned_below size by x b h =
    let all : size - by + by ≡ size = omega arith in
    let high : x / 2 ^ by < 2 ^ (size - by) = shr_below x (size - by) by (rw all h) in
    let low : suc (x % 2 ^ by) * 2 ^ (size - by) ≤ 2 ^ by * 2 ^ (size - by) = mul-le-mul_right (2 ^ (size - by)) (mod_below x (2 ^ by) (pow_pos by)) in
    let both = factors size by b in
    omega (arith, low, both)
