-- How many bits there are in what a bit field moves.
use Rattle.std.proofs.Common.{◌≡◌, ℕ, Bool, true, false, cond, suc, ◌+◌, ◌-◌, ◌*◌, ◌/◌, ◌%◌, ◌^◌, ◌<◌, ◌≤◌, arith}
use Rattle.std.specs.Prelude.{nat_le}
use Rattle.std.proofs.Math.Pow.{pow_mono}
use Rattle.a64_inst.specs.Numbers.{low, moved_bits, moved_top, moved_place}
use Rattle.std.proofs.Math.Nat.{mul-le-mul_right, div-mul-le_self}
use Rattle.std.proofs.lemmas.Nat.{pow_pos, pow-add, shr_below, mod_below, mul-le, shr_split}

-- bits moved up, with all bits below them, stay below the topmost
pub risen : (x j k : ℕ) → x < 2 ^ j → x * 2 ^ k + 2 ^ k ≤ 2 ^ (j + k)
risen x j k h = let e = pow-add 2 j k in let m : suc x * 2 ^ k ≤ 2 ^ j * 2 ^ k = mul-le-mul_right (2 ^ k) h in omega (arith, e, m)

-- bits above a place, and any below it, stay below the width
pub kept_above : (w top x : ℕ) → top ≤ w → x < 2 ^ w → x / 2 ^ top * 2 ^ top + 2 ^ top ≤ 2 ^ w
kept_above w top x h small =
    let all : w - top + top ≡ w = omega arith in
    let r = risen (x / 2 ^ top) (w - top) top (shr_below x (w - top) top (rw all small)) in
    rw all at r

-- as many of the wholes as fit
pub within : (x d n : ℕ) → x ≤ d → x * (n / d) ≤ n
within x d n h = let a = mul-le x (n / d) d (n / d) h (omega arith) in let b = div-mul-le_self n d in omega (arith, a, b)

-- what a bit field moves, with any bits below it, has no more bits than up to its topmost
room_of : (t : Bool) (w immr imms x : ℕ) → cond t (x / 2 ^ immr % 2 ^ (imms - immr + 1)) (x % 2 ^ (imms + 1) * 2 ^ (w - immr)) + 2 ^ cond t 0 (w - immr) ≤ 2 ^ cond t (imms - immr + 1) (imms + 1 + (w - immr))
room_of true w immr imms x = let m = mod_below (x / 2 ^ immr) (2 ^ (imms - immr + 1)) (pow_pos (imms - immr + 1)) in omega (arith, m)
room_of false w immr imms x = risen (x % 2 ^ (imms + 1)) (imms + 1) (w - immr) (mod_below x (2 ^ (imms + 1)) (pow_pos (imms + 1)))

pub field_room : (w immr imms a : ℕ) → moved_bits w immr imms a + 2 ^ moved_place w immr imms ≤ 2 ^ moved_top w immr imms
field_room w immr imms a = room_of (nat_le immr imms) w immr imms (low w a)

-- a number with its bits up to a place left out, another of that many bits less those below a second place, and bits below that, fit the width
pub joined_fits : (w top place whole moved below : ℕ) → w ≤ 64 → top ≤ w → whole < 2 ^ w → moved + 2 ^ place ≤ 2 ^ top → below < 2 ^ place → whole - whole % 2 ^ top + moved + below < 2 ^ 64
joined_fits w top place whole moved below most h small room low =
    let k = kept_above w top whole h small in
    let s = shr_split whole top in
    let m : 2 ^ w ≤ 2 ^ 64 = pow_mono most in
    omega (arith, k, s, m)
