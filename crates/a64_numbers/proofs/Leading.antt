-- Zeros at the head of a number.
use Rattle.std.proofs.Common.{◌≡◌, ℕ, suc, ◌^◌, ◌<◌, sym, arith}
use Rattle.std.specs.Int.Count.{count_leading_zeros, leading_length, leading_unique}

-- at one bit more there is one more
pub one_more : (k a : ℕ) → a < 2 ^ k → count_leading_zeros (suc k) a ≡ suc (count_leading_zeros k a)
one_more k a h =
    let found = leading_length k a h in
    sym (leading_unique (suc k) a (suc (count_leading_zeros k a)) found.0 (omega (arith, found.1)) found.2 found.3)
