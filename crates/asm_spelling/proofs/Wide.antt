-- Numbers moved by 32 bits and more.
use Rattle.std.proofs.Common.{◌≡◌, ℕ, ◌+◌, ◌-◌, ◌*◌, ◌/◌, ◌%◌, ◌^◌, ◌<◌, ◌≤◌, sym, ap, ◌∙◌, arith}
use Rattle.std.proofs.Math.Nat.{mod-eq_of_lt, div-eq_of_lt, mul-mod_left, mul_assoc}
use Rattle.std.proofs.lemmas.Nat.{pow-add}
use Rattle.std.proofs.Math.Pow.{pow_mono}

below : (n k : ℕ) → n < 2 ^ 32 → 32 ≤ k → n < 2 ^ k
below n k small far =
    let most : 2 ^ 32 ≤ 2 ^ k = pow_mono far in
    omega arith

pub mod_far : (n k : ℕ) → n < 2 ^ 32 → 32 ≤ k → n % 2 ^ k ≡ n
mod_far n k small far = mod-eq_of_lt (below n k small far)

pub div_far : (n k : ℕ) → n < 2 ^ 32 → 32 ≤ k → n / 2 ^ k ≡ 0
div_far n k small far = div-eq_of_lt (below n k small far)

pub placed_far : (n k : ℕ) → 32 ≤ k → n * 2 ^ k % 2 ^ 32 ≡ 0
placed_far n k far =
    let split : k ≡ k - 32 + 32 = omega arith in
    let whole : n * 2 ^ k ≡ n * 2 ^ (k - 32) * 2 ^ 32 = ap (λ (j : ℕ). n * 2 ^ j) split ∙ ap (λ (p : ℕ). n * p) (pow-add 2 (k - 32) 32) ∙ sym (mul_assoc n (2 ^ (k - 32)) (2 ^ 32)) in
    ap (λ (m : ℕ). m % 2 ^ 32) whole ∙ mul-mod_left (n * 2 ^ (k - 32)) (2 ^ 32)
