-- The least number from another on that leaves a remainder.
use Rattle.std.proofs.Common.{◌≡◌, ◌⊎◌, ℕ, ◌+◌, ◌-◌, ◌*◌, ◌/◌, ◌%◌, ◌<◌, ◌≤◌, ap, ◌∙◌, arith, inl, inr}
use Rattle.std.proofs.Math.Nat.{div-add-mod, mul-add-mod_self_left, add-mod_left, mod-eq_of_lt, mod-lt, mul-le-mul_left, mul_comm}
use Rattle.std.proofs.lemmas.Nat.{le-div}
use Rattle.std.proofs.lemmas.Bool.{cases_lt}
use Rattle.sym_expr.specs.Layouts.{least_from}

-- a multiple of m and the remainder, the same multiple as in n or the next
parts : (n m r : ℕ) → r < m → ((least_from n m r ≡ m * (n / m) + r) × (n % m ≤ r)) ⊎ ((least_from n m r ≡ m * (n / m + 1) + r) × (r < n % m))
parts n m r small =
    let whole = div-add-mod n m in
    let below : n % m < m = mod-lt n (omega arith) in
    elim (cases_lt r (n % m)) [
      | inl over ↦
          let step : (r + (m - n % m)) % m ≡ r + (m - n % m) = mod-eq_of_lt (omega arith) in
          inr (ap (λ d. n + d) step ∙ omega arith, over)
      | inr under ↦
          let sum : r + (m - n % m) ≡ m + (r - n % m) = omega arith in
          let step : (r + (m - n % m)) % m ≡ r - n % m = ap (λ d. d % m) sum ∙ add-mod_left m (r - n % m) ∙ mod-eq_of_lt (omega arith) in
          inl (ap (λ d. n + d) step ∙ omega arith, under)
    ]

pub least_remainder : (n m r : ℕ) → r < m → least_from n m r % m ≡ r
least_remainder n m r small =
    let same : (b : ℕ) → (m * b + r) % m ≡ r = λ b. mul-add-mod_self_left m b r ∙ mod-eq_of_lt small in
    elim (parts n m r small) [ inl p ↦ ap (λ x. x % m) p.0 ∙ same (n / m) | inr p ↦ ap (λ x. x % m) p.0 ∙ same (n / m + 1) ]

pub least_is : (n m r x : ℕ) → r < m → n ≤ x → x % m ≡ r → least_from n m r ≤ x
least_is n m r x small le is =
    let whole = div-add-mod x m in
    let from = div-add-mod n m in
    let turned : n / m * m ≡ m * (n / m) = mul_comm (n / m) m in
    let quotients : n / m ≤ x / m = le-div (n / m) x m (omega arith) (omega arith) in
    elim (parts n m r small) [
      | inl p ↦
          let products = mul-le-mul_left m quotients in
          let at = p.0 in omega arith
      | inr p ↦
          let at = p.0 in
          let over = p.1 in
          elim (cases_lt (n / m) (x / m)) [
            | inl more ↦
                let next : n / m + 1 ≤ x / m = omega arith in
                let products = mul-le-mul_left m next in omega arith
            | inr same ↦
                let equal : x / m ≡ n / m = omega arith in
                let products : m * (x / m) ≡ m * (n / m) = ap (λ q. m * q) equal in
                absurd (omega arith)
          ]
    ]
