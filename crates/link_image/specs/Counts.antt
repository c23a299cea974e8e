-- Numbers below another.
use Rattle.std.specs.Prelude.{ℕ, nat_lt, List, length, filter}

-- how many numbers are below a bound
abbrev pub count_below : ℕ → List ℕ → ℕ
count_below bound ns = length (filter (λ n. nat_lt n bound) ns)
