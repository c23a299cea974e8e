-- Sums and differences of 64 bits.
use Rattle.std.proofs.Common.{◌≡◌, ℕ, suc, ◌+◌, ◌%◌, ◌^◌, ◌<◌, ℤ, pos, negsuc, ap, ◌∙◌, arith}
use Rattle.std.specs.Prelude.{◌-ℤ◌}
use Rattle.std.proofs.Math.Nat.{mod-mod}
use Rattle.std.proofs.lemmas.Int.{ints}
use Rattle.a64_inst.specs.declared.operations.Sum.TheVariants.{Add, Subtract}
use Rattle.a64_inst.specs.Fitting.{page_of}
use Rattle.a64_inst.specs.Numbers.{sum_value}
use Rattle.sym_expr.specs.States.{less}
use Rattle.sym_expr.specs.Symbolic.{wrapped}

pub add_is : (a b : ℕ) → sum_value Add 64 a b ≡ (a + b) % 2 ^ 64
add_is a b = omega arith

pub add_none : (a : ℕ) → a < 2 ^ 64 → sum_value Add 64 a 0 ≡ a
add_none a h = omega arith

pub none_add : (a : ℕ) → a < 2 ^ 64 → sum_value Add 64 0 a ≡ a
none_add a h = omega arith

moved_inside : (a x n : ℕ) → ((a + x) % 2 ^ 64 + n) % 2 ^ 64 ≡ (a + (x + n) % 2 ^ 64) % 2 ^ 64
moved_inside a x n = omega arith

-- an address moves with its offset
pub add_moved : (a x n : ℕ) → sum_value Add 64 ((a + x) % 2 ^ 64) n ≡ (a + (x + n) % 2 ^ 64) % 2 ^ 64
add_moved a x n = add_is ((a + x) % 2 ^ 64) n ∙ moved_inside a x n

pub moved_add : (a x n : ℕ) → sum_value Add 64 n ((a + x) % 2 ^ 64) ≡ (a + (x + n) % 2 ^ 64) % 2 ^ 64
moved_add a x n = omega (arith, add_is n ((a + x) % 2 ^ 64), moved_inside a x n)

-- a difference and its second number give the first
pub add_less : (a b : ℕ) → a < 2 ^ 64 → b < 2 ^ 64 → sum_value Add 64 (less a b) b ≡ a
add_less a b h k = omega arith

pub less_add : (a b : ℕ) → a < 2 ^ 64 → b < 2 ^ 64 → sum_value Add 64 b (less a b) ≡ a
less_add a b h k = omega arith

sub_is : (a b : ℕ) → sum_value Subtract 64 a b ≡ less (a % 2 ^ 64) (b % 2 ^ 64)
sub_is a b = omega arith

less_moved : (a x y : ℕ) → y < 2 ^ 64 → less ((a + x) % 2 ^ 64) y ≡ (a + less x y) % 2 ^ 64
less_moved a x y h = omega arith

pub sub_moved : (a x n : ℕ) → sum_value Subtract 64 ((a + x) % 2 ^ 64) n ≡ (a + less x (n % 2 ^ 64)) % 2 ^ 64
sub_moved a x n =
    sub_is ((a + x) % 2 ^ 64) n ∙ ap (λ (y : ℕ). less y (n % 2 ^ 64)) (mod-mod (a + x) (2 ^ 64)) ∙ less_moved a x (n % 2 ^ 64) (omega arith)

-- the difference of two addresses is that of their offsets
pub sub_offsets : (a x y : ℕ) → x < 2 ^ 64 → y < 2 ^ 64 → sum_value Subtract 64 ((a + x) % 2 ^ 64) ((a + y) % 2 ^ 64) ≡ less x y
sub_offsets a x y h k = omega arith

pub sub_same : (a : ℕ) → sum_value Subtract 64 a a ≡ 0
sub_same a = omega arith

pub less_small : (a b : ℕ) → less a b < 2 ^ 64
less_small a b = omega arith

-- a distance modulo 2 ^ 64
pub wrapped_less : (a b : ℕ) (z : ℤ) → a < 2 ^ 64 → b < 2 ^ 64 → pos a -ℤ pos b ≡ z → wrapped 64 z ≡ less a b
wrapped_less a b (pos n) h k e = let d : a ≡ b + n = omega (arith, ints, e) in omega (arith, d)
wrapped_less a b (negsuc n) h k e = let d : b ≡ a + suc n = omega (arith, ints, e) in omega (arith, d)

pub page_small : (a : ℕ) → a < 2 ^ 64 → page_of a < 2 ^ 64
page_small a h = omega arith

-- a page and the bytes from its start
pub page_join : (a : ℕ) → a < 2 ^ 64 → sum_value Add 64 (page_of a) (a % 4096) ≡ a
page_join a h = omega arith
