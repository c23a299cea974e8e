-- What holds at both widths.
use Rattle.std.proofs.Common.{◌≡◌, ℕ, ◌-◌, ◌*◌, ◌%◌, ◌^◌, ◌<◌, ◌≤◌, ◌∙◌, arith}
use Rattle.std.proofs.Math.Nat.{mod-mod}
use Rattle.std.proofs.Math.Pow.{mod-mod-pow}
use Rattle.std.proofs.lemmas.Nat.{mul-mod}
use Rattle.a64_inst.specs.declared.operations.Width.{Width}
use Rattle.a64_inst.specs.declared.operations.Width.TheVariants.{W, X}
use Rattle.a64_inst.specs.Numbers.{bits_of}

-- the low bits of 64 bits of a product are those of the product of the low bits
pub product_low : (w : Width) (a b : ℕ) → (a * b) % 2 ^ 64 % 2 ^ bits_of w ≡ (a % 2 ^ bits_of w * (b % 2 ^ bits_of w)) % 2 ^ bits_of w
product_low W a b = mod-mod-pow (a * b) 32 32 ∙ mul-mod a b (2 ^ 32)
product_low X a b = mod-mod (a * b) (2 ^ 64) ∙ mul-mod a b (2 ^ 64)

-- no width is above 64
pub width_most : (w : Width) → bits_of w ≤ 64
width_most W = omega arith
width_most X = omega arith

-- no number of a width is above the greatest of 64 bits
pub greatest : (w : Width) → 2 ^ bits_of w - 1 < 2 ^ 64
greatest W = omega arith
greatest X = omega arith
