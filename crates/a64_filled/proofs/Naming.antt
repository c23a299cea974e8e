-- The operand that fits names the target.
use Rattle.std.proofs.Common.{◌≡◌, ℕ, suc, ◌+◌, ◌-◌, ◌*◌, ◌/◌, ◌%◌, ◌^◌, ◌<◌, ◌≤◌, ℤ, pos, negsuc, Bool, true, false, not, nat_le, Result, Ok, Err, refl, sym, ap, ◌∙◌, arith}
use Rattle.std.specs.Prelude.{◌-ℤ◌, if◌then◌else◌}
use Rattle.std.proofs.Math.Nat.{mod-eq_of_lt, div-lt_iff_lt-mul, div-le_self, add-mul}
use Rattle.std.proofs.lemmas.Bool.{and_parts, eqb-true, leb-true, cond-true, cond-false, le-leb, lt-leb}
use Rattle.std.proofs.lemmas.Int.{ints}
use Rattle.std.proofs.lemmas.Nat.{mod_below, div-add-mod'}
use Rattle.a64_inst.specs.declared.filling.FitFault.{FitFault}
use Rattle.a64_inst.specs.declared.filling.FitFault.TheVariants.{Range, Unaligned}
use Rattle.a64_inst.specs.declared.kind.Kind.{Kind}
use Rattle.a64_inst.specs.declared.kind.Kind.TheVariants.{Rel26, Rel19, Rel14, Adr, Page, Low12}
use Rattle.a64_inst.specs.declared.kind.Operand.{Operand}
use Rattle.a64_inst.specs.Fitting.{fit, is_in_range, is_aligned, operand_value, units_of, with_operand, page_of}
use Rattle.a64_inst.specs.Kinds.{operand}
use Rattle.a64_inst.specs.Numbers.{sign_extended}
use Rattle.a64_filled.specs.Named.{named, part_named}

-- ---- numbers with their sign

-- a number of so many bits, and its upper half
pub record IsHalved (bits : ℕ) : Type 0 where
  pub halves : 2 ^ (bits - 1) + 2 ^ (bits - 1) ≡ 2 ^ bits
  pub small : 2 ^ bits ≤ 2 ^ 64

lower_half : (bits n : ℕ) → IsHalved bits → n < 2 ^ (bits - 1) → sign_extended bits 64 n ≡ n
lower_half bits n h below =
    let halves = h.halves in
    let same : n % 2 ^ bits ≡ n = mod-eq_of_lt (omega (arith, halves)) in
    cond-false (nat_le (2 ^ (bits - 1)) (n % 2 ^ bits)) (n % 2 ^ bits + (2 ^ 64 - 2 ^ bits)) (n % 2 ^ bits) (lt-leb (2 ^ (bits - 1)) (n % 2 ^ bits) (omega (arith, same))) ∙ same

upper_half : (bits n : ℕ) → IsHalved bits → 2 ^ (bits - 1) ≤ n → n < 2 ^ bits → sign_extended bits 64 n ≡ n + (2 ^ 64 - 2 ^ bits)
upper_half bits n h above below =
    let same : n % 2 ^ bits ≡ n = mod-eq_of_lt below in
    cond-true (nat_le (2 ^ (bits - 1)) (n % 2 ^ bits)) (n % 2 ^ bits + (2 ^ 64 - 2 ^ bits)) (n % 2 ^ bits) (le-leb (2 ^ (bits - 1)) (n % 2 ^ bits) (omega (arith, same)))
    ∙ ap (λ (x : ℕ). x + (2 ^ 64 - 2 ^ bits)) same

-- ---- distances

-- numbers of so many bits count units, as many as numbers of more bits
pub record AreUnits (unit width bits : ℕ) : Type 0 where
  pub some : 0 < unit
  pub all : 2 ^ width * unit ≡ 2 ^ bits
  pub halved : IsHalved bits

forward : (unit width bits a place target : ℕ) → AreUnits unit width bits → a % unit ≡ 0 → a < 2 ^ (bits - 1) → target ≡ place + a → target < 2 ^ 64 → (place + sign_extended bits 64 (a / unit % 2 ^ width * unit)) % 2 ^ 64 ≡ target
forward unit width bits a place target h rest below sum small =
    let halves = h.halved.halves in
    let all = h.all in
    let few : a / unit < 2 ^ width = (div-lt_iff_lt-mul h.some).1 (omega (arith, halves, all)) in
    let whole = div-add-mod' a unit in
    let back : a / unit % 2 ^ width * unit ≡ a = ap (λ (x : ℕ). x * unit) (mod-eq_of_lt few) ∙ omega (arith, whole, rest) in
    let taken : sign_extended bits 64 (a / unit % 2 ^ width * unit) ≡ a = ap (λ (x : ℕ). sign_extended bits 64 x) back ∙ lower_half bits a h.halved below in
    ap (λ (x : ℕ). (place + x) % 2 ^ 64) taken ∙ ap (λ (x : ℕ). x % 2 ^ 64) (sym sum) ∙ mod-eq_of_lt small

-- what is left of all units
left_units : (n q unit all : ℕ) → n * unit ≡ all → q < n → (n - 1 - q) * unit + q * unit + unit ≡ all
left_units n q unit all e h =
    let split : n - 1 - q + q + 1 ≡ n = omega arith in
    let spread : (n - 1 - q + q + 1) * unit ≡ (n - 1 - q + q) * unit + 1 * unit = add-mul (n - 1 - q + q) 1 unit in
    let again : (n - 1 - q + q) * unit ≡ (n - 1 - q) * unit + q * unit = add-mul (n - 1 - q) q unit in
    let whole : (n - 1 - q + q + 1) * unit ≡ n * unit = ap (λ (x : ℕ). x * unit) split in
    omega (arith, spread, again, whole, e)

backward : (unit width bits a place target : ℕ) → AreUnits unit width bits → unit - 1 - a % unit ≡ 0 → suc a ≤ 2 ^ (bits - 1) → place ≡ target + suc a → place < 2 ^ 64
    → (place + sign_extended bits 64 ((2 ^ width - 1 - a / unit % 2 ^ width) * unit)) % 2 ^ 64 ≡ target
backward unit width bits a place target h rest below sum small =
    let halves = h.halved.halves in
    let all = h.all in
    let few : a / unit < 2 ^ width = (div-lt_iff_lt-mul h.some).1 (omega (arith, halves, all)) in
    let same : a / unit % 2 ^ width ≡ a / unit = mod-eq_of_lt few in
    let whole = div-add-mod' a unit in
    let most = mod_below a unit h.some in
    let left = left_units (2 ^ width) (a / unit) unit (2 ^ bits) all few in
    let back : (2 ^ width - 1 - a / unit % 2 ^ width) * unit ≡ 2 ^ bits - suc a = ap (λ (x : ℕ). (2 ^ width - 1 - x) * unit) same ∙ omega (arith, whole, rest, most, left, h.some) in
    let room = h.halved.small in
    let taken : sign_extended bits 64 ((2 ^ width - 1 - a / unit % 2 ^ width) * unit) ≡ 2 ^ bits - suc a + (2 ^ 64 - 2 ^ bits) =
    ap (λ (x : ℕ). sign_extended bits 64 x) back ∙ upper_half bits (2 ^ bits - suc a) h.halved (omega (arith, halves, below)) (omega (arith, halves, below)) in
    let turned : place + (2 ^ bits - suc a + (2 ^ 64 - 2 ^ bits)) ≡ target + 2 ^ 64 = omega (arith, halves, below, room, sum) in
    ap (λ (x : ℕ). (place + x) % 2 ^ 64) taken ∙ ap (λ (x : ℕ). x % 2 ^ 64) turned ∙ omega arith

-- a distance in the range that is a multiple of the unit
record IsDistance (o : Operand) (bits : ℕ) : Type 0 where
  units : AreUnits o.unit (o.low.width + o.high.width) bits
  most : (a : ℕ) → is_in_range o (pos a) ≡ true → a < 2 ^ (bits - 1)
  least : (a : ℕ) → is_in_range o (negsuc a) ≡ true → suc a ≤ 2 ^ (bits - 1)

ahead : (place target a : ℕ) → pos target -ℤ pos place ≡ pos a → target ≡ place + a
ahead place target a e = omega (arith, ints)

behind : (place target a : ℕ) → pos target -ℤ pos place ≡ negsuc a → place ≡ target + suc a
behind place target a e = omega (arith, ints)

reached : (o : Operand) (bits place target : ℕ) (value : ℤ) → IsDistance o bits → pos target -ℤ pos place ≡ value → is_in_range o value ≡ true → is_aligned o value ≡ true → place < 2 ^ 64 → target < 2 ^ 64
    → (place + sign_extended bits 64 (units_of o value * o.unit)) % 2 ^ 64 ≡ target
reached o bits place target (pos a) h e range aligned p t = forward o.unit (o.low.width + o.high.width) bits a place target h.units (eqb-true (a % o.unit) 0 aligned) (h.most a range) (ahead place target a e) t
reached o bits place target (negsuc a) h e range aligned p t = backward o.unit (o.low.width + o.high.width) bits a place target h.units (eqb-true (o.unit - 1 - a % o.unit) 0 aligned) (h.least a range) (behind place target a e) p

-- ---- each kind

halved : (bits : ℕ) → 2 ^ (bits - 1) + 2 ^ (bits - 1) ≡ 2 ^ bits → 2 ^ bits ≤ 2 ^ 64 → IsHalved bits
halved bits e h = record { halves = e; small = h }

rel26 : IsDistance (operand Rel26) 28
rel26 = record {
  units = record { some = omega arith; all = refl; halved = halved 28 refl (omega arith) };
  most = λ a h. let most = leb-true a 134217724 (and_parts true (nat_le a 134217724) h).1 in omega (arith, most);
  least = λ a h. let least = leb-true a 134217727 (and_parts (nat_le a 134217727) true h).0 in omega (arith, least);
}

rel19 : IsDistance (operand Rel19) 21
rel19 = record {
  units = record { some = omega arith; all = refl; halved = halved 21 refl (omega arith) };
  most = λ a h. let most = leb-true a 1048572 (and_parts true (nat_le a 1048572) h).1 in omega (arith, most);
  least = λ a h. let least = leb-true a 1048575 (and_parts (nat_le a 1048575) true h).0 in omega (arith, least);
}

rel14 : IsDistance (operand Rel14) 16
rel14 = record {
  units = record { some = omega arith; all = refl; halved = halved 16 refl (omega arith) };
  most = λ a h. let most = leb-true a 32764 (and_parts true (nat_le a 32764) h).1 in omega (arith, most);
  least = λ a h. let least = leb-true a 32767 (and_parts (nat_le a 32767) true h).0 in omega (arith, least);
}

adr : IsDistance (operand Adr) 21
adr = record {
  units = record { some = omega arith; all = refl; halved = halved 21 refl (omega arith) };
  most = λ a h. let most = leb-true a 1048575 (and_parts true (nat_le a 1048575) h).1 in omega (arith, most);
  least = λ a h. let least = leb-true a 1048575 (and_parts (nat_le a 1048575) true h).0 in omega (arith, least);
}

page : IsDistance (operand Page) 33
page = record {
  units = record { some = omega arith; all = refl; halved = halved 33 refl (omega arith) };
  most = λ a h. let most = leb-true a 4294963200 (and_parts true (nat_le a 4294963200) h).1 in omega (arith, most);
  least = λ a h. let least = leb-true a 4294967295 (and_parts (nat_le a 4294967295) true h).0 in omega (arith, least);
}

low_units : (unit a : ℕ) → a < 4096 → a % unit ≡ 0 → a / unit % 2 ^ 12 * unit ≡ a
low_units unit a small rest =
    let whole = div-add-mod' a unit in
    let few = div-le_self a unit in
    ap (λ (x : ℕ). x * unit) (mod-eq_of_lt (omega (arith, few))) ∙ omega (arith, whole, rest)

page_small : (address : ℕ) → address < 2 ^ 64 → page_of address < 2 ^ 64
page_small address h = omega arith

kinds_name : (kind : Kind) (place target : ℕ) → is_in_range (operand kind) (operand_value kind place target) ≡ true → is_aligned (operand kind) (operand_value kind place target) ≡ true → place < 2 ^ 64 → target < 2 ^ 64
    → named kind place (units_of (operand kind) (operand_value kind place target)) ≡ part_named kind target
kinds_name Rel26 place target range aligned p t = reached (operand Rel26) 28 place target (pos target -ℤ pos place) rel26 refl range aligned p t
kinds_name Rel19 place target range aligned p t = reached (operand Rel19) 21 place target (pos target -ℤ pos place) rel19 refl range aligned p t
kinds_name Rel14 place target range aligned p t = reached (operand Rel14) 16 place target (pos target -ℤ pos place) rel14 refl range aligned p t
kinds_name Adr place target range aligned p t =
    let n : ℕ = units_of (operand Adr) (pos target -ℤ pos place) in
    let once : n ≡ n * 1 = omega arith in
    ap (λ (x : ℕ). (place + sign_extended 21 64 x) % 2 ^ 64) once ∙ reached (operand Adr) 21 place target (pos target -ℤ pos place) adr refl range aligned p t
kinds_name Page place target range aligned p t = reached (operand Page) 33 (page_of place) (page_of target) (pos (page_of target) -ℤ pos (page_of place)) page refl range aligned (page_small place p) (page_small target t)
kinds_name (Low12 unit) place target range aligned p t = low_units unit (target % 4096) (mod_below target 4096 (omega arith)) (eqb-true (target % 4096 % unit) 0 aligned)

-- ---- a word that was filled

err_not : (f : FitFault) (n : ℕ) → ◌≡◌ {A = Result ℕ FitFault} (Err f) (Ok n) → ⊥
err_not f n e = cc

tests_passed : (a b : Bool) (f g : FitFault) (m n : ℕ) → ◌≡◌ {A = Result ℕ FitFault} (if not a then Err f else if not b then Err g else Ok m) (Ok n) → (a ≡ true) × (b ≡ true)
tests_passed true true f g m n e = (refl, refl)
tests_passed true false f g m n e = absurd (err_not g n e)
tests_passed false b f g m n e = absurd (err_not f n e)

pub filled_names : (kind : Kind) (place target word filled : ℕ) → place < 2 ^ 64 → target < 2 ^ 64 → fit kind place target word ≡ Ok filled → named kind place (units_of (operand kind) (operand_value kind place target)) ≡ part_named kind target
filled_names kind place target word filled p t e =
    let passed = tests_passed (is_in_range (operand kind) (operand_value kind place target)) (is_aligned (operand kind) (operand_value kind place target)) (Range (operand_value kind place target)) (Unaligned (operand_value kind place target))
    (with_operand (operand kind) (units_of (operand kind) (operand_value kind place target)) word) filled e in
    kinds_name kind place target passed.0 passed.1 p t
