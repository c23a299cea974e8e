-- Where the intervals of a module and the places in them lie.
use Rattle.std.proofs.Common.{◌≡◌, ℕ, zero, suc, ◌+◌, ◌*◌, ◌/◌, ◌%◌, ◌^◌, ◌<◌, ◌≤◌, List, [], ◌∷◌, ◌++◌, map, sum_by, sym, ap, subst, ◌∙◌, arith}
use Rattle.std.specs.List.{AllByRecursion}
use Rattle.std.proofs.Math.Nat.{div-add-mod, mul-add-mod_self_left, mul_assoc, pow-suc}
use Rattle.std.proofs.lemmas.List.Sums.{sum_by-append}
use Rattle.asm_modules.specs.declared.module.AsmAt.{AsmAt}
use Rattle.asm_modules.specs.declared.module.AsmAt.TheVariants as ats
use Rattle.asm_modules.specs.declared.module.AsmInterval.{AsmInterval}
use Rattle.asm_modules.specs.declared.module.AsmLabel.{AsmLabel}
use Rattle.asm_modules.specs.declared.module.AsmModule.{AsmModule}
use Rattle.asm_modules.specs.Places.{item_size}
use Rattle.asm_modules.specs.Valid.{asm_ok, interval_size, IsAlignment, IsBoundary, IsEntered, IsInterval, IsLabelOf, IsPlaced}
use Rattle.sym_expr.specs.declared.layout.Layout.{Layout}
use Rattle.sym_expr.specs.Layouts.{accepted, address_of, place_in, placed as placed_spot, placed_stack, IsAligned, IsInside}
use Rattle.asm_link.specs.Kept.{value_by, FitsBy}
use Rattle.asm_link.specs.Shaping.{shape_asm, spot_of}
use Rattle.asm_link.specs.Values.{at_value}
use Rattle.asm_link.proofs.Lists.{all_parts}

-- an interval ends at 2 ^ 47 or before
abbrev pub Fits : Layout → AsmInterval → Type 0
Fits l i = address_of l i.uuid + interval_size i ≤ 2 ^ 47

fits_each : (l : Layout) (is : List AsmInterval) → AllByRecursion IsInside (map (placed_spot l) (map spot_of is)) → AllByRecursion (Fits l) is
fits_each l [] all = tt
fits_each l (i ∷ is) all = (all.0.high, fits_each l is all.1)

pub all_fit : (l : Layout) (m : AsmModule) → accepted l (shape_asm m) → AllByRecursion (Fits l) m.intervals
all_fit l m laid = fits_each l m.intervals (all_parts IsInside (map (placed_spot l) (map spot_of m.intervals)) (placed_stack l ∷ []) laid.inside).0

-- an interval lies on a multiple of its alignment
abbrev pub OnItsMultiple : Layout → AsmInterval → Type 0
OnItsMultiple l i = address_of l i.uuid % i.align ≡ 0

aligned_each : (l : Layout) (is : List AsmInterval) → AllByRecursion IsAligned (map (placed_spot l) (map spot_of is)) → AllByRecursion (OnItsMultiple l) is
aligned_each l [] all = tt
aligned_each l (i ∷ is) all = (all.0, aligned_each l is all.1)

pub all_aligned : (l : Layout) (m : AsmModule) → accepted l (shape_asm m) → AllByRecursion (OnItsMultiple l) m.intervals
all_aligned l m laid = aligned_each l m.intervals (all_parts IsAligned (map (placed_spot l) (map spot_of m.intervals)) (placed_stack l ∷ []) laid.aligned).0

-- what holds of all intervals holds of one that is there
there_has : (P : AsmInterval → Type 0) (is before behind : List AsmInterval) (i : AsmInterval) → is ≡ before ++ i ∷ behind → AllByRecursion P is → P i
there_has P is before behind i split all = (all_parts P before (i ∷ behind) (subst (AllByRecursion P) split all)).1.0

boundary_most : (offset : ℕ) (i : AsmInterval) → IsBoundary offset i → offset ≤ interval_size i
boundary_most offset i (front, rest, split, at) =
    let whole = ap (sum_by item_size) split ∙ sum_by-append item_size front rest in omega arith

-- a place has an address below 2 ^ 64
pub place_low : (l : Layout) (m : AsmModule) → accepted l (shape_asm m) → (at : AsmAt) → IsPlaced m.intervals at → value_by (place_in l.places) at < 2 ^ 64
place_low l m laid (ats.Absolute value) is = is
place_low l m laid (ats.Inside uuid offset) (before, i, behind, split, named, bound) =
    let fits = there_has (Fits l) m.intervals before behind i split (all_fit l m laid) in
    let within = boundary_most offset i bound in
    let same : address_of l i.uuid ≡ address_of l uuid = ap (address_of l) named in
    omega arith

pub labels_low : (l : Layout) (m : AsmModule) → asm_ok m → accepted l (shape_asm m) → AllByRecursion (FitsBy (place_in l.places)) m.labels
labels_low l m ok laid = each m.labels ok.labels
  where
    each : (xs : List AsmLabel) → AllByRecursion (IsLabelOf m.intervals) xs → AllByRecursion (FitsBy (place_in l.places)) xs
    each [] all = tt
    each (x ∷ xs) all = (place_low l m laid x.at all.0.placed, each xs all.1)

-- the entry is a place
pub entered_placed : (is : List AsmInterval) (at : AsmAt) → IsEntered is at → IsPlaced is at
entered_placed is (ats.Absolute value) h = absurd h
entered_placed is (ats.Inside uuid offset) (before, i, behind, split, named, (four, most, bound)) = (before, i, behind, split, named, bound)

-- ---- the entry is on a multiple of 4

-- a multiple of a multiple of 4 is one
fours : (n m : ℕ) → n % m ≡ 0 → m % 4 ≡ 0 → n % 4 ≡ 0
fours n m whole four =
    let outer : m * (n / m) ≡ n = let d = div-add-mod n m in omega arith in
    let inner : 4 * (m / 4) ≡ m = let d = div-add-mod m 4 in omega arith in
    let both : 4 * (m / 4 * (n / m)) ≡ n = sym (mul_assoc 4 (m / 4) (n / m)) ∙ ap (λ k. k * (n / m)) inner ∙ outer in
    let zero_more : 4 * (m / 4 * (n / m)) + 0 ≡ n = omega arith in
    ap (λ k. k % 4) (sym zero_more) ∙ mul-add-mod_self_left 4 (m / 4 * (n / m)) 0

power_fours : (k : ℕ) → 2 ^ suc (suc k) % 4 ≡ 0
power_fours k =
    let e : 2 ^ suc (suc k) ≡ 4 * 2 ^ k = let a = pow-suc 2 (suc k) in let b = pow-suc 2 k in omega arith in
    let zero_more : 4 * 2 ^ k + 0 ≡ 2 ^ suc (suc k) = omega arith in
    ap (λ n. n % 4) (sym zero_more) ∙ mul-add-mod_self_left 4 (2 ^ k) 0

alignment_fours : (n : ℕ) → IsAlignment n → 4 ≤ n → n % 4 ≡ 0
alignment_fours n (zero, le, e) most = absurd (omega arith)
alignment_fours n (suc zero, le, e) most = absurd (omega arith)
alignment_fours n (suc (suc k), le, e) most = ap (λ m. m % 4) e ∙ power_fours k

abbrev HasAlignment : AsmInterval → Type 0
HasAlignment i = IsAlignment i.align

alignments : (is : List AsmInterval) → AllByRecursion IsInterval is → AllByRecursion HasAlignment is
alignments [] all = tt
alignments (i ∷ is) all = (all.0.align, alignments is all.1)

pub entry_on_fours : (l : Layout) (m : AsmModule) → asm_ok m → accepted l (shape_asm m) → (at : AsmAt) → IsEntered m.intervals at → at_value l at % 4 ≡ 0
entry_on_fours l m ok laid (ats.Absolute value) h = absurd h
entry_on_fours l m ok laid (ats.Inside uuid offset) (before, i, behind, split, named, (four, most, bound)) =
    let align = there_has HasAlignment m.intervals before behind i split (alignments m.intervals ok.intervals) in
    let aligned = there_has (OnItsMultiple l) m.intervals before behind i split (all_aligned l m laid) in
    let start : address_of l i.uuid % 4 ≡ 0 = fours (address_of l i.uuid) i.align aligned (alignment_fours i.align align most) in
    let same : address_of l i.uuid ≡ address_of l uuid = ap (address_of l) named in
    omega arith
