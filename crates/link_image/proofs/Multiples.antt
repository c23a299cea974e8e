-- Code stands on multiples of 4.
use Rattle.std.proofs.Common.{◌≡◌, ℕ, zero, suc, ◌+◌, ◌*◌, ◌/◌, ◌%◌, ◌^◌, ◌<◌, ◌≤◌, Bool, cond, eqb, ◌&&◌, Option, Some, None, List, [], ◌∷◌, length, map, max, refl, sym, ap, subst, ◌∙◌, inl, inr, arith, lit<}
use Rattle.std.specs.List.{AllByRecursion, flat_map}
use Rattle.std.proofs.Math.Nat.{div-add-mod, mul-add-mod_self_left, mul_assoc, pow-suc}
use Rattle.std.proofs.lemmas.Bool.{and_parts, cases_Bool, cases_lt, cond-true, cond-false, eqb-true}
use Rattle.sym_expr.specs.declared.layout.Layout.{Layout}
use Rattle.sym_expr.specs.declared.program.Piece.{Piece}
use Rattle.sym_expr.specs.declared.program.Piece.TheVariants.{Code as CodePiece, Data as DataPiece, Gap}
use Rattle.sym_expr.specs.declared.program.Program.{Program}
use Rattle.sym_expr.specs.declared.program.Stretch.{Stretch}
use Rattle.sym_expr.specs.declared.point.Point.{Point}
use Rattle.sym_expr.specs.Images.{addressed, is_block, point_address}
use Rattle.sym_expr.specs.Layouts.{accepted, address_of, IsAligned, least_from, placed as placed_spot, placed_stack}
use Rattle.sym_expr.specs.Placing.{Placed, greatest, needed, new_size, placed, placed_from, shape_of, spot_of, step_of, stretch_alignment}
use Rattle.sym_expr.specs.Points.{code_size, data_size}
use Rattle.sym_expr.specs.Tables.{common_power, effective}
use Rattle.sym_expr.specs.WellMade.{IsPoint, IsTiled, well_made}
use Rattle.link_image.specs.Ready.{all_addressed, shifted}
use Rattle.link_image.proofs.Lists.{all_append, all_parts, found_has}
use Rattle.link_image.proofs.Lookup.{point_placed}

-- a multiple of a multiple of 4 is one
fours : (n m : ℕ) → n % m ≡ 0 → m % 4 ≡ 0 → n % 4 ≡ 0
fours n m whole four =
    let outer : m * (n / m) ≡ n = let d = div-add-mod n m in omega arith in
    let inner : 4 * (m / 4) ≡ m = let d = div-add-mod m 4 in omega arith in
    let both : 4 * (m / 4 * (n / m)) ≡ n = sym (mul_assoc 4 (m / 4) (n / m)) ∙ ap (λ k. k * (n / m)) inner ∙ outer in
    let zero_more : 4 * (m / 4 * (n / m)) + 0 ≡ n = omega arith in
    ap (λ k. k % 4) (sym zero_more) ∙ mul-add-mod_self_left 4 (m / 4 * (n / m)) 0

power_fours : (k : ℕ) → 2 ^ suc (suc k) % 4 ≡ 0
power_fours k =
    let e : 2 ^ suc (suc k) ≡ 4 * 2 ^ k = let a = pow-suc 2 (suc k) in let b = pow-suc 2 k in omega arith in
    let zero_more : 4 * 2 ^ k + 0 ≡ 2 ^ suc (suc k) = omega arith in
    ap (λ n. n % 4) (sym zero_more) ∙ mul-add-mod_self_left 4 (2 ^ k) 0

power_some : (k : ℕ) → 0 < 2 ^ k
power_some zero = lit< tt
power_some (suc k) = let below = power_some k in let e = pow-suc 2 k in omega arith

-- the least multiple from a number on is one
abbrev pub LeastIsMultiple : Type 0
LeastIsMultiple = (n m r : ℕ) → r < m → least_from n m r % m ≡ r

abbrev both : ℕ → ℕ → ℕ → Bool
both k a o = eqb (a % 2 ^ suc k) 0 && eqb (o % 2 ^ suc k) 0

one_stays : (end o : ℕ) → end % 4 ≡ o % 4 → least_from end 1 0 % 4 ≡ o % 4
one_stays end o same = omega arith

-- code stands on a multiple of 4
abbrev OnFours : ℕ → Piece → Type 0
OnFours at (CodePiece b) = at % 4 ≡ 0
OnFours at (DataPiece b) = Unit {0}
OnFours at (Gap bytes) = Unit {0}

abbrev pub CodeOnFours : Placed → Type 0
CodeOnFours x = OnFours x.at x.piece

module _ (multiple : LeastIsMultiple) where
  -- an offset that moved by fours to a multiple of what its old place was one of has still moved by fours
  stays_at : (k end o : ℕ) → end % 4 ≡ o % 4 → o % 2 ^ k ≡ 0 → least_from end (2 ^ k) 0 % 4 ≡ o % 4
  stays_at zero end o same whole = omega arith
  stays_at (suc zero) end o same whole = omega arith
  stays_at (suc (suc k)) end o same whole =
      fours (least_from end (2 ^ suc (suc k)) 0) (2 ^ suc (suc k)) (multiple end (2 ^ suc (suc k)) 0 (power_some (suc (suc k)))) (power_fours k)
      ∙ sym (fours o (2 ^ suc (suc k)) whole (power_fours k))

  stays : (k a end o : ℕ) → end % 4 ≡ o % 4 → least_from end (common_power k a o) 0 % 4 ≡ o % 4
  stays zero a end o same = one_stays end o same
  stays (suc k) a end o same =
      elim (cases_Bool (both k a o)) [
        | inl holds ↦
            ap (λ m. least_from end m 0 % 4) (cond-true (both k a o) (2 ^ suc k) (common_power k a o) holds)
            ∙ stays_at (suc k) end o same (eqb-true (o % 2 ^ suc k) 0 (and_parts (eqb (a % 2 ^ suc k) 0) (eqb (o % 2 ^ suc k) 0) holds).1)
        | inr fails ↦ ap (λ m. least_from end m 0 % 4) (cond-false (both k a o) (2 ^ suc k) (common_power k a o) fails) ∙ stays k a end o same
      ]

  stays_effective : (entry : Option ℕ) (size end o : ℕ) → end % 4 ≡ o % 4 → least_from end (effective entry size o) 0 % 4 ≡ o % 4
  stays_effective None size end o same = one_stays end o same
  stays_effective (Some e) size end o same =
      let inner : ℕ = cond (eqb e 0) 1 (common_power 12 e o) in
      elim (cases_Bool (eqb size 0)) [
        | inl empty ↦ ap (λ m. least_from end m 0 % 4) (cond-true (eqb size 0) 1 inner empty) ∙ one_stays end o same
        | inr some ↦
            ap (λ m. least_from end m 0 % 4) (cond-false (eqb size 0) 1 inner some)
            ∙ elim (cases_Bool (eqb e 0)) [
              | inl none ↦ ap (λ m. least_from end m 0 % 4) (cond-true (eqb e 0) 1 (common_power 12 e o) none) ∙ one_stays end o same
              | inr there ↦ ap (λ m. least_from end m 0 % 4) (cond-false (eqb e 0) 1 (common_power 12 e o) there) ∙ stays 12 e end o same
            ]
      ]

  code_moves : (end o n m : ℕ) → end % 4 ≡ o % 4 → (least_from end 1 0 + 4 * n) % 4 ≡ (o + 4 * m) % 4
  code_moves end o n m same = omega arith

  moves : (end o n : ℕ) → end % 4 ≡ o % 4 → (end + n) % 4 ≡ (o + n) % 4
  moves end o n same = omega arith

  offsets_on_fours : (o end : ℕ) (ps : List Piece) → IsTiled o ps → end % 4 ≡ o % 4 → AllByRecursion CodeOnFours (placed_from end ps)
  offsets_on_fours o end [] tiled same = tt
  offsets_on_fours o end (CodePiece b ∷ ps) tiled same =
      (one_stays end o same ∙ tiled.1, offsets_on_fours (o + code_size b) (least_from end 1 0 + new_size (CodePiece b)) ps tiled.2 (code_moves end o (length b.own + length b.inserted) (length b.own) same))
  offsets_on_fours o end (DataPiece b ∷ ps) tiled same =
      let here = stays_effective b.alignment (data_size b) end b.offset (same ∙ ap (λ n. n % 4) (sym tiled.0)) ∙ ap (λ n. n % 4) tiled.0 in
      (tt, offsets_on_fours (o + data_size b) (least_from end (step_of (DataPiece b)) 0 + data_size b) ps tiled.1 (moves (least_from end (step_of (DataPiece b)) 0) o (data_size b) here))
  offsets_on_fours o end (Gap bytes ∷ ps) tiled same =
      (tt, offsets_on_fours (o + length bytes) (least_from end 1 0 + length bytes) ps tiled (moves (least_from end 1 0) o (length bytes) (one_stays end o same)))

-- ---- the alignment of an interval with code

abbrev IsPower : ℕ → Type 0
IsPower n = (k : ℕ) × (n ≡ 2 ^ k)

power_common : (k a b : ℕ) → IsPower (common_power k a b)
power_common zero a b = (0, refl)
power_common (suc k) a b =
    elim (cases_Bool (both k a b)) [
      | inl holds ↦ (suc k, cond-true (both k a b) (2 ^ suc k) (common_power k a b) holds)
      | inr fails ↦ let rest = power_common k a b in (rest.0, cond-false (both k a b) (2 ^ suc k) (common_power k a b) fails ∙ rest.1)
    ]

power_effective : (entry : Option ℕ) (size o : ℕ) → IsPower (effective entry size o)
power_effective None size o = (0, refl)
power_effective (Some e) size o =
    let inner : ℕ = cond (eqb e 0) 1 (common_power 12 e o) in
    elim (cases_Bool (eqb size 0)) [
      | inl empty ↦ (0, cond-true (eqb size 0) 1 inner empty)
      | inr some ↦
          elim (cases_Bool (eqb e 0)) [
            | inl none ↦ (0, cond-false (eqb size 0) 1 inner some ∙ cond-true (eqb e 0) 1 (common_power 12 e o) none)
            | inr there ↦ let p = power_common 12 e o in (p.0, cond-false (eqb size 0) 1 inner some ∙ cond-false (eqb e 0) 1 (common_power 12 e o) there ∙ p.1)
          ]
    ]

power_needed : (at : ℕ) (p : Piece) → IsPower (needed (record { at = at; piece = p }))
power_needed at (CodePiece b) = (2, refl)
power_needed at (DataPiece b) = power_effective b.alignment (data_size b) at
power_needed at (Gap bytes) = (0, refl)

power_max : (m n : ℕ) → IsPower m → IsPower n → IsPower (max m n)
power_max m n a b =
    elim (cases_lt m n) [
      | inl below ↦ let e : max m n ≡ n = omega arith in (b.0, e ∙ b.1)
      | inr above ↦ let e : max m n ≡ m = omega arith in (a.0, e ∙ a.1)
    ]

power_greatest : (xs : List Placed) → IsPower (greatest xs)
power_greatest [] = (0, refl)
power_greatest (x ∷ xs) = power_max (needed x) (greatest xs) (power_needed x.at x.piece) (power_greatest xs)

power_from_four : (n : ℕ) → IsPower n → 4 ≤ n → n % 4 ≡ 0
power_from_four n (zero, e) le = absurd (omega arith)
power_from_four n (suc zero, e) le = absurd (omega arith)
power_from_four n (suc (suc k), e) le = ap (λ m. m % 4) e ∙ power_fours k

-- ---- at addresses

four_in : (start align at : ℕ) (p : Piece) → start % align ≡ 0 → IsPower align → needed (record { at = at; piece = p }) ≤ align → OnFours at p → OnFours (start + at) p
four_in start align at (CodePiece b) aligned power le four =
    let base = fours start align aligned (power_from_four align power le) in omega arith
four_in start align at (DataPiece b) aligned power le four = tt
four_in start align at (Gap bytes) aligned power le four = tt

all_in : (start align : ℕ) (xs : List Placed) → start % align ≡ 0 → IsPower align → greatest xs ≤ align → AllByRecursion CodeOnFours xs → AllByRecursion CodeOnFours (shifted start xs)
all_in start align [] aligned power le all = tt
all_in start align (x ∷ xs) aligned power le all =
    let here : needed x ≤ align = omega arith in
    let rest : greatest xs ≤ align = omega arith in
    (four_in start align x.at x.piece aligned power here all.0, all_in start align xs aligned power rest all.1)

each_in : (multiple : LeastIsMultiple) (l : Layout) (ss : List Stretch) → AllByRecursion IsAligned (map (placed_spot l) (map spot_of ss)) → AllByRecursion (λ (s : Stretch). IsTiled 0 s.pieces) ss → AllByRecursion CodeOnFours (flat_map (addressed l) ss)
each_in multiple l [] aligned tiled = tt
each_in multiple l (s ∷ ss) aligned tiled =
    all_append CodeOnFours (addressed l s) (flat_map (addressed l) ss)
    (all_in (address_of l s.id) (stretch_alignment s) (placed s) aligned.0 (power_greatest (placed s)) (omega arith) (offsets_on_fours multiple 0 0 s.pieces tiled.0 refl))
    (each_in multiple l ss aligned.1 tiled.1)

pub all_on_fours : (multiple : LeastIsMultiple) (l : Layout) (g : Program) → well_made g → accepted l (shape_of g) → AllByRecursion CodeOnFours (all_addressed l g)
all_on_fours multiple l g well is =
    each_in multiple l g.stretches (all_parts IsAligned (map (placed_spot l) (map spot_of g.stretches)) (placed_stack l ∷ []) is.aligned).0 well.tiled

-- every point has an address that is a multiple of 4
pub point_on_fours : (multiple : LeastIsMultiple) (l : Layout) (g : Program) (p : Point) → well_made g → accepted l (shape_of g) → IsPoint g p → (point_address l g p % 4 ≡ 0) × (point_address l g p < 2 ^ 64)
point_on_fours multiple l g p well accepted is =
    let at = point_placed l g p well accepted is in
    let four : OnFours at.place.at (CodePiece is.block) = subst (OnFours at.place.at) at.piece (found_has CodeOnFours (λ (y : Placed). is_block p.block y.piece) (all_addressed l g) at.place (all_on_fours multiple l g well accepted) at.found) in
    let address = at.address in
    let high = at.high in
    let whole = is.whole in
    (omega arith, omega arith)
