-- Steps of the loops that go over pieces and intervals.
use Rattle.std.proofs.Common.{◌≡◌, ℕ, zero, suc, ◌+◌, ◌<◌, ◌≤◌, Option, Some, List, [], ◌∷◌, ◌++◌, length, get_or, take, drop, map, refl, sym, ap, subst, ◌∙◌, arith, add-one, append_assoc, slice_get}
use Rattle.std.specs.List.{AllByRecursion}
use Rattle.std.specs.Option.{option_map}
use Rattle.std.proofs.Math.Seq.{drop-cons}
use Rattle.std.proofs.lemmas.List.{take_more}
use Rattle.std.proofs.lemmas.Option.{get_or_from_slice_get, slice_get-map}
use Rattle.sym_expr.specs.declared.program.Piece.{Piece}
use Rattle.sym_expr.specs.declared.program.Program.{Program}
use Rattle.sym_expr.specs.declared.program.Stretch.{Stretch}
use Rattle.sym_expr.specs.Layouts.{least_from}
use Rattle.sym_expr.specs.Placing.{Placed, placed, placed_from, end_from, new_size, step_of, stretch_size}
use Rattle.sym_expr.specs.Points.{first_code}
use Rattle.sym_expr.specs.WellMade.{well_made}
use Rattle.indexed_program.specs.declared.spot.Ahead.{Ahead}
use Rattle.indexed_program.specs.Building.{IsAhead, StandsAt}
use Rattle.indexed_program.proofs.Keeping.{ends_below, ends_from}
use Rattle.indexed_program.proofs.Lists.{all_append}

-- ---- the offsets of pieces, from the first on

abbrev pub next_at : ℕ → Piece → ℕ
next_at end p = least_from end (step_of p) 0

module _ {X : Type 0} where
  -- the element at i and those behind it
  pub dropped : (xs : List X) (i : ℕ) (x : X) → i < length xs → x ≡ get_or xs i x → drop i xs ≡ x ∷ drop (i + 1) xs
  dropped xs i x lt is = drop-cons xs i x lt ∙ ap (λ y. y ∷ drop (suc i) xs) (sym is) ∙ ap (λ n. x ∷ drop n xs) (sym (add-one i))

  -- those up to i and the element at i
  pub taken : (xs : List X) (i : ℕ) (x : X) → i < length xs → x ≡ get_or xs i x → take (i + 1) xs ≡ take i xs ++ x ∷ []
  taken xs i x lt is = take_more xs i x lt ∙ ap (λ y. take i xs ++ y ∷ []) (sym is)

  -- the element at an index and those behind it
  pub dropped_at : (xs : List X) (k : ℕ) (x : X) → slice_get xs k ≡ Some x → drop k xs ≡ x ∷ drop (suc k) xs
  dropped_at [] k x e = cc
  dropped_at (y ∷ ys) zero x e = let same : y ≡ x = cc in ap (λ z. z ∷ ys) same
  dropped_at (y ∷ ys) (suc k) x e = dropped_at ys k x e

  pub all_taken : (P : X → Type 0) (xs : List X) (i : ℕ) (x : X) → i < length xs → x ≡ get_or xs i x → AllByRecursion P (take i xs) → P x → AllByRecursion P (take (i + 1) xs)
  all_taken P xs i x lt is all here = subst (AllByRecursion P) (sym (taken xs i x lt is)) (all_append P (take i xs) (x ∷ []) all (here, tt))

module _ (ps : List Piece) (i end : ℕ) (p : Piece) (lt : i < length ps) (is : p ≡ get_or ps i p) where
  -- where the interval ends is where it ended
  pub end_same : end_from (next_at end p + new_size p) (drop (i + 1) ps) ≡ end_from end (drop i ps)
  end_same = sym (ap (end_from end) (dropped ps i p lt is))

  -- the piece ends before
  pub end_most : next_at end p + new_size p ≤ end_from end (drop i ps)
  end_most = let rest = ends_from (next_at end p + new_size p) (drop (i + 1) ps) in let le = rest.0 in let same = end_same in omega arith

  -- its offset, and those of the pieces behind it
  pub offsets_more : (out : List ℕ) → (out ++ next_at end p ∷ []) ++ map (λ (x : Placed). x.at) (placed_from (next_at end p + new_size p) (drop (i + 1) ps))
      ≡ out ++ map (λ (x : Placed). x.at) (placed_from end (drop i ps))
  offsets_more out =
      append_assoc out (next_at end p ∷ []) (map (λ (x : Placed). x.at) (placed_from (next_at end p + new_size p) (drop (i + 1) ps)))
      ∙ ap (λ qs. out ++ map (λ (x : Placed). x.at) (placed_from end qs)) (sym (dropped ps i p lt is))

-- ---- a piece among those placed

index_placed : (from : ℕ) (ps : List Piece) (k : ℕ) (p : Piece) → slice_get ps k ≡ Some p → (at : ℕ) × (slice_get (placed_from from ps) k ≡ Some (record { at = at; piece = p }))
index_placed from [] k p e = cc
index_placed from (q ∷ ps) zero p e =
    let same : q ≡ p = cc in (next_at from q, ap (λ (r : Piece). Some (record { at = next_at from q; piece = r })) same)
index_placed from (q ∷ ps) (suc k) p e = index_placed (next_at from q + new_size q) ps k p e

-- the offset that is kept of a piece is its own
pub placed_at_index : (s : Stretch) (offsets : List ℕ) (k at : ℕ) (p : Piece) → offsets ≡ map (λ (x : Placed). x.at) (placed s) → slice_get s.pieces k ≡ Some p → at ≡ get_or offsets k at
    → slice_get (placed s) k ≡ Some (record { at = at; piece = p })
placed_at_index s offsets k at p made here is =
    let there = index_placed 0 s.pieces k p here in
    let got : slice_get (map (λ (x : Placed). x.at) (placed s)) k ≡ Some there.0 = slice_get-map (λ (x : Placed). x.at) (placed s) k ∙ ap (option_map (λ (x : Placed). x.at)) there.1 in
    let same : at ≡ there.0 = is ∙ ap (λ os. get_or os k at) made ∙ get_or_from_slice_get (map (λ (x : Placed). x.at) (placed s)) k there.0 at got in
    there.1 ∙ ap (λ (a : ℕ). Some (record { at = a; piece = p })) (sym same)

pub stands_at : (g : Program) (s : Stretch) (number k at : ℕ) (p : Piece) (ahead : Option Ahead) → well_made g → slice_get g.stretches number ≡ Some s → slice_get (placed s) k ≡ Some (record { at = at; piece = p })
    → IsAhead g (first_code (drop (suc k) s.pieces)) ahead → StandsAt g s (record { stretch = number; piece = k }) at p ahead
stands_at g s number k at p ahead well stretch here next = record { well = well; at_stretch = stretch; at_piece = here; next = next }

pub length_placed : (from : ℕ) (ps : List Piece) → length (placed_from from ps) ≡ length ps
length_placed from [] = refl
length_placed from (p ∷ ps) = ap suc (length_placed (next_at from p + new_size p) ps)

-- a piece is no greater than its interval
pub size_at : (s : Stretch) (k : ℕ) (p : Piece) → slice_get s.pieces k ≡ Some p → new_size p ≤ stretch_size s
size_at s k p e =
    let there = index_placed 0 s.pieces k p e in
    let ends = ends_below s k (record { at = there.0; piece = p }) there.1 in omega arith
