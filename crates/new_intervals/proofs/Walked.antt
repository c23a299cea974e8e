-- The pieces of an interval, one after the other.
use Rattle.std.proofs.Common.{◌≡◌, ℕ, suc, ◌+◌, ◌-◌, ◌<◌, ◌≤◌, List, [], ◌∷◌, ◌++◌, length, get_or, drop, sym, ap, ◌∙◌, append_assoc, add-one, arith}
use Rattle.std.proofs.lemmas.List.{map-append}
use Rattle.std.proofs.Math.Seq.{drop-cons}
use Rattle.new_intervals.specs.Placed.{placed_all, placed_of}
use Rattle.new_intervals.specs.declared.spots.Spot.{Spot}
use Rattle.sym_expr.specs.declared.program.Piece.{Piece}
use Rattle.sym_expr.specs.Layouts.{least_from}
use Rattle.sym_expr.specs.Placing.{Placed, end_from, new_size, placed_from, step_of}

-- the element at i and those behind it
pub dropped : {X : Type 0} (xs : List X) (i : ℕ) (x : X) → i < length xs → x ≡ get_or xs i x → drop i xs ≡ x ∷ drop (i + 1) xs
dropped xs i x lt is = drop-cons xs i x lt ∙ ap (λ y. y ∷ drop (suc i) xs) (sym is) ∙ ap (λ n. x ∷ drop n xs) (sym (add-one i))

-- the element before i and those behind it
pub split_before : {X : Type 0} (xs : List X) (i : ℕ) (x : X) → 0 < i → i ≤ length xs → x ≡ get_or xs (i - 1) x → drop (i - 1) xs ≡ x ∷ drop i xs
split_before xs i x some within is =
    let next : i - 1 + 1 ≡ i = omega arith in
    dropped xs (i - 1) x (omega arith) is ∙ ap (λ n. x ∷ drop n xs) next

-- a piece stands behind the end of the last, and an interval ends behind its pieces
pub ends_behind : (at : ℕ) (ps : List Piece) → at ≤ end_from at ps
ends_behind at [] = omega arith
ends_behind at (p ∷ ps) = let rest = ends_behind (least_from at (step_of p) 0 + new_size p) ps in omega arith

abbrev pub next_at : ℕ → Piece → ℕ
next_at end p = least_from end (step_of p) 0

module _ (ps : List Piece) (i end : ℕ) (p : Piece) (lt : i < length ps) (is : p ≡ get_or ps i p) where
  -- where the interval ends is where it ended
  pub end_same : end_from (next_at end p + new_size p) (drop (i + 1) ps) ≡ end_from end (drop i ps)
  end_same = sym (ap (end_from end) (dropped ps i p lt is))

  -- the piece ends before
  pub end_most : next_at end p + new_size p ≤ end_from end (drop i ps)
  end_most = let rest = ends_behind (next_at end p + new_size p) (drop (i + 1) ps) in let same = end_same in omega arith

  -- one spot more
  pub spots_more : (spots : List Spot) (x : Spot) → placed_of x ≡ record { at = next_at end p; piece = p }
      → placed_all (spots ++ x ∷ []) ++ placed_from (next_at end p + new_size p) (drop (i + 1) ps) ≡ placed_all spots ++ placed_from end (drop i ps)
  spots_more spots x here =
      let rest : List Placed = placed_from (next_at end p + new_size p) (drop (i + 1) ps) in
      ap (λ l. l ++ rest) (map-append placed_of spots (x ∷ []))
      ∙ append_assoc (placed_all spots) (placed_of x ∷ []) rest
      ∙ ap (λ (y : Placed). placed_all spots ++ y ∷ rest) here
      ∙ sym (ap (λ qs. placed_all spots ++ placed_from end qs) (dropped ps i p lt is))
