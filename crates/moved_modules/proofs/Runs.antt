-- Where the pieces of an interval go, one piece further.
use Rattle.std.proofs.Common.{◌≡◌, ℕ, zero, suc, ◌+◌, ◌*◌, ◌%◌, ◌-◌, ◌<◌, ◌≤◌, List, [], ◌∷◌, ◌++◌, length, get_or, drop, sym, ap, ◌∙◌, append_assoc, arith}
use Rattle.std.specs.Prelude.{sum_by}
use Rattle.std.specs.List.{AllByRecursion}
use Rattle.std.proofs.lemmas.List.{at_drop_more}
use Rattle.std.proofs.lemmas.List.Sums.{sum_by-cons}
use Rattle.moved_modules.specs.declared.moved.Piece.{Piece as Run}
use Rattle.moved_modules.specs.Moved.{bytes_at, pieces_from}
use Rattle.rewrite.specs.Offsets.{old_size}
use Rattle.sym_expr.specs.declared.program.Piece.{Piece}
use Rattle.sym_expr.specs.declared.program.Piece.TheVariants.{Code, Data, Gap}
use Rattle.sym_expr.specs.declared.program.Stretch.{Stretch}
use Rattle.sym_expr.specs.Layouts.{least_from}
use Rattle.sym_expr.specs.Placing.{end_from, new_size, placed_from, step_of, stretch_size}

-- the offset of a piece behind what ends at one
abbrev pub place : ℕ → Piece → ℕ
place end p = least_from end (step_of p) 0

rises : (a b : ℕ) → a ≤ a + b
rises a b = omega arith

place_rises : (end : ℕ) (p : Piece) → end ≤ place end p
place_rises end p = rises end ((0 + (step_of p - end % step_of p)) % step_of p)

end_rises : (end : ℕ) (ps : List Piece) → end ≤ end_from end ps
end_rises end [] = omega arith
end_rises end (p ∷ ps) =
    let next : ℕ = place end p in
    let here : end ≤ next = place_rises end p in
    let rest : next + new_size p ≤ end_from (next + new_size p) ps = end_rises (next + new_size p) ps in
    omega (arith, here, rest)

grows : (p : Piece) → old_size p ≤ new_size p
grows (Code b) = omega arith
grows (Data b) = omega arith
grows (Gap bytes) = omega arith

-- the first of the pieces that are left
at_piece : {A : Type 0} (f : List Piece → A) (ps : List Piece) (k : ℕ) (p : Piece) → k < length ps → p ≡ get_or ps k p → f (p ∷ drop (k + 1) ps) ≡ f (drop k ps)
at_piece f ps k p within is = ap (λ (x : Piece). f (x ∷ drop (k + 1) ps)) is ∙ sym (at_drop_more f ps k p within)

pub record HasRoom (end size : ℕ) (p : Piece) : Type 0 where
  pub behind : end ≤ place end p
  pub within : place end p + new_size p ≤ size
  pub grown : old_size p ≤ new_size p

pub room : (end size : ℕ) (ps : List Piece) (k : ℕ) (p : Piece) → k < length ps → p ≡ get_or ps k p → end_from end (drop k ps) ≡ size → HasRoom end size p
room end size ps k p within is whole =
    let next : ℕ = place end p + new_size p in
    let rest : next ≤ end_from next (drop (k + 1) ps) = end_rises next (drop (k + 1) ps) in
    let same : end_from next (drop (k + 1) ps) ≡ size = at_piece (end_from end) ps k p within is ∙ whole in
    record { behind = place_rises end p; within = omega (arith, rest, same); grown = grows p }

pub end_next : (end size : ℕ) (ps : List Piece) (k : ℕ) (p : Piece) → k < length ps → p ≡ get_or ps k p → end_from end (drop k ps) ≡ size → end_from (place end p + new_size p) (drop (k + 1) ps) ≡ size
end_next end size ps k p within is whole = at_piece (end_from end) ps k p within is ∙ whole

pub end_most : (end size : ℕ) (ps : List Piece) → end_from end ps ≡ size → end ≤ size
end_most end size ps whole = let rise = end_rises end ps in omega (arith, rise, whole)

pub old_next : (from size : ℕ) (ps : List Piece) (k : ℕ) (p : Piece) → k < length ps → p ≡ get_or ps k p → from + sum_by old_size (drop k ps) ≡ size → from + old_size p + sum_by old_size (drop (k + 1) ps) ≡ size
old_next from size ps k p within is whole =
    let here = at_piece (sum_by old_size) ps k p within is in
    let split = sum_by-cons old_size p (drop (k + 1) ps) in
    omega (arith, here, split, whole)

pub runs_next : (runs all : List Run) (from end : ℕ) (ps : List Piece) (k : ℕ) (p : Piece) → k < length ps → p ≡ get_or ps k p
    → runs ++ pieces_from from (placed_from end (drop k ps)) ≡ all
    → (runs ++ bytes_at from (place end p) p) ++ pieces_from (from + old_size p) (placed_from (place end p + new_size p) (drop (k + 1) ps)) ≡ all
runs_next runs all from end ps k p within is whole =
    append_assoc runs (bytes_at from (place end p) p) (pieces_from (from + old_size p) (placed_from (place end p + new_size p) (drop (k + 1) ps)))
    ∙ ap (λ (l : List Run). runs ++ l) (at_piece (λ (l : List Piece). pieces_from from (placed_from end l)) ps k p within is)
    ∙ whole

-- each interval is no larger than all of them
pub each_small : (most : ℕ) (ss : List Stretch) → sum_by stretch_size ss < most → AllByRecursion (λ (s : Stretch). stretch_size s < most) ss
each_small most [] h = tt
each_small most (s ∷ ss) h =
    let split = sum_by-cons stretch_size s ss in
    (omega (arith, split, h), each_small most ss (omega (arith, split, h)))
