-- The bytes of an interval keep their order.
use Rattle.std.proofs.Common.{◌≡◌, ℕ, ◌+◌, ◌-◌, ◌<◌, ◌≤◌, Bool, true, false, List, [], ◌∷◌, length, ap, inl, inr, arith}
use Rattle.std.specs.Prelude.{nat_lt, if◌then◌else◌, sum_by}
use Rattle.std.proofs.lemmas.Bool.{cases_lt, lt-ltb, le-ltb}
use Rattle.std.proofs.lemmas.List.Sums.{sum_by-cons}
use Rattle.rewrite.proofs.Below.{count, count_first, one_if}
use Rattle.rewrite.specs.Offsets.{new_depth, new_offset, offset_among, old_size}
use Rattle.rewrite.specs.Rooms.{old_length}
use Rattle.sym_expr.specs.declared.program.Piece.{Piece}
use Rattle.sym_expr.specs.declared.program.Piece.TheVariants.{Code as CodePiece, Data as DataPiece, Gap}
use Rattle.sym_expr.specs.declared.program.Stretch.{Stretch}
use Rattle.sym_expr.specs.declared.program.Word.{Word}
use Rattle.sym_expr.specs.Layouts.{least_from}
use Rattle.sym_expr.specs.Placing.{Placed, new_size, placed_from, step_of}

-- ---- in a piece

one_more : (w a b : ℕ) → a ≤ b → one_if (nat_lt w a) ≤ one_if (nat_lt w b)
one_more w a b le =
    elim (cases_lt w a) [
      | inl below ↦
          let x = ap one_if (lt-ltb w a below) in
          let y = ap one_if (lt-ltb w b (omega arith)) in
          omega arith
      | inr above ↦
          let x = ap one_if (le-ltb w a above) in
          omega arith
    ]

pub below_grows : (a b : ℕ) (ws : List (ℕ × Word)) → a ≤ b → count (λ (w : ℕ × Word). nat_lt w.0 a) ws ≤ count (λ (w : ℕ × Word). nat_lt w.0 b) ws
below_grows a b [] le = omega arith
below_grows a b (w ∷ ws) le =
    let x = count_first (λ (w : ℕ × Word). nat_lt w.0 a) w ws in
    let y = count_first (λ (w : ℕ × Word). nat_lt w.0 b) w ws in
    let one = one_more w.0 a b le in
    let rest = below_grows a b ws le in
    omega arith

one_most : (b : Bool) → one_if b ≤ 1
one_most true = omega arith
one_most false = omega arith

count_most : (test : ℕ × Word → Bool) (ws : List (ℕ × Word)) → count test ws ≤ length ws
count_most test [] = omega arith
count_most test (w ∷ ws) =
    let x = count_first test w ws in
    let one = one_most (test w) in
    let rest = count_most test ws in
    omega arith

depth_grows : (a b : ℕ) (p : Piece) → a < b → new_depth a p < new_depth b p
depth_grows a b (CodePiece c) lt = let more = below_grows (a + 1) (b + 1) c.inserted (omega arith) in omega (arith, more)
depth_grows a b (DataPiece c) lt = lt
depth_grows a b (Gap bytes) lt = lt

pub depth_most : (a : ℕ) (p : Piece) → a < old_size p → new_depth a p < new_size p
depth_most a (CodePiece c) lt = let most = count_most (λ (w : ℕ × Word). nat_lt w.0 (a + 1)) c.inserted in omega (arith, most)
depth_most a (DataPiece c) lt = lt
depth_most a (Gap bytes) lt = lt

-- ---- among pieces

pub here : (at from end : ℕ) (x : Placed) (xs : List Placed) → at < from + old_size x.piece → offset_among at from end (x ∷ xs) ≡ x.at + new_depth (at - from) x.piece
here at from end x xs lt =
    ap (λ t. if t then x.at + new_depth (at - from) x.piece else offset_among at (from + old_size x.piece) (x.at + new_size x.piece) xs) (lt-ltb at (from + old_size x.piece) lt)

pub later : (at from end : ℕ) (x : Placed) (xs : List Placed) → from + old_size x.piece ≤ at → offset_among at from end (x ∷ xs) ≡ offset_among at (from + old_size x.piece) (x.at + new_size x.piece) xs
later at from end x xs le =
    ap (λ t. if t then x.at + new_depth (at - from) x.piece else offset_among at (from + old_size x.piece) (x.at + new_size x.piece) xs) (le-ltb at (from + old_size x.piece) le)

abbrev pub first : ℕ → Piece → Placed
first end p = record { at = least_from end (step_of p) 0; piece = p }

pub behind : (at from end : ℕ) (ps : List Piece) → end ≤ offset_among at from end (placed_from end ps)
behind at from end [] = omega arith
behind at from end (p ∷ ps) =
    let next : ℕ = least_from end (step_of p) 0 + new_size p in
    elim (cases_lt at (from + old_size p)) [
      | inl lt ↦ let e = here at from end (first end p) (placed_from next ps) lt in omega (arith, e)
      | inr le ↦
          let e = later at from end (first end p) (placed_from next ps) le in
          let rest = behind at (from + old_size p) next ps in
          omega (arith, e, rest)
    ]

grows : (a b from end : ℕ) (ps : List Piece) → from ≤ a → a < b → b ≤ from + sum_by old_size ps → offset_among a from end (placed_from end ps) < offset_among b from end (placed_from end ps)
grows a b from end [] low lt most = absurd (omega arith)
grows a b from end (p ∷ ps) low lt most =
    let next : ℕ = least_from end (step_of p) 0 + new_size p in
    let total = sum_by-cons old_size p ps in
    elim (cases_lt a (from + old_size p)) [
      | inl in_a ↦
          let x = here a from end (first end p) (placed_from next ps) in_a in
          elim (cases_lt b (from + old_size p)) [
            | inl in_b ↦
                let y = here b from end (first end p) (placed_from next ps) in_b in
                let more = depth_grows (a - from) (b - from) p (omega arith) in
                omega (arith, x, y, more)
            | inr past_b ↦
                let y = later b from end (first end p) (placed_from next ps) past_b in
                let most = depth_most (a - from) p (omega arith) in
                let low = behind b (from + old_size p) next ps in
                omega (arith, x, y, most, low)
          ]
      | inr past_a ↦
          let x = later a from end (first end p) (placed_from next ps) past_a in
          let y = later b from end (first end p) (placed_from next ps) (omega arith) in
          let rest = grows a b (from + old_size p) next ps past_a lt (omega arith) in
          omega (arith, x, y, rest)
    ]

pub in_order : (s : Stretch) (a b : ℕ) → a < b → b ≤ old_length s → new_offset s a < new_offset s b
in_order s a b lt most = grows a b 0 0 s.pieces (omega arith) lt (omega arith)
