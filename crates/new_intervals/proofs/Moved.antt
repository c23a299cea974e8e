-- The run that has a byte, and where it goes.
use Rattle.std.proofs.Common.{◌≡◌, ℕ, zero, suc, ◌+◌, ◌-◌, ◌*◌, ◌<◌, ◌≤◌, ◌^◌, Bool, List, [], ◌∷◌, length, get_or, refl, sym, ap, subst, ◌∙◌, inl, inr, arith}
use Rattle.std.specs.Prelude.{filter, nat_lt, if◌then◌else◌}
use Rattle.std.specs.List.Sorted.{IsNonDecreasing, IsNonDecreasingBy}
use Rattle.std.proofs.lemmas.Bool.{lt-ltb, le-ltb, cases_Bool}
use Rattle.new_intervals.specs.Moving.{count_below, AreRuns, IsMoves, IsRun}
use Rattle.new_intervals.specs.Placed.{AreRoomy, IsRoomy}
use Rattle.new_intervals.specs.declared.moves.Moves.{Moves}
use Rattle.new_intervals.specs.declared.runs.Run.{Run}
use Rattle.rewrite.specs.Offsets.{new_depth, new_offset, offset_among, old_size}
use Rattle.sym_expr.specs.declared.program.Piece.{Piece}
use Rattle.sym_expr.specs.declared.program.Piece.TheVariants.{Code as CodePiece, Data as DataPiece, Gap}
use Rattle.sym_expr.specs.declared.program.Word.{Word}
use Rattle.sym_expr.specs.Layouts.{least_from}
use Rattle.sym_expr.specs.Placing.{Placed, end_from, new_size, placed, placed_from, step_of}

-- ---- inside a piece a byte goes to a place before the new end

count_most : (test : ℕ × Word → Bool) (ws : List (ℕ × Word)) → length (filter test ws) ≤ length ws
count_most test [] = omega arith
count_most test (w ∷ ws) =
    let rest = count_most test ws in
    elim (cases_Bool (test w)) [
      | inl h ↦ rw h (omega (arith, rest))
      | inr h ↦ rw h (omega (arith, rest))
    ]

pub depth_most : (a : ℕ) (p : Piece) → a < old_size p → new_depth a p < new_size p
depth_most a (CodePiece c) lt = let most = count_most (λ (w : ℕ × Word). nat_lt w.0 (a + 1)) c.inserted in omega (arith, most)
depth_most a (DataPiece c) lt = lt
depth_most a (Gap bytes) lt = lt

-- ---- runs end one behind the other

abbrev ending : Run → ℕ
ending r = r.end

ends_above : (from : ℕ) (rs : List Run) (xs : List Placed) → AreRuns from rs xs → (k : ℕ) (d : Run) → k < length rs → from ≤ ending (get_or rs k d)
ends_above from [] [] h k d lt = absurd (omega arith)
ends_above from [] (x ∷ xs) h k d lt = absurd h
ends_above from (r ∷ rs) [] h k d lt = absurd h
ends_above from (r ∷ rs) (x ∷ xs) h zero d lt = let e = h.0.end in omega arith
ends_above from (r ∷ rs) (x ∷ xs) h (suc k) d lt = let e = h.0.end in let rest = ends_above r.end rs xs h.1 k d (omega arith) in omega arith

pub ends_rise : (from : ℕ) (rs : List Run) (xs : List Placed) → AreRuns from rs xs → IsNonDecreasingBy (λ (r : Run). r.end) rs
ends_rise from [] xs h i j d le lt = absurd (omega arith)
ends_rise from (r ∷ rs) [] h i j d le lt = absurd h
ends_rise from (r ∷ rs) (x ∷ xs) h zero zero d le lt = omega arith
ends_rise from (r ∷ rs) (x ∷ xs) h zero (suc j) d le lt = ends_above r.end rs xs h.1 j d (omega arith)
ends_rise from (r ∷ rs) (x ∷ xs) h (suc i) zero d le lt = absurd (omega arith)
ends_rise from (r ∷ rs) (x ∷ xs) h (suc i) (suc j) d le lt = ends_rise r.end rs xs h.1 i j d (omega arith) (omega arith)

-- ---- the first run that ends behind a byte has it

here : (at from end : ℕ) (x : Placed) (xs : List Placed) → at < from + old_size x.piece → offset_among at from end (x ∷ xs) ≡ x.at + new_depth (at - from) x.piece
here at from end x xs lt =
    ap (λ t. if t then x.at + new_depth (at - from) x.piece else offset_among at (from + old_size x.piece) (x.at + new_size x.piece) xs) (lt-ltb at (from + old_size x.piece) lt)

later : (at from end : ℕ) (x : Placed) (xs : List Placed) → from + old_size x.piece ≤ at → offset_among at from end (x ∷ xs) ≡ offset_among at (from + old_size x.piece) (x.at + new_size x.piece) xs
later at from end x xs le =
    ap (λ t. if t then x.at + new_depth (at - from) x.piece else offset_among at (from + old_size x.piece) (x.at + new_size x.piece) xs) (le-ltb at (from + old_size x.piece) le)

-- the byte at an old offset lies in the piece of a run, and goes to this offset
pub record Has (r : Run) (at place : ℕ) : Type 0 where
  pub behind : r.from ≤ at
  pub sorted : IsNonDecreasing r.inserted
  pub goes : r.at + (at - r.from + 4 * count_below (at - r.from + 1) r.inserted) ≡ place
  pub room : place < 2 ^ 62

has_here : (at from : ℕ) (r : Run) (x : Placed) → IsRun from r x → IsRoomy x → from ≤ at → at < from + old_size x.piece → Has r at (x.at + new_depth (at - from) x.piece)
has_here at from r x run roomy low lt =
    let start = run.start in
    let depth = run.deep.depth (at - from) in
    let most = depth_most (at - from) x.piece (omega arith) in
    let room = roomy.room in
    record {
      behind = omega arith;
      sorted = run.deep.sorted;
      goes = ap (λ n. n + (at - r.from + 4 * count_below (at - r.from + 1) r.inserted)) run.place ∙ ap (λ n. x.at + (at - n + 4 * count_below (at - n + 1) r.inserted)) start ∙ ap (λ n. x.at + n) depth;
      room = omega arith;
    }

pub found : (at from end : ℕ) (rs : List Run) (xs : List Placed) (k : ℕ) (d : Run) → AreRuns from rs xs → AreRoomy xs → from ≤ at
    → ((j : ℕ) (e : Run) → j < k → (get_or rs j e).end ≤ at) → k < length rs → at < (get_or rs k d).end → Has (get_or rs k d) at (offset_among at from end xs)
found at from end [] xs k d h roomy low passed lt inside = absurd (omega arith)
found at from end (r ∷ rs) [] k d h roomy low passed lt inside = absurd h
found at from end (r ∷ rs) (x ∷ xs) zero d h roomy low passed lt inside =
    let e = h.0.end in
    let within : at < from + old_size x.piece = omega arith in
    subst (Has r at) (sym (here at from end x xs within)) (has_here at from r x h.0 roomy.0 low within)
found at from end (r ∷ rs) (x ∷ xs) (suc k) d h roomy low passed lt inside =
    let e = h.0.end in
    let past = passed zero r (omega arith) in
    let over : from + old_size x.piece ≤ at = omega arith in
    let same : offset_among at r.end (x.at + new_size x.piece) xs ≡ offset_among at from end (x ∷ xs) = ap (λ n. offset_among at n (x.at + new_size x.piece) xs) e ∙ sym (later at from end x xs over) in
    subst (Has (get_or rs k d) at) same
    (found at r.end (x.at + new_size x.piece) rs xs k d h.1 roomy.1 past (λ j f less. passed (suc j) f (omega arith)) (omega arith) inside)

-- ---- what is behind all bytes goes to the end

pub past : (at from end : ℕ) (rs : List Run) (ps : List Piece) → AreRuns from rs (placed_from end ps) → ((j : ℕ) (e : Run) → j < length rs → (get_or rs j e).end ≤ at) → offset_among at from end (placed_from end ps) ≡ end_from end ps
past at from end rs [] h passed = refl
past at from end [] (p ∷ ps) h passed = absurd h
past at from end (r ∷ rs) (p ∷ ps) h passed =
    let x : Placed = record { at = least_from end (step_of p) 0; piece = p } in
    let e = h.0.end in
    let first = passed zero r (omega arith) in
    let next : ℕ = x.at + new_size p in
    later at from end x (placed_from next ps) (omega arith)
    ∙ ap (λ n. offset_among at n next (placed_from next ps)) (sym e)
    ∙ past at r.end next rs ps h.1 (λ j f less. passed (suc j) f (omega arith))

-- ---- in an interval

module _ (m : Moves) (at k : ℕ) (is : IsMoves m) (front : (j : ℕ) (d : Run) → j < k → (get_or m.runs.items j d).end ≤ at) where
  pub at_run : (r : Run) → k < length m.runs.items → ((j : ℕ) (d : Run) → k ≤ j → j < length m.runs.items → at < (get_or m.runs.items j d).end) → r ≡ get_or m.runs.items k r → Has r at (new_offset m.stretch.now at)
  at_run r lt rest e =
      subst (λ x. Has x at (new_offset m.stretch.now at)) (sym e)
      (found at 0 0 m.runs.items (placed m.stretch.now) k r is.runs is.tight.roomy (omega arith) front lt (rest k r (omega arith) lt))

  pub at_end : length m.runs.items ≤ k → m.end ≡ new_offset m.stretch.now at
  at_end le = is.end ∙ sym (past at 0 0 m.runs.items m.stretch.now.pieces is.runs (λ j d lt. front j d (omega arith)))
