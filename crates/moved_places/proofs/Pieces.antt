-- The kept pieces of an interval say where its offsets go.
use Rattle.std.proofs.Common.{◌≡◌, ℕ, zero, suc, ◌+◌, ◌-◌, ◌<◌, ◌≤◌, Bool, true, false, cond, ltb, leb, Option, Some, List, [], ◌∷◌, ◌++◌, length, get_or, drop, filter, find, map, sum_by, refl, sym, ap, subst, ◌∙◌, inl, inr, arith, append_assoc, append-nil}
use Rattle.std.specs.Option.{option_map_or}
use Rattle.std.specs.List.Sorted.{IsNonDecreasingBy, IsPermutation}
use Rattle.std.proofs.lemmas.Bool.{cond-true, cond-false, cases_Bool}
use Rattle.std.proofs.lemmas.Bool.Decides.{nat_tests}
use Rattle.std.proofs.lemmas.List.Sorted.{sum_by-IsPermutation}
use Rattle.std.proofs.lemmas.List.Sums.{sum_by-cons}
use Rattle.moved_places.specs.declared.kept.PieceMoves.{PieceMoves}
use Rattle.moved_places.specs.Intervals.{count_below, depth_kept, offset_among, offset_in, AreKept, IsKept}
use Rattle.moved_places.proofs.Lists.{dropped, dropped_all}
use Rattle.rewrite.specs.Offsets.{new_depth, old_size, offset_among as new_among}
use Rattle.sym_expr.specs.declared.program.Piece.{Piece}
use Rattle.sym_expr.specs.declared.program.Piece.TheVariants.{Code as CodePiece, Data as DataPiece, Gap}
use Rattle.sym_expr.specs.declared.program.Word.{Word}
use Rattle.sym_expr.specs.Layouts.{least_from}
use Rattle.sym_expr.specs.Placing.{Placed, end_from, new_size, placed_from, step_of}

-- ---- counts

abbrev one_of : Bool → ℕ
one_of v = cond v 1 0

count_is_sum : (p : ℕ → Bool) (ns : List ℕ) → length (filter p ns) ≡ sum_by (λ n. one_of (p n)) ns
count_is_sum p [] = refl
count_is_sum p (n ∷ ns) =
    let rest = count_is_sum p ns in
    let sum = sum_by-cons (λ (m : ℕ). one_of (p m)) n ns in
    elim (cases_Bool (p n)) [
      | inl holds ↦
          let kept : length (filter p (n ∷ ns)) ≡ suc (length (filter p ns)) = ap length (cond-true (p n) (n ∷ filter p ns) (filter p ns) holds) in
          let one : one_of (p n) ≡ 1 = ap one_of holds in omega arith
      | inr fails ↦
          let kept : length (filter p (n ∷ ns)) ≡ length (filter p ns) = ap length (cond-false (p n) (n ∷ filter p ns) (filter p ns) fails) in
          let none : one_of (p n) ≡ 0 = ap one_of fails in omega arith
    ]

pub count_permuted : (p : ℕ → Bool) (ns ms : List ℕ) → IsPermutation ns ms → length (filter p ms) ≡ length (filter p ns)
count_permuted p ns ms same = count_is_sum p ms ∙ sum_by-IsPermutation (λ n. one_of (p n)) ns ms same ∙ sym (count_is_sum p ns)

pub count_offsets : (bound : ℕ) (ws : List (ℕ × Word)) → length (filter (λ n. ltb n bound) (map (λ (w : ℕ × Word). w.0) ws)) ≡ length (filter (λ (w : ℕ × Word). ltb w.0 bound) ws)
count_offsets bound [] = refl
count_offsets bound (w ∷ ws) =
    let left = filter (λ n. ltb n bound) (map (λ (v : ℕ × Word). v.0) ws) in
    let right = filter (λ (v : ℕ × Word). ltb v.0 bound) ws in
    elim (cases_Bool (ltb w.0 bound)) [
      | inl holds ↦
          let kept : length (filter (λ n. ltb n bound) (map (λ (v : ℕ × Word). v.0) (w ∷ ws))) ≡ suc (length left) = ap length (cond-true (ltb w.0 bound) (w.0 ∷ left) left holds) in
          kept ∙ ap suc (count_offsets bound ws) ∙ sym (ap length (cond-true (ltb w.0 bound) (w ∷ right) right holds))
      | inr fails ↦ ap length (cond-false (ltb w.0 bound) (w.0 ∷ left) left fails) ∙ count_offsets bound ws ∙ sym (ap length (cond-false (ltb w.0 bound) (w ∷ right) right fails))
    ]

pub few_below : (bound : ℕ) (ns : List ℕ) → count_below bound ns ≤ length ns
few_below bound [] = omega arith
few_below bound (n ∷ ns) =
    let rest = few_below bound ns in
    elim (cases_Bool (ltb n bound)) [
      | inl holds ↦
          let kept : count_below bound (n ∷ ns) ≡ suc (count_below bound ns) = ap length (cond-true (ltb n bound) (n ∷ filter (λ m. ltb m bound) ns) (filter (λ m. ltb m bound) ns) holds) in omega arith
      | inr fails ↦
          let kept : count_below bound (n ∷ ns) ≡ count_below bound ns = ap length (cond-false (ltb n bound) (n ∷ filter (λ m. ltb m bound) ns) (filter (λ m. ltb m bound) ns) fails) in omega arith
    ]

-- ---- pieces

pub lt_from : (m n : ℕ) → ltb m n ≡ true → m < n
lt_from m n h = grind (arith, nat_tests)

le_from : (m n : ℕ) → ltb m n ≡ false → n ≤ m
le_from m n h = grind (arith, nat_tests)

pub lt_yes : (m n : ℕ) → leb n m ≡ false → ltb m n ≡ true
lt_yes m n h = grind (arith, nat_tests)

pub lt_no : (m n : ℕ) → leb n m ≡ true → ltb m n ≡ false
lt_no m n h = grind (arith, nat_tests)

-- a kept piece sends its bytes where they go
in_piece : (from : ℕ) (x : Placed) (p : PieceMoves) (offset : ℕ) → IsKept from x p → offset_in offset p ≡ x.at + new_depth (offset - from) x.piece
in_piece from x p offset h =
    ap (λ n. n + depth_kept (offset - p.from) p.inserted) h.begins
    ∙ ap (λ n. x.at + depth_kept (offset - n) p.inserted) h.began
    ∙ ap (λ n. x.at + n) (h.depths (offset - from))

-- kept pieces send the bytes of an interval where they go
pub kept_go : (offset from to at : ℕ) (ps : List Piece) (kept : List PieceMoves) → AreKept from (placed_from at ps) kept to
    → offset_among offset kept (end_from at ps) ≡ new_among offset from at (placed_from at ps)
kept_go offset from to at [] [] h = refl
kept_go offset from to at [] (k ∷ ks) h = absurd h
kept_go offset from to at (p ∷ ps) [] h = absurd h
kept_go offset from to at (p ∷ ps) (k ∷ ks) h =
    let start = least_from at (step_of p) 0 in
    let end = start + new_size p in
    let last = end_from end ps in
    let x : Placed = record { at = start; piece = p } in
    let behind : List PieceMoves → Option PieceMoves = find (λ (q : PieceMoves). ltb offset q.until) in
    let rest = kept_go offset (from + old_size p) to end ps ks h.1 in
    let until : ltb offset k.until ≡ ltb offset (from + old_size p) = ap (ltb offset) h.0.ended in
    elim (cases_Bool (ltb offset (from + old_size p))) [
      | inl here ↦
          ap (λ (o : Option PieceMoves). option_map_or (offset_in offset) o last) (cond-true (ltb offset k.until) (Some k) (behind ks) (until ∙ here))
          ∙ in_piece from x k offset h.0
          ∙ sym (cond-true (ltb offset (from + old_size p)) (start + new_depth (offset - from) p) (new_among offset (from + old_size p) end (placed_from end ps)) here)
      | inr past ↦
          ap (λ (o : Option PieceMoves). option_map_or (offset_in offset) o last) (cond-false (ltb offset k.until) (Some k) (behind ks) (until ∙ past))
          ∙ rest
          ∙ sym (cond-false (ltb offset (from + old_size p)) (start + new_depth (offset - from) p) (new_among offset (from + old_size p) end (placed_from end ps)) past)
    ]

-- one piece more
pub kept_more : (from to : ℕ) (xs : List Placed) (ks : List PieceMoves) (x : Placed) (k : PieceMoves) → AreKept from xs ks to → IsKept to x k → AreKept from (xs ++ x ∷ []) (ks ++ k ∷ []) (to + old_size x.piece)
kept_more from to [] [] x k h is = let start : to ≡ from = sym h in (subst (λ n. IsKept n x k) start is, ap (λ n. n + old_size x.piece) h)
kept_more from to [] (l ∷ ls) x k h is = absurd h
kept_more from to (y ∷ ys) [] x k h is = absurd h
kept_more from to (y ∷ ys) (l ∷ ls) x k h is = (h.0, kept_more (from + old_size y.piece) to ys ls x k h.1 is)

-- kept pieces end one behind the other
ends_behind : (from to : ℕ) (xs : List Placed) (ks : List PieceMoves) → AreKept from xs ks to → (j : ℕ) (d : PieceMoves) → j < length ks → from ≤ (get_or ks j d).until
ends_behind from to [] [] h j d lt = absurd (omega arith)
ends_behind from to [] (k ∷ ks) h j d lt = absurd h
ends_behind from to (x ∷ xs) [] h j d lt = absurd h
ends_behind from to (x ∷ xs) (k ∷ ks) h zero d lt = let e = h.0.ended in omega arith
ends_behind from to (x ∷ xs) (k ∷ ks) h (suc j) d lt = let rest = ends_behind (from + old_size x.piece) to xs ks h.1 j d (omega arith) in omega arith

ascends : (k : PieceMoves) (ks : List PieceMoves) (end : ℕ) → k.until ≡ end → ((j : ℕ) (d : PieceMoves) → j < length ks → end ≤ (get_or ks j d).until) → IsNonDecreasingBy (λ (p : PieceMoves). p.until) ks
    → IsNonDecreasingBy (λ (p : PieceMoves). p.until) (k ∷ ks)
ascends k ks end e behind rest zero zero d le lt = omega arith
ascends k ks end e behind rest zero (suc j) d le lt = let after = behind j d (omega arith) in omega arith
ascends k ks end e behind rest (suc i) zero d le lt = absurd (omega arith)
ascends k ks end e behind rest (suc i) (suc j) d le lt = rest i j d (omega arith) (omega arith)

pub kept_ascend : (from to : ℕ) (xs : List Placed) (ks : List PieceMoves) → AreKept from xs ks to → IsNonDecreasingBy (λ (p : PieceMoves). p.until) ks
kept_ascend from to [] [] h = λ i j d le lt. absurd (omega arith)
kept_ascend from to [] (k ∷ ks) h = absurd h
kept_ascend from to (x ∷ xs) [] h = absurd h
kept_ascend from to (x ∷ xs) (k ∷ ks) h = ascends k ks (from + old_size x.piece) h.0.ended (ends_behind (from + old_size x.piece) to xs ks h.1) (kept_ascend (from + old_size x.piece) to xs ks h.1)

-- ---- the loop over pieces

pub end_behind : (at : ℕ) (ps : List Piece) → at ≤ end_from at ps
end_behind at [] = omega arith
end_behind at (p ∷ ps) = let rest = end_behind (least_from at (step_of p) 0 + new_size p) ps in omega arith

abbrev pub next_at : ℕ → Piece → ℕ
next_at end p = least_from end (step_of p) 0

module _ (ps : List Piece) (i end : ℕ) (p : Piece) (lt : i < length ps) (is : p ≡ get_or ps i p) where
  pub end_same : end_from (next_at end p + new_size p) (drop (i + 1) ps) ≡ end_from end (drop i ps)
  end_same = sym (ap (end_from end) (dropped ps i p lt is))

  pub end_most : next_at end p + new_size p ≤ end_from end (drop i ps)
  end_most = let le = end_behind (next_at end p + new_size p) (drop (i + 1) ps) in let same = end_same in omega arith

pub old_least : (p : Piece) → old_size p ≤ new_size p
old_least (CodePiece b) = omega arith
old_least (DataPiece b) = omega arith
old_least (Gap bytes) = omega arith

-- what is kept of the first pieces
pub record KeptSoFar (ps : List Piece) (left : List Piece) (from end : ℕ) (kept : List PieceMoves) : Type 0 where
  pub front : List Placed
  pub are : AreKept 0 front kept from
  pub all : front ++ placed_from end left ≡ placed_from 0 ps
  pub before : from ≤ end
  pub ends : end_from end left ≡ end_from 0 ps

-- one piece more
pub so_far_more : (ps : List Piece) (i from end at size : ℕ) (p : Piece) (k : PieceMoves) (kept new : List PieceMoves) → i < length ps → p ≡ get_or ps i p → at ≡ next_at end p → size ≡ new_size p
    → IsKept from (record { at = at; piece = p }) k → new ≡ kept ++ k ∷ [] → KeptSoFar ps (drop i ps) from end kept → KeptSoFar ps (drop (i + 1) ps) k.until (at + size) new
so_far_more ps i from end at size p k kept new lt is at_is size_is one push h =
    let P : ℕ → ℕ → Type 0 = λ a n. IsKept from (record { at = a; piece = p }) k → KeptSoFar ps (drop (i + 1) ps) k.until (a + n) new in
    let x : Placed = record { at = next_at end p; piece = p } in
    let core : P (next_at end p) (new_size p) = λ here.
    let until : k.until ≡ from + old_size p = here.ended in
    let before : from ≤ end = h.before in
    let least = old_least p in
    record {
      front = h.front ++ x ∷ [];
      are = subst (λ ks. AreKept 0 (h.front ++ x ∷ []) ks k.until) (sym push) (subst (AreKept 0 (h.front ++ x ∷ []) (kept ++ k ∷ [])) (sym until) (kept_more 0 from h.front kept x k h.are here));
      all =
          append_assoc h.front (x ∷ []) (placed_from (next_at end p + new_size p) (drop (i + 1) ps))
          ∙ ap (λ l. h.front ++ l) (sym (ap (placed_from end) (dropped ps i p lt is)))
          ∙ h.all;
      before = omega arith;
      ends = end_same ps i end p lt is ∙ h.ends;
    } in
    subst (λ n. P at n) (sym size_is) (subst (λ a. P a (new_size p)) (sym at_is) core) one

-- all pieces
pub so_far_all : (ps : List Piece) (i from end : ℕ) (kept : List PieceMoves) → length ps ≤ i → KeptSoFar ps (drop i ps) from end kept → AreKept 0 (placed_from 0 ps) kept from × (end ≡ end_from 0 ps)
so_far_all ps i from end kept le h =
    let none = dropped_all ps i le in
    let all : h.front ≡ placed_from 0 ps = sym (append-nil h.front) ∙ sym (ap (λ l. h.front ++ placed_from end l) none) ∙ h.all in
    (subst (λ xs. AreKept 0 xs kept from) all h.are, sym (ap (end_from end) none) ∙ h.ends)
