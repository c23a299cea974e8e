-- Pieces of a program lie inside their intervals, apart from each other and from the stack.
use Rattle.std.proofs.Common.{ℕ, ◌+◌, ◌^◌, ◌<◌, ◌≤◌, ◌⊎◌, inl, inr, List, [], ◌∷◌, ◌++◌, map, arith}
use Rattle.std.specs.List.{AllByRecursion as Every, flat_map}
use Rattle.sym_expr.specs.declared.layout.Layout.{Layout}
use Rattle.sym_expr.specs.declared.program.Piece.{Piece}
use Rattle.sym_expr.specs.declared.program.Program.{Program}
use Rattle.sym_expr.specs.declared.program.Stretch.{Stretch}
use Rattle.sym_expr.specs.Images.{addressed}
use Rattle.sym_expr.specs.Layouts.{accepted, address_of, IsInside, placed as placed_spot, placed_stack, AreApart as SpotsApart}
use Rattle.sym_expr.specs.Placing.{Placed, end_from, new_size, placed, placed_from, shape_of, spot_of, stretch_size}
use Rattle.simulation.specs.Placed.{AreApart}
use Rattle.placed_images.proofs.Found.{all_addressed}
use Rattle.placed_images.proofs.Lengths.{next_at}
use Rattle.placed_images.proofs.Lists.{Pairs, SameOr, each_two, every_both, every_flat, every_front, every_map, every_mapped, every_weaker, pairs_append, pairs_from, pairs_front, pairs_last, pairs_map, pairs_mapped}

-- ---- inside an interval

abbrev Between : ℕ → ℕ → Placed → Type 0
Between low high x = (low ≤ x.at) × (x.at + new_size x.piece ≤ high)

later : (low from high : ℕ) (xs : List Placed) → low ≤ from → Every (Between from high) xs → Every (Between low high) xs
later low from high xs le h = every_weaker (Between from high) (Between low high) (λ x k. let first = k.0 in (omega arith, k.1)) xs h

pub end_most : (end : ℕ) (ps : List Piece) → end ≤ end_from end ps
end_most end [] = omega arith
end_most end (p ∷ ps) = let rest = end_most (next_at end p + new_size p) ps in omega arith

between : (end : ℕ) (ps : List Piece) → Every (Between end (end_from end ps)) (placed_from end ps)
between end [] = tt
between end (p ∷ ps) =
    let at = next_at end p in
    let most = end_most (at + new_size p) ps in
    ((omega arith, most), later end (at + new_size p) (end_from (at + new_size p) ps) (placed_from (at + new_size p) ps) (omega arith) (between (at + new_size p) ps))

abbrev Ascend : Placed → Placed → Type 0
Ascend x y = x.at + new_size x.piece ≤ y.at

ascending : (end : ℕ) (ps : List Piece) → Pairs Ascend (placed_from end ps)
ascending end [] = tt
ascending end (p ∷ ps) =
    let at = next_at end p in (
      every_weaker (Between (at + new_size p) (end_from (at + new_size p) ps)) (λ y. at + new_size p ≤ y.at) (λ y h. h.0) (placed_from (at + new_size p) ps) (between (at + new_size p) ps),
      ascending (at + new_size p) ps,
    )

-- ---- at addresses

-- a piece lies in its interval
abbrev pub Within : Layout → Stretch → Placed → Type 0
Within l s x = Between (address_of l s.id) (address_of l s.id + stretch_size s) x

pub all_within : (l : Layout) (s : Stretch) → Every (Within l s) (addressed l s)
all_within l s =
    every_map (λ (x : Placed). record x { at = address_of l s.id + x.at }) (Within l s) (placed s)
    (every_weaker (Between 0 (stretch_size s)) (λ (x : Placed). Within l s (record x { at = address_of l s.id + x.at })) (λ x h. let high = h.1 in (omega arith, omega arith)) (placed s) (between 0 s.pieces))

-- two pieces share no byte
abbrev pub OffEach : Placed → Placed → Type 0
OffEach x y = 0 < new_size x.piece → 0 < new_size y.piece → AreApart x.at (new_size x.piece) y.at (new_size y.piece)

pub off_turned : (x y : Placed) → OffEach x y → OffEach y x
off_turned x y h k l = turn (h l k)
  where
    turn : AreApart x.at (new_size x.piece) y.at (new_size y.piece) → AreApart y.at (new_size y.piece) x.at (new_size x.piece)
    turn (inl e) = inr e
    turn (inr e) = inl e

off_inside : (l : Layout) (s : Stretch) → Pairs OffEach (addressed l s)
off_inside l s =
    pairs_map (λ (x : Placed). record x { at = address_of l s.id + x.at }) OffEach (placed s) (lifted (placed s) (ascending 0 s.pieces))
  where
    lifted : (xs : List Placed) → Pairs Ascend xs → Pairs (λ (x y : Placed). OffEach (record x { at = address_of l s.id + x.at }) (record y { at = address_of l s.id + y.at })) xs
    lifted [] h = tt
    lifted (x ∷ xs) h = (
      every_weaker (Ascend x) (λ (y : Placed). OffEach (record x { at = address_of l s.id + x.at }) (record y { at = address_of l s.id + y.at })) (λ y k some other. inl (omega arith)) xs h.0,
      lifted xs h.1,
    )

-- two intervals share none
abbrev pub Off : Layout → Stretch → Stretch → Type 0
Off l s t = SpotsApart (placed_spot l (spot_of s)) (placed_spot l (spot_of t))

off_across : (l : Layout) (s t : Stretch) (x y : Placed) → Off l s t → Within l s x → Within l t y → OffEach x y
off_across l s t x y off in_s in_t some other =
    let a = in_s.0 in
    let b = in_s.1 in
    let c = in_t.0 in
    let d = in_t.1 in
    from (off (omega arith) (omega arith))
  where
    from : (address_of l s.id + stretch_size s ≤ address_of l t.id) ⊎ (address_of l t.id + stretch_size t ≤ address_of l s.id) → AreApart x.at (new_size x.piece) y.at (new_size y.piece)
    from (inl e) = let b = in_s.1 in let c = in_t.0 in inl (omega arith)
    from (inr e) = let a = in_s.0 in let d = in_t.1 in inr (omega arith)

off_rest : (l : Layout) (s : Stretch) (ts : List Stretch) (x : Placed) → Within l s x → Every (Off l s) ts → Every (OffEach x) (flat_map (addressed l) ts)
off_rest l s ts x inside off =
    every_flat (addressed l) (OffEach x) ts
    (every_weaker (Off l s) (λ (t : Stretch). Every (OffEach x) (addressed l t)) (λ t apart. every_weaker (Within l t) (OffEach x) (λ y k. off_across l s t x y apart inside k) (addressed l t) (all_within l t)) ts off)

off_all : (l : Layout) (ss : List Stretch) → Pairs (Off l) ss → Pairs OffEach (flat_map (addressed l) ss)
off_all l [] off = tt
off_all l (s ∷ ss) off =
    pairs_append OffEach (addressed l s) (flat_map (addressed l) ss) (off_inside l s)
    (every_weaker (Within l s) (λ (x : Placed). Every (OffEach x) (flat_map (addressed l) ss)) (λ x k. off_rest l s ss x k off.0) (addressed l s) (all_within l s))
    (off_all l ss off.1)

-- ---- under an accepted layout

-- an interval shares no byte with the stack
abbrev pub OffStack : Layout → Stretch → Type 0
OffStack l s = SpotsApart (placed_spot l (spot_of s)) (placed_stack l)

abbrev pub InBounds : Layout → Stretch → Type 0
InBounds l s = IsInside (placed_spot l (spot_of s))

-- a piece lies from 4096 to 2 ^ 47, and shares no byte with the stack
abbrev pub Lies : Layout → Placed → Type 0
Lies l x = (4096 ≤ x.at) × (x.at + new_size x.piece ≤ 2 ^ 47) × (0 < new_size x.piece → AreApart x.at (new_size x.piece) l.stack_at l.stack_size)

module _ (l : Layout) (g : Program) (laid : accepted l (shape_of g)) where
  pairs_of_spots : Pairs SpotsApart (map (placed_spot l) (map spot_of g.stretches) ++ placed_stack l ∷ [])
  pairs_of_spots = pairs_from SpotsApart (map (placed_spot l) (map spot_of g.stretches) ++ placed_stack l ∷ []) laid.apart

  pub all_in_bounds : Every (InBounds l) g.stretches
  all_in_bounds =
      every_mapped spot_of (λ s. IsInside (placed_spot l s)) g.stretches
      (every_mapped (placed_spot l) IsInside (map spot_of g.stretches) (every_front IsInside (map (placed_spot l) (map spot_of g.stretches)) (placed_stack l ∷ []) laid.inside))

  pub all_off_stack : Every (OffStack l) g.stretches
  all_off_stack =
      every_mapped spot_of (λ s. SpotsApart (placed_spot l s) (placed_stack l)) g.stretches
      (every_mapped (placed_spot l) (λ x. SpotsApart x (placed_stack l)) (map spot_of g.stretches) (pairs_last SpotsApart (map (placed_spot l) (map spot_of g.stretches)) (placed_stack l) pairs_of_spots))

  pub all_off : Pairs (Off l) g.stretches
  all_off =
      pairs_mapped spot_of (λ s t. SpotsApart (placed_spot l s) (placed_spot l t)) g.stretches
      (pairs_mapped (placed_spot l) SpotsApart (map spot_of g.stretches) (pairs_front SpotsApart (map (placed_spot l) (map spot_of g.stretches)) (placed_stack l ∷ []) pairs_of_spots))

  pub off_turned_spots : (s t : Stretch) → Off l s t → Off l t s
  off_turned_spots s t h a b = turn (h b a)
    where
      turn : (address_of l s.id + stretch_size s ≤ address_of l t.id) ⊎ (address_of l t.id + stretch_size t ≤ address_of l s.id) → (address_of l t.id + stretch_size t ≤ address_of l s.id) ⊎ (address_of l s.id + stretch_size s ≤ address_of l t.id)
      turn (inl e) = inr e
      turn (inr e) = inl e

  -- each two intervals are the same or share no byte, and so are each two pieces
  pub stretches_two : Every (λ s. Every (SameOr (Off l) s) g.stretches) g.stretches
  stretches_two = each_two (Off l) off_turned_spots g.stretches all_off

  pub pieces_two : Every (λ x. Every (SameOr OffEach x) (all_addressed l g)) (all_addressed l g)
  pieces_two = each_two OffEach off_turned (all_addressed l g) (off_all l g.stretches all_off)

  lies_one : (s : Stretch) (x : Placed) → InBounds l s → OffStack l s → Within l s x → Lies l x
  lies_one s x bounds off inside =
      let low = bounds.low in
      let high = bounds.high in
      let a = inside.0 in
      let b = inside.1 in
      let c = laid.stack_size.some in
      (omega arith, omega arith, (λ some. from (off (omega arith) (omega arith))))
    where
      from : (address_of l s.id + stretch_size s ≤ l.stack_at) ⊎ (l.stack_at + l.stack_size ≤ address_of l s.id) → AreApart x.at (new_size x.piece) l.stack_at l.stack_size
      from (inl e) = let b = inside.1 in inl (omega arith)
      from (inr e) = let a = inside.0 in inr (omega arith)

  pub all_lie : Every (Lies l) (all_addressed l g)
  all_lie =
      every_flat (addressed l) (Lies l) g.stretches
      (every_weaker (λ s. InBounds l s × OffStack l s) (λ (s : Stretch). Every (Lies l) (addressed l s)) (λ s h. every_weaker (Within l s) (Lies l) (λ x k. lies_one s x h.0 h.1 k) (addressed l s) (all_within l s)) g.stretches
      (every_both (InBounds l) (OffStack l) g.stretches all_in_bounds all_off_stack))
