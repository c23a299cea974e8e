-- The new places of the blocks of an interval: each is found by its identifier, and they lie one behind the other.
use Rattle.std.proofs.Common.{◌≡◌, ℕ, zero, suc, ◌+◌, ◌-◌, ◌%◌, ◌≤◌, Bool, true, false, List, [], ◌∷◌, ◌++◌, length, map, Some, refl, sym, ap, ◌∙◌, arith}
use Rattle.std.specs.Prelude.{find, ◌==◌, if◌then◌else◌}
use Rattle.std.specs.List.{AllByRecursion as Every, IsDistinct}
use Rattle.std.specs.Option.{option_map_or}
use Rattle.std.specs.Str.{bytes_eq}
use Rattle.std.proofs.Math.Nat.{mod_self}
use Rattle.std.proofs.lemmas.Bool.{eqb-true, false_from_ne_true, both_ways}
use Rattle.std.proofs.lemmas.Slice.Eq.{bytes_eq-Decides}
use Rattle.gt_model.specs.declared.intervals.Block.{Block}
use Rattle.gt_model.specs.declared.intervals.Interval.{Interval}
use Rattle.gt_model.specs.declared.modules.Module.{Module}
use Rattle.sym_expr.specs.declared.patches.PatchTable.{PatchTable}
use Rattle.sym_expr.specs.declared.program.Piece.{Piece}
use Rattle.sym_expr.specs.declared.program.Piece.TheVariants.{Code as CodePiece, Data as DataPiece, Gap}
use Rattle.sym_expr.specs.Images.{is_block}
use Rattle.sym_expr.specs.Layouts.{least_from}
use Rattle.sym_expr.specs.Modules.{bytes_at, end_of, id_of, is_code, size_of}
use Rattle.sym_expr.specs.Placing.{Placed, new_size, placed_from, step_of}
use Rattle.sym_expr.specs.Program.{code_block, data_block, piece, pieces}
use Rattle.sym_expr.specs.Tables.{Tables}
use Rattle.repaired_programs.proofs.Lists.{every_both, every_weaker, Pairs}

-- the place of a piece behind an end
abbrev pub place_of : ℕ → Piece → ℕ
place_of end p = least_from end (step_of p) 0

-- blocks with their new places, where the pieces before them have the bytes up to an old offset and end at a new one
abbrev pub spots : (Block → Piece) → ℕ → ℕ → List Block → List (ℕ × Block)
spots f end at [] = []
spots f end at (b ∷ bs) =
    (place_of (end + (b.offset - at)) (f b), b) ∷ spots f (place_of (end + (b.offset - at)) (f b) + new_size (f b)) (end_of b) bs

pub length-bytes_at : (i : Interval) (at n : ℕ) → length (bytes_at i at n) ≡ n
length-bytes_at i at zero = refl
length-bytes_at i at (suc n) = ap suc (length-bytes_at i (at + 1) n)

pub no_padding : (at n : ℕ) → at % n ≡ 0 → least_from at n 0 ≡ at
no_padding at n h =
    let whole : 0 + (n - at % n) ≡ n = omega (arith, h) in
    let none : (0 + (n - at % n)) % n ≡ 0 = ap (λ k. k % n) whole ∙ mod_self n in
    omega (arith, none)

-- ---- the place that an identifier has

abbrev pub start_in : List ℕ → List Placed → ℕ
start_in id xs = option_map_or (λ (x : Placed). x.at) (find (λ (x : Placed). is_block id x.piece) xs) 0

gap_start : (id : List ℕ) (i : Interval) (from to end : ℕ) (x : Bool) (ps : List Piece) → (to - from == 0) ≡ x
    → start_in id (placed_from end ((if x then [] else Gap (bytes_at i from (to - from)) ∷ []) ++ ps)) ≡ start_in id (placed_from (end + (to - from)) ps)
gap_start id i from to end true ps e = let none = eqb-true (to - from) 0 e in let same : end ≡ end + (to - from) = omega (arith, none) in ap (λ n. start_in id (placed_from n ps)) same
gap_start id i from to end false ps e =
    let count = length-bytes_at i from (to - from) in
    let still = no_padding end 1 (omega arith) in
    let same : least_from end 1 0 + length (bytes_at i from (to - from)) ≡ end + (to - from) = omega (arith, count, still) in
    ap (λ n. start_in id (placed_from n ps)) same

pick : (id : List ℕ) (x : Placed) (xs : List Placed) (c : Bool) → is_block id x.piece ≡ c → start_in id (x ∷ xs) ≡ (if c then x.at else start_in id xs)
pick id x xs true e = ap (λ c. option_map_or (λ (y : Placed). y.at) (if c then Some x else find (λ (y : Placed). is_block id y.piece) xs) 0) e
pick id x xs false e = ap (λ c. option_map_or (λ (y : Placed). y.at) (if c then Some x else find (λ (y : Placed). is_block id y.piece) xs) 0) e

its_id : (m : Module) (t : Tables) (p : PatchTable) (i : Interval) (b : Block) (id : List ℕ) (x : Bool)
    → is_block id (if x then CodePiece (code_block m p i b) else DataPiece (data_block m t p i b)) ≡ bytes_eq id (id_of b)
its_id m t p i b id true = refl
its_id m t p i b id false = refl

abbrev among : Module → Tables → PatchTable → Interval → ℕ → ℕ → List Block → List Placed
among m t p i end at bs = placed_from end (pieces m t p i at bs)

first_start : (m : Module) (t : Tables) (p : PatchTable) (i : Interval) (end at : ℕ) (b : Block) (bs : List Block) (id : List ℕ) (c : Bool) → bytes_eq id (id_of b) ≡ c
    → let place : ℕ = place_of (end + (b.offset - at)) (piece m t p i b) in start_in id (among m t p i end at (b ∷ bs)) ≡ (if c then place else start_in id (among m t p i (place + new_size (piece m t p i b)) (end_of b) bs))
first_start m t p i end at b bs id c e =
    let from : ℕ = end + (b.offset - at) in
    let place : ℕ = place_of from (piece m t p i b) in
    gap_start id i at b.offset end (b.offset - at == 0) (piece m t p i b ∷ pieces m t p i (end_of b) bs) refl
    ∙ pick id (record { at = place; piece = piece m t p i b }) (among m t p i (place + new_size (piece m t p i b)) (end_of b) bs) c (its_id m t p i b id (is_code b) ∙ e)

turned : (a b : List ℕ) → bytes_eq a b ≡ false → bytes_eq b a ≡ false
turned a b h = false_from_ne_true (bytes_eq b a) (λ e. both_ways (bytes_eq a b) h ((bytes_eq-Decides a b).1 (sym ((bytes_eq-Decides b a).0 e))))

others : (f : Block → Piece) (b : Block) (end at : ℕ) (bs : List Block) → Every (λ y. bytes_eq (id_of b) y ≡ false) (map id_of bs) → Every (λ (x : ℕ × Block). bytes_eq (id_of x.1) (id_of b) ≡ false) (spots f end at bs)
others f b end at [] h = tt
others f b end at (c ∷ cs) h = (turned (id_of b) (id_of c) h.0, others f b (place_of (end + (c.offset - at)) (f c) + new_size (f c)) (end_of c) cs h.1)

-- each block is found by its identifier
pub all_start : (m : Module) (t : Tables) (p : PatchTable) (i : Interval) (end at : ℕ) (bs : List Block) → IsDistinct bytes_eq (map id_of bs)
    → Every (λ (x : ℕ × Block). start_in (id_of x.1) (among m t p i end at bs) ≡ x.0) (spots (piece m t p i) end at bs)
unfolding IsDistinct
all_start m t p i end at [] d = tt
all_start m t p i end at (b ∷ bs) d =
    let f : Block → Piece = piece m t p i in
    let place : ℕ = place_of (end + (b.offset - at)) (f b) in
    let next : ℕ = place + new_size (f b) in (
      first_start m t p i end at b bs (id_of b) true ((bytes_eq-Decides (id_of b) (id_of b)).1 refl),
      every_weaker (λ (x : ℕ × Block). (bytes_eq (id_of x.1) (id_of b) ≡ false) × (start_in (id_of x.1) (among m t p i next (end_of b) bs) ≡ x.0)) (λ (x : ℕ × Block). start_in (id_of x.1) (among m t p i end at (b ∷ bs)) ≡ x.0)
          (λ x h. first_start m t p i end at b bs (id_of x.1) false h.0 ∙ h.1) (spots f next (end_of b) bs)
          (every_both (λ (x : ℕ × Block). bytes_eq (id_of x.1) (id_of b) ≡ false) (λ (x : ℕ × Block). start_in (id_of x.1) (among m t p i next (end_of b) bs) ≡ x.0) (spots f next (end_of b) bs) (others f b next (end_of b) bs d.0) (all_start m t p i next (end_of b) bs d.1)),
    )

-- ---- one behind the other

-- each block begins behind the end of the one before it
abbrev pub Behind : ℕ → List Block → Type 0
Behind at [] = Unit {0}
Behind at (b ∷ bs) = (at ≤ b.offset) × Behind (end_of b) bs

-- the second is as far behind the first as it was, at least
pub record IsApart (f : Block → Piece) (x y : ℕ × Block) : Type 0 where
  pub order : end_of x.1 ≤ y.1.offset
  pub room : x.0 + new_size (f x.1) + (y.1.offset - end_of x.1) ≤ y.0

pub record IsFrom (end at : ℕ) (y : ℕ × Block) : Type 0 where
  pub order : at ≤ y.1.offset
  pub room : end + (y.1.offset - at) ≤ y.0

-- no piece is smaller than its block
abbrev pub IsLarge : (Block → Piece) → Block → Type 0
IsLarge f b = size_of b ≤ new_size (f b)

further : (f : Block → Piece) (end at : ℕ) (b : Block) (y : ℕ × Block) → at ≤ b.offset → IsLarge f b → IsFrom (place_of (end + (b.offset - at)) (f b) + new_size (f b)) (end_of b) y → IsFrom end at y
further f end at b y le large h =
    let order = h.order in
    let room = h.room in
    record { order = omega (arith, le, order); room = omega (arith, le, large, order, room) }

all_from : (f : Block → Piece) (end at : ℕ) (bs : List Block) → Behind at bs → Every (IsLarge f) bs → Every (IsFrom end at) (spots f end at bs)
all_from f end at [] h k = tt
all_from f end at (b ∷ bs) h k =
    let next : ℕ = place_of (end + (b.offset - at)) (f b) + new_size (f b) in (
      record { order = h.0; room = omega arith },
      every_weaker (IsFrom next (end_of b)) (IsFrom end at) (λ y l. further f end at b y h.0 k.0 l) (spots f next (end_of b) bs) (all_from f next (end_of b) bs h.1 k.1),
    )

pub all_apart : (f : Block → Piece) (end at : ℕ) (bs : List Block) → Behind at bs → Every (IsLarge f) bs → Pairs (IsApart f) (spots f end at bs)
all_apart f end at [] h k = tt
all_apart f end at (b ∷ bs) h k =
    let place : ℕ = place_of (end + (b.offset - at)) (f b) in
    let next : ℕ = place + new_size (f b) in (
      every_weaker (IsFrom next (end_of b)) (IsApart f (place, b)) (λ y l. record { order = l.order; room = l.room }) (spots f next (end_of b) bs) (all_from f next (end_of b) bs h.1 k.1),
      all_apart f next (end_of b) bs h.1 k.1,
    )
