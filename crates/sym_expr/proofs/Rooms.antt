-- The new size of an interval: less than 4096 bytes stand before each block that has bytes, and each inserted word has four.
use Rattle.std.proofs.Common.{◌≡◌, ℕ, zero, suc, ◌+◌, ◌-◌, ◌*◌, ◌/◌, ◌%◌, ◌^◌, ◌≤◌, ◌<◌, Bool, true, false, List, [], ◌∷◌, ◌++◌, length, map, Option, Some, None, refl, arith}
use Rattle.std.specs.Prelude.{◌&&◌, ◌==◌, sum_by, if◌then◌else◌}
use Rattle.std.specs.List.{AllByRecursion as Every, flat_map}
use Rattle.std.proofs.lemmas.List.{length-map}
use Rattle.std.proofs.lemmas.List.Sums.{sum_by-cons}
use Rattle.std.proofs.lemmas.Nat.{mod_below}
use Rattle.std.proofs.Math.Nat.{pow-suc}
use Rattle.gt_model.specs.declared.intervals.Block.{Block}
use Rattle.gt_model.specs.declared.intervals.Interval.{Interval}
use Rattle.gt_model.specs.declared.modules.Module.{Module}
use Rattle.sym_expr.specs.declared.program.Piece.{Piece}
use Rattle.sym_expr.specs.declared.program.Piece.TheVariants.{Code as CodePiece, Data as DataPiece, Gap}
use Rattle.sym_expr.specs.Layouts.{least_from}
use Rattle.sym_expr.specs.Linkable.{total_size}
use Rattle.sym_expr.specs.Modules.{bytes_at, is_code, id_of, size_of, end_of, in_order}
use Rattle.sym_expr.specs.declared.patches.PatchTable.{PatchTable}
use Rattle.sym_expr.specs.declared.patches.PatchWord.{PatchWord}
use Rattle.sym_expr.specs.declared.program.Word.{Word}
use Rattle.sym_expr.specs.Patches.{inserted_in}
use Rattle.sym_expr.specs.Placing.{new_size, step_of, end_from, stretch_size}
use Rattle.sym_expr.specs.Points.{data_size}
use Rattle.sym_expr.specs.Program.{code_block, data_block, piece, gap, pieces, stretch, patched_word}
use Rattle.sym_expr.specs.Tables.{Tables, common_power, effective}
use Rattle.sym_expr.proofs.Holders.{block_ids_of}
use Rattle.sym_expr.proofs.Orders.{Behind}
use Rattle.sym_expr.proofs.Tiles.{length-bytes_at, length-own_words}

-- ---- alignments

pub record IsStep (s : ℕ) : Type 0 where
  pub some : 1 ≤ s
  pub small : s ≤ 4096

power_up : (k a b : ℕ) (x : Bool) → (1 ≤ common_power k a b) × (common_power k a b ≤ 2 ^ k) → (1 ≤ (if x then 2 ^ suc k else common_power k a b)) × ((if x then 2 ^ suc k else common_power k a b) ≤ 2 ^ suc k)
power_up k a b true h = let twice : 2 ^ suc k ≡ 2 ^ k * 2 = pow-suc 2 k in (omega (arith, h.0, h.1, twice), omega arith)
power_up k a b false h = let twice : 2 ^ suc k ≡ 2 ^ k * 2 = pow-suc 2 k in (h.0, omega (arith, h.1, twice))

power_bounds : (k a b : ℕ) → (1 ≤ common_power k a b) × (common_power k a b ≤ 2 ^ k)
power_bounds zero a b = (omega arith, omega arith)
power_bounds (suc k) a b = power_up k a b ((a % 2 ^ suc k == 0) && (b % 2 ^ suc k == 0)) (power_bounds k a b)

step_if : (x y : Bool) (n : ℕ) → IsStep n → IsStep (if x then 1 else if y then 1 else n)
step_if true y n h = record { some = omega arith; small = omega arith }
step_if false true n h = record { some = omega arith; small = omega arith }
step_if false false n h = h

pub effective_step : (o : Option ℕ) (size offset : ℕ) → IsStep (effective o size offset)
effective_step None size offset = record { some = omega arith; small = omega arith }
effective_step (Some entry) size offset =
    let bounds = power_bounds 12 entry offset in
    step_if (size == 0) (entry == 0) (common_power 12 entry offset) (record { some = bounds.0; small = bounds.1 })

pub empty_step : (o : Option ℕ) (offset : ℕ) → effective o 0 offset ≡ 1
empty_step None offset = refl
empty_step (Some entry) offset = refl

pub least_room : (a s : ℕ) → 1 ≤ s → least_from a s 0 < a + s
least_room a s h =
    let below = mod_below (0 + (s - a % s)) s h in
    omega (arith, below)

-- ---- one piece

data_room : (o : Option ℕ) (a n size offset : ℕ) → n ≡ size → least_from a (effective o n offset) 0 + n ≤ a + 4096 * size
data_room o a zero size offset e =
    let one = empty_step o offset in
    let below = least_room a (effective o 0 offset) (omega (arith, one)) in
    omega (arith, one, below, e)
data_room o a (suc n) size offset e =
    let step = effective_step o (suc n) offset in
    let below = least_room a (effective o (suc n) offset) step.some in
    let small = step.small in
    omega (arith, small, below, e)

-- how many words are inserted in a block, and in several
abbrev pub put_in : PatchTable → List ℕ → ℕ
put_in p id = length (inserted_in p id)

abbrev pub put_among : PatchTable → List (List ℕ) → ℕ
put_among p [] = 0
put_among p (id ∷ ids) = put_in p id + put_among p ids

pub put_append : (p : PatchTable) (xs ys : List (List ℕ)) → put_among p (xs ++ ys) ≡ put_among p xs + put_among p ys
put_append p [] ys = omega arith
put_append p (x ∷ xs) ys = let rest = put_append p xs ys in omega (arith, rest)

piece_room : (m : Module) (t : Tables) (p : PatchTable) (i : Interval) (b : Block) (a : ℕ) (x : Bool)
    → let q : Piece = if x then CodePiece (code_block m p i b) else DataPiece (data_block m t p i b) in least_from a (step_of q) 0 + new_size q ≤ a + (4096 * size_of b + 4 * put_in p (id_of b))
piece_room m t p i b a true =
    let count = length-own_words m p i b.offset (size_of b / 4) in
    let more : length (code_block m p i b).inserted ≡ put_in p (id_of b) = length-map (inserted_in p (id_of b)) (λ (w : ℕ × PatchWord). let v : ℕ × Word = (w.0, patched_word m p w.1) in v) in
    omega (arith, count, more)
piece_room m t p i b a false =
    let room = data_room (data_block m t p i b).alignment a (data_size (data_block m t p i b)) (size_of b) b.offset (length-bytes_at i b.offset (size_of b)) in
    omega (arith, room)

gap_room : (i : Interval) (from to a : ℕ) (x : Bool) → end_from a (if x then [] else Gap (bytes_at i from (to - from)) ∷ []) ≤ a + (to - from)
gap_room i from to a true = omega arith
gap_room i from to a false =
    let count = length-bytes_at i from (to - from) in
    omega (arith, count)

-- ---- all pieces

end_append : (a : ℕ) (ps qs : List Piece) → end_from a (ps ++ qs) ≡ end_from (end_from a ps) qs
end_append a [] qs = refl
end_append a (p ∷ ps) qs = end_append (least_from a (step_of p) 0 + new_size p) ps qs

pub pieces_room : (m : Module) (t : Tables) (p : PatchTable) (i : Interval) (at : ℕ) (bs : List Block) (a : ℕ) → Behind at bs → Every (λ b. end_of b ≤ i.size) bs → end_from a (pieces m t p i at bs) ≤ a + (4096 * (i.size - at) + 4 * put_among p (map id_of bs))
pieces_room m t p i at [] a h k = let room = gap_room i at i.size a (i.size - at == 0) in omega (arith, room)
pieces_room m t p i at (b ∷ bs) a h k =
    let q : Piece = piece m t p i b in
    let start : ℕ = end_from a (gap i at b.offset) in
    let whole = end_append a (gap i at b.offset) (q ∷ pieces m t p i (end_of b) bs) in
    let before = gap_room i at b.offset a (b.offset - at == 0) in
    let here = piece_room m t p i b start (is_code b) in
    let rest = pieces_room m t p i (end_of b) bs (least_from start (step_of q) 0 + new_size q) h.1 k.1 in
    let behind = h.0 in
    let inside = k.0 in
    sums (end_from a (pieces m t p i at (b ∷ bs))) (end_from start (q ∷ pieces m t p i (end_of b) bs)) a start (least_from start (step_of q) 0 + new_size q) at b.offset (size_of b) i.size (put_in p (id_of b)) (put_among p (map id_of bs)) whole before here rest behind inside
  where
    sums : (all tail a start middle at offset size most put more : ℕ) → all ≡ tail → start ≤ a + (offset - at) → middle ≤ start + (4096 * size + 4 * put) → tail ≤ middle + (4096 * (most - (offset + size)) + 4 * more) → at ≤ offset → offset + size ≤ most → all ≤ a + (4096 * (most - at) + 4 * (put + more))
    sums all tail a start middle at offset size most put more e f g h k l = omega arith

-- ---- all intervals

-- the blocks of an interval lie in it, one behind the other
pub record IsLaid (i : Interval) : Type 0 where
  pub behind : Behind 0 (in_order i.blocks)
  pub inside : Every (λ b. end_of b ≤ i.size) (in_order i.blocks)

pub stretches_room : (m : Module) (t : Tables) (p : PatchTable) (is : List Interval) → Every IsLaid is → sum_by stretch_size (map (stretch m t p) is) ≤ 4096 * total_size is + 4 * put_among p (flat_map block_ids_of is)
stretches_room m t p [] h = omega arith
stretches_room m t p (i ∷ is) h =
    let all = sum_by-cons stretch_size (stretch m t p i) (map (stretch m t p) is) in
    let sizes = sum_by-cons (λ (i : Interval). i.size) i is in
    let here = pieces_room m t p i 0 (in_order i.blocks) 0 h.0.behind h.0.inside in
    let rest = stretches_room m t p is h.1 in
    let puts = put_append p (block_ids_of i) (flat_map block_ids_of is) in
    sums (sum_by stretch_size (map (stretch m t p) (i ∷ is))) (stretch_size (stretch m t p i)) (sum_by stretch_size (map (stretch m t p) is)) (total_size (i ∷ is)) i.size (total_size is) (put_among p (flat_map block_ids_of (i ∷ is))) (put_among p (block_ids_of i)) (put_among p (flat_map block_ids_of is)) all sizes puts here rest
  where
    sums : (all first others total size rest put here more : ℕ) → all ≡ first + others → total ≡ size + rest → put ≡ here + more → first ≤ 0 + (4096 * (size - 0) + 4 * here) → others ≤ 4096 * rest + 4 * more → all ≤ 4096 * total + 4 * put
    sums all first others total size rest put here more e f g h k = omega arith
