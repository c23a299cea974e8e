-- Blocks in order: they are those of the file, and where none overlap the next begins behind each one's end.
use Rattle.std.proofs.Common.{◌≡◌, ℕ, ◌+◌, ◌≤◌, ◌<◌, Bool, true, false, List, [], ◌∷◌, map, Some, refl, arith}
use Rattle.std.specs.Prelude.{find, nat_lt, nat_le, if◌then◌else◌}
use Rattle.std.specs.List.{AllByRecursion as Every, zip}
use Rattle.std.specs.Str.{bytes_eq}
use Rattle.std.proofs.lemmas.Bool.{ltb-true, ltb-false, leb-true, and_parts, false_from_ne_true}
use Rattle.gt_model.specs.declared.intervals.Block.{Block}
use Rattle.sym_expr.specs.Linkable.{overlaps_among, is_overlap}
use Rattle.sym_expr.specs.Modules.{end_of, covers, goes_before, put_in_order, in_order}
use Rattle.sym_expr.proofs.Counts.{one, times}
use Rattle.sym_expr.proofs.Lists.{none_of_filter, every_weaker}

-- ---- the same blocks

either_kept : (P : Block → Type 0) (b c : Block) (x : Bool) (bs cs : List Block) → P b → P c → Every P bs → Every P cs → Every P (if x then c ∷ bs else b ∷ c ∷ cs)
either_kept P b c true bs cs h k l n = (k, l)
either_kept P b c false bs cs h k l n = (h, (k, n))

put_each : (P : Block → Type 0) (b : Block) (cs : List Block) → P b → Every P cs → Every P (put_in_order b cs)
put_each P b [] h k = (h, tt)
put_each P b (c ∷ cs) h k = either_kept P b c (goes_before c b) (put_in_order b cs) cs h k.0 (put_each P b cs h k.1) k.1

-- what holds of each block holds of each of the blocks in order
pub each_in_order : (P : Block → Type 0) (bs : List Block) → Every P bs → Every P (in_order bs)
each_in_order P [] h = tt
each_in_order P (b ∷ bs) h = put_each P b (in_order bs) h.0 (each_in_order P bs h.1)

either_back : (P : Block → Type 0) (b c : Block) (x : Bool) (bs cs : List Block) → (Every P bs → P b × Every P cs) → Every P (if x then c ∷ bs else b ∷ c ∷ cs) → P b × Every P (c ∷ cs)
either_back P b c true bs cs f h = let both = f h.1 in (both.0, (h.0, both.1))
either_back P b c false bs cs f h = h

put_back : (P : Block → Type 0) (b : Block) (cs : List Block) → Every P (put_in_order b cs) → P b × Every P cs
put_back P b [] h = h
put_back P b (c ∷ cs) h = either_back P b c (goes_before c b) (put_in_order b cs) cs (put_back P b cs) h

pub each_from_order : (P : Block → Type 0) (bs : List Block) → Every P (in_order bs) → Every P bs
each_from_order P [] h = tt
each_from_order P (b ∷ bs) h =
    let both = put_back P b (in_order bs) h in
    (both.0, each_from_order P bs both.1)

either_times : (id : List ℕ) (key : Block → List ℕ) (b c : Block) (x : Bool) (bs cs : List Block) → times id (map key bs) ≡ one (bytes_eq id (key b)) + times id (map key cs)
    → times id (map key (if x then c ∷ bs else b ∷ c ∷ cs)) ≡ one (bytes_eq id (key b)) + times id (map key (c ∷ cs))
either_times id key b c true bs cs h = omega (arith, h)
either_times id key b c false bs cs h = refl

put_times : (id : List ℕ) (key : Block → List ℕ) (b : Block) (cs : List Block) → times id (map key (put_in_order b cs)) ≡ one (bytes_eq id (key b)) + times id (map key cs)
put_times id key b [] = refl
put_times id key b (c ∷ cs) = either_times id key b c (goes_before c b) (put_in_order b cs) cs (put_times id key b cs)

-- each identifier stands among them as often
pub times_in_order : (id : List ℕ) (key : Block → List ℕ) (bs : List Block) → times id (map key (in_order bs)) ≡ times id (map key bs)
times_in_order id key [] = refl
times_in_order id key (b ∷ bs) =
    let rest = times_in_order id key bs in
    let here = put_times id key b (in_order bs) in
    omega (arith, rest, here)

-- ---- one behind the other

-- each block begins behind the end of the one before it
abbrev pub Behind : ℕ → List Block → Type 0
Behind at [] = Unit {0}
Behind at (b ∷ bs) = (at ≤ b.offset) × Behind (end_of b) bs

chain_of : (b : Block) (bs : List Block) → Every (λ p. is_overlap p ≡ false) (zip (b ∷ bs) bs) → Behind (end_of b) bs
chain_of b [] h = tt
chain_of b (c ∷ cs) h = (ltb-false c.offset (end_of b) h.0, chain_of c cs h.1)

pub behind_of : (bs : List Block) → overlaps_among bs ≡ [] → Behind 0 bs
behind_of [] e = tt
behind_of (b ∷ bs) e = (omega arith, chain_of b bs (none_of_filter is_overlap (zip (b ∷ bs) bs) e))

later : (at : ℕ) (b : Block) (c : Block) → at ≤ b.offset → end_of b ≤ c.offset → at ≤ c.offset
later at b c h k = omega (arith, h, k)

pub all_behind : (at : ℕ) (bs : List Block) → Behind at bs → Every (λ (c : Block). at ≤ c.offset) bs
all_behind at [] h = tt
all_behind at (b ∷ bs) h = (h.0, every_weaker (λ (c : Block). end_of b ≤ c.offset) (λ (c : Block). at ≤ c.offset) (λ c k. later at b c h.0 k) bs (all_behind (end_of b) bs h.1))

-- ---- the block of a byte

pub covers_parts : (at : ℕ) (b : Block) → covers at b ≡ true → (b.offset ≤ at) × (at < end_of b)
covers_parts at b h =
    let both = and_parts (nat_le b.offset at) (nat_lt at (end_of b)) h in
    (leb-true b.offset at both.0, ltb-true at (end_of b) both.1)

apart_covers : (at : ℕ) (b c : Block) → end_of b ≤ c.offset → covers at c ≡ true → covers at b ≡ false
apart_covers at b c h k = false_from_ne_true (covers at b) (λ l.
    let p = covers_parts at c k in
    let q = covers_parts at b l in
    omega (arith, p.0, q.1, h))

find_first : {X : Type 0} (test : X → Bool) (x : X) (xs : List X) → test x ≡ true → find test (x ∷ xs) ≡ Some x
find_first test x xs h = rw h refl

find_next : {X : Type 0} (test : X → Bool) (x y : X) (xs : List X) → test x ≡ false → find test xs ≡ Some y → find test (x ∷ xs) ≡ Some y
find_next test x y xs h k = rw h k

-- a byte that a block has is found there
pub home_is : (at : ℕ) (from : ℕ) (bs : List Block) → Behind from bs → Every (λ b. covers at b ≡ true → find (covers at) bs ≡ Some b) bs
home_is at from [] h = tt
home_is at from (b ∷ bs) h = (
  λ k. find_first (covers at) b bs k,
  further at b bs bs (all_behind (end_of b) bs h.1) (home_is at (end_of b) bs h.1),
)
  where
    further : (at : ℕ) (b : Block) (all cs : List Block) → Every (λ (c : Block). end_of b ≤ c.offset) cs → Every (λ c. covers at c ≡ true → find (covers at) all ≡ Some c) cs → Every (λ c. covers at c ≡ true → find (covers at) (b ∷ all) ≡ Some c) cs
    further at b all [] h k = tt
    further at b all (c ∷ cs) h k = (λ l. find_next (covers at) b c all (apart_covers at b c h.0 l) (k.0 l), further at b all cs h.1 k.1)
