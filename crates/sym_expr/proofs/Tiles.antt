-- The pieces of an interval whose blocks do not overlap have its bytes one behind the other.
use Rattle.std.proofs.Common.{◌≡◌, ℕ, zero, suc, ◌+◌, ◌-◌, ◌/◌, ◌%◌, ◌≤◌, ◌⊎◌, inl, inr, Bool, true, false, List, [], ◌∷◌, ◌++◌, length, refl, ap, subst, arith}
use Rattle.std.specs.Prelude.{not, ◌&&◌, ◌==◌, if◌then◌else◌}
use Rattle.std.specs.List.{AllByRecursion as Every}
use Rattle.std.proofs.lemmas.Bool.{and_parts, and_cases, not-false, eqb-true, both_ways}
use Rattle.gt_model.specs.declared.intervals.Block.{Block}
use Rattle.gt_model.specs.declared.intervals.Interval.{Interval}
use Rattle.gt_model.specs.declared.modules.Module.{Module}
use Rattle.sym_expr.specs.declared.patches.PatchTable.{PatchTable}
use Rattle.sym_expr.specs.declared.program.Piece.{Piece}
use Rattle.sym_expr.specs.declared.program.Piece.TheVariants.{Code as CodePiece, Data as DataPiece, Gap}
use Rattle.sym_expr.specs.Linkable.{is_crooked}
use Rattle.sym_expr.specs.Modules.{bytes_at, is_code, size_of, end_of}
use Rattle.sym_expr.specs.Points.{code_size, data_size}
use Rattle.sym_expr.specs.Program.{own_words, code_block, data_block, piece, pieces}
use Rattle.sym_expr.specs.Tables.{Tables}
use Rattle.sym_expr.specs.WellMade.{IsTiled}
use Rattle.sym_expr.proofs.Orders.{Behind}

pub length-bytes_at : (i : Interval) (at n : ℕ) → length (bytes_at i at n) ≡ n
length-bytes_at i at zero = refl
length-bytes_at i at (suc n) = ap suc (length-bytes_at i (at + 1) n)

pub length-own_words : (m : Module) (p : PatchTable) (i : Interval) (at n : ℕ) → length (own_words m p i at n) ≡ n
length-own_words m p i at zero = refl
length-own_words m p i at (suc n) = ap suc (length-own_words m p i (at + 4) n)

-- whole words at their places
pub record IsStraight (b : Block) : Type 0 where
  pub place : b.offset % 4 ≡ 0
  pub size : size_of b % 4 ≡ 0

pub straight_code : (b : Block) → is_crooked b ≡ false → is_code b ≡ true → IsStraight b
straight_code b h k = at (and_cases (is_code b) (not ((b.offset % 4 == 0) && (size_of b % 4 == 0))) h)
  where
    whole : ((b.offset % 4 == 0) && (size_of b % 4 == 0)) ≡ true → IsStraight b
    whole l =
        let both = and_parts (b.offset % 4 == 0) (size_of b % 4 == 0) l in
        record { place = eqb-true (b.offset % 4) 0 both.0; size = eqb-true (size_of b % 4) 0 both.1 }

    at : (is_code b ≡ false) ⊎ (not ((b.offset % 4 == 0) && (size_of b % 4 == 0)) ≡ false) → IsStraight b
    at (inl e) = absurd (both_ways (is_code b) e k)
    at (inr e) = whole (not-false ((b.offset % 4 == 0) && (size_of b % 4 == 0)) e)

pub own_size : (m : Module) (p : PatchTable) (i : Interval) (b : Block) → IsStraight b → code_size (code_block m p i b) ≡ size_of b
own_size m p i b h =
    let count = length-own_words m p i b.offset (size_of b / 4) in
    let whole = h.size in
    omega (arith, count, whole)

pub piece_code : (m : Module) (t : Tables) (p : PatchTable) (i : Interval) (b : Block) → is_code b ≡ true → piece m t p i b ≡ CodePiece (code_block m p i b)
piece_code m t p i b h = ap (λ x. if x then CodePiece (code_block m p i b) else DataPiece (data_block m t p i b)) h

pub piece_data : (m : Module) (t : Tables) (p : PatchTable) (i : Interval) (b : Block) → is_code b ≡ false → piece m t p i b ≡ DataPiece (data_block m t p i b)
piece_data m t p i b h = ap (λ x. if x then CodePiece (code_block m p i b) else DataPiece (data_block m t p i b)) h

-- ---- tiles

tiled_on : (at from : ℕ) (ps : List Piece) → at ≡ from → IsTiled at ps → IsTiled from ps
tiled_on at from ps e h = let P : ℕ → Type 0 = λ n. IsTiled n ps in subst P e h

gap_on : (i : Interval) (from to : ℕ) (ps : List Piece) (b : Bool) → (to - from == 0) ≡ b → from ≤ to → IsTiled to ps → IsTiled from ((if b then [] else Gap (bytes_at i from (to - from)) ∷ []) ++ ps)
gap_on i from to ps true is h k =
    let none = eqb-true (to - from) 0 is in
    tiled_on to from ps (omega (arith, none)) k
gap_on i from to ps false is h k =
    let count = length-bytes_at i from (to - from) in
    tiled_on to (from + length (bytes_at i from (to - from))) ps (omega (arith, count)) k

gap_alone : (i : Interval) (from to : ℕ) (b : Bool) → IsTiled from (if b then [] else Gap (bytes_at i from (to - from)) ∷ [])
gap_alone i from to true = tt
gap_alone i from to false = tt

piece_on : (m : Module) (t : Tables) (p : PatchTable) (i : Interval) (b : Block) (ps : List Piece) (x : Bool) → (x ≡ true → IsStraight b) → IsTiled (end_of b) ps
    → IsTiled b.offset ((if x then CodePiece (code_block m p i b) else DataPiece (data_block m t p i b)) ∷ ps)
piece_on m t p i b ps true straight h =
    let size = own_size m p i b (straight refl) in
    (refl, (straight refl).place, tiled_on (end_of b) (b.offset + code_size (code_block m p i b)) ps (omega (arith, size)) h)
piece_on m t p i b ps false straight h =
    let size = length-bytes_at i b.offset (size_of b) in
    (refl, tiled_on (end_of b) (b.offset + data_size (data_block m t p i b)) ps (omega (arith, size)) h)

pub tiled_pieces : (m : Module) (t : Tables) (p : PatchTable) (i : Interval) (at : ℕ) (bs : List Block) → Behind at bs → Every (λ b. is_crooked b ≡ false) bs → IsTiled at (pieces m t p i at bs)
tiled_pieces m t p i at [] h k = gap_alone i at i.size (i.size - at == 0)
tiled_pieces m t p i at (b ∷ bs) h k =
    gap_on i at b.offset (piece m t p i b ∷ pieces m t p i (end_of b) bs) (b.offset - at == 0) refl h.0
    (piece_on m t p i b (pieces m t p i (end_of b) bs) (is_code b) (straight_code b k.0) (tiled_pieces m t p i (end_of b) bs h.1 k.1))
