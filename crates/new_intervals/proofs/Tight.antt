-- The intervals of programs that can be laid out have small offsets.
use Rattle.std.proofs.Common.{◌≡◌, ℕ, ◌+◌, ◌<◌, ◌≤◌, ◌^◌, List, [], ◌∷◌, length, arith}
use Rattle.std.specs.Prelude.{sum_by}
use Rattle.std.specs.List.{AllByRecursion as Every, filter_map}
use Rattle.std.proofs.lemmas.List.Sums.{sum_by-cons}
use Rattle.block_parts.specs.Words.{patched_words}
use Rattle.new_intervals.specs.Knowing.{IsOfProgram}
use Rattle.new_intervals.specs.Moving.{old_sizes, IsTight}
use Rattle.new_intervals.specs.Placed.{AreRoomy, HasAllWords}
use Rattle.new_intervals.proofs.Lists.{every_contained, every_part}
use Rattle.new_intervals.proofs.Walked.{ends_behind, next_at}
use Rattle.rewrite.specs.Offsets.{old_size}
use Rattle.sym_expr.specs.declared.program.CodeBlock.{CodeBlock}
use Rattle.sym_expr.specs.declared.program.Piece.{Piece}
use Rattle.sym_expr.specs.declared.program.Piece.TheVariants.{Code as CodePiece, Data as DataPiece, Gap}
use Rattle.sym_expr.specs.declared.program.Program.{Program}
use Rattle.sym_expr.specs.declared.program.Stretch.{Stretch}
use Rattle.sym_expr.specs.Placing.{Placed, end_from, new_size, placed_from, stretch_size}
use Rattle.sym_expr.specs.Points.{code_of, pieces_of}
use Rattle.sym_expr.specs.WellMade.{IsCode}

old_most : (p : Piece) → old_size p ≤ new_size p
old_most (CodePiece b) = omega arith
old_most (DataPiece b) = omega arith
old_most (Gap bytes) = omega arith

roomy : (end : ℕ) (ps : List Piece) → end_from end ps < 2 ^ 62 → Every HasAllWords ps → AreRoomy (placed_from end ps)
roomy end [] lt words = tt
roomy end (p ∷ ps) lt words =
    let next : ℕ = next_at end p + new_size p in
    let behind = ends_behind next ps in
    (record { room = omega (arith, behind); words = words.0 }, roomy next ps lt words.1)

olds : (end : ℕ) (ps : List Piece) → old_sizes (placed_from end ps) + end ≤ end_from end ps
olds end [] = omega arith
olds end (p ∷ ps) =
    let next : ℕ = next_at end p + new_size p in
    let x : Placed = record { at = next_at end p; piece = p } in
    let sum = sum_by-cons (λ (y : Placed). old_size y.piece) x (placed_from next ps) in
    let most = old_most p in
    let rest = olds next ps in
    omega (arith, sum, most, rest)

-- ---- of a program

sizes : (ss : List Stretch) (most : ℕ) → sum_by stretch_size ss < most → Every (λ (s : Stretch). stretch_size s < most) ss
sizes [] most lt = tt
sizes (s ∷ ss) most lt = let sum = sum_by-cons stretch_size s ss in (omega (arith, sum), sizes ss most (omega (arith, sum)))

abbrev pub Counted : Type 0
Counted = (g : Program) (b : CodeBlock) → IsCode g b → length (patched_words b) ≡ length b.own + length b.inserted

all_words : Counted → (g : Program) (ps : List Piece) → Every (IsCode g) (filter_map code_of ps) → Every HasAllWords ps
all_words law g [] h = tt
all_words law g (CodePiece b ∷ ps) h = (law g b h.0, all_words law g ps h.1)
all_words law g (DataPiece b ∷ ps) h = (tt, all_words law g ps h)
all_words law g (Gap bytes ∷ ps) h = (tt, all_words law g ps h)

pub tight : Counted → (s : Stretch) → IsOfProgram s → IsTight s
tight law s (g, made, there) =
    let small : stretch_size s < 2 ^ 62 = every_contained (λ (x : Stretch). stretch_size x < 2 ^ 62) g.stretches s (sizes g.stretches (2 ^ 62) made.sizes) there in
    let words : Every HasAllWords s.pieces =
    every_contained (λ (x : Stretch). Every HasAllWords x.pieces) g.stretches s (every_part (λ (x : Stretch). x.pieces) HasAllWords g.stretches (all_words law g (pieces_of g) made.codes)) there in
    let old = olds 0 s.pieces in
    record { size = small; roomy = roomy 0 s.pieces small words; small = omega (arith, old, small) }
