-- Sorted offsets by which the bytes of a piece are found again.
use Rattle.std.proofs.Common.{◌≡◌, ℕ, ◌+◌, ◌*◌, List, length, filter, ltb, ap, arith}
use Rattle.std.specs.List.Sorted.{IsNonDecreasing}
use Rattle.new_intervals.specs.Moving.{count_below, words_in, GoesDeep}
use Rattle.rewrite.specs.Offsets.{new_depth}
use Rattle.sym_expr.specs.declared.program.Piece.{Piece}
use Rattle.sym_expr.specs.declared.program.Piece.TheVariants.{Code as CodePiece, Data as DataPiece, Gap}
use Rattle.sym_expr.specs.declared.program.Word.{Word}

depth_of : (p : Piece) (depth n : ℕ) → n ≡ length (filter (λ (w : ℕ × Word). ltb w.0 (depth + 1)) (words_in p)) → depth + 4 * n ≡ new_depth depth p
depth_of (CodePiece b) depth n e = ap (λ k. depth + 4 * k) e
depth_of (DataPiece b) depth n e = omega (arith, e)
depth_of (Gap bytes) depth n e = omega (arith, e)

pub deep : (p : Piece) (offsets : List ℕ) → IsNonDecreasing offsets → ((bound : ℕ) → count_below bound offsets ≡ length (filter (λ (w : ℕ × Word). ltb w.0 bound) (words_in p))) → GoesDeep p offsets
deep p offsets sorted counts = record { sorted = sorted; depth = λ depth. depth_of p depth (count_below (depth + 1) offsets) (counts (depth + 1)) }
