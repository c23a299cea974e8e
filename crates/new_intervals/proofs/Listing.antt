-- The runs and the bytes of pieces, one spot further.
use Rattle.std.proofs.Common.{◌≡◌, ℕ, zero, suc, ◌+◌, ◌-◌, ◌<◌, List, [], ◌∷◌, ◌++◌, length, get_or, drop, replicate, sym, ap, subst, ◌∙◌, append_assoc}
use Rattle.std.specs.List.{AllByRecursion as Every}
use Rattle.std.proofs.lemmas.List.Sums.{sum_by-cons}
use Rattle.new_intervals.specs.Moving.{old_sizes, AreRuns, IsRun}
use Rattle.new_intervals.specs.Placed.{placed_all, placed_of, AreRoomy, IsRoomy}
use Rattle.new_intervals.specs.declared.runs.Run.{Run}
use Rattle.new_intervals.specs.declared.spots.Spot.{Spot}
use Rattle.new_intervals.proofs.Lists.{every_of_map}
use Rattle.new_intervals.proofs.Walked.{dropped}
use Rattle.rewrite.specs.Contents.{bytes_from, piece_bytes}
use Rattle.rewrite.specs.Offsets.{old_size}
use Rattle.sym_expr.specs.Placing.{Placed, new_size}

all_dropped : {X : Type 0} (P : X → Type 0) (xs : List X) (i : ℕ) → Every P xs → Every P (drop i xs)
all_dropped P xs zero all = all
all_dropped P [] (suc i) all = tt
all_dropped P (x ∷ xs) (suc i) all = all_dropped P xs i all.1

module _ (xs : List Spot) (i : ℕ) (x : Spot) (lt : i < length xs) (is : x ≡ get_or xs i x) where
  pub item_roomy : AreRoomy (placed_all xs) → IsRoomy (placed_of x)
  item_roomy all = (subst (Every (λ y. IsRoomy (placed_of y))) (dropped xs i x lt is) (all_dropped (λ y. IsRoomy (placed_of y)) xs i (every_of_map placed_of IsRoomy xs all))).0

  pub sum_next : old_sizes (placed_all (drop i xs)) ≡ old_size x.piece.now + old_sizes (placed_all (drop (i + 1) xs))
  sum_next = ap (λ l. old_sizes (placed_all l)) (dropped xs i x lt is) ∙ sum_by-cons (λ (y : Placed). old_size y.piece) (placed_of x) (placed_all (drop (i + 1) xs))

  pub runs_next : (from : ℕ) (r : Run) (runs rest : List Run) → IsRun from r (placed_of x)
      → ((more : List Run) → AreRuns from more (placed_all (drop i xs)) → AreRuns 0 (runs ++ more) (placed_all xs))
      → AreRuns r.end rest (placed_all (drop (i + 1) xs)) → AreRuns 0 ((runs ++ r ∷ []) ++ rest) (placed_all xs)
  runs_next from r runs rest here so h =
      subst (λ l. AreRuns 0 l (placed_all xs)) (sym (append_assoc runs (r ∷ []) rest))
      (so (r ∷ rest) (subst (λ l. AreRuns from (r ∷ rest) (placed_all l)) (sym (dropped xs i x lt is)) (here, h)))

  regroup : (a b c d : List ℕ) → ((a ++ b) ++ c) ++ d ≡ a ++ ((b ++ c) ++ d)
  regroup a b c d = simp append_assoc

  pub bytes_next : (end : ℕ) (out : List ℕ)
      → ((out ++ replicate (x.at - end) 0) ++ piece_bytes x.piece.now) ++ bytes_from (x.at + new_size x.piece.now) (placed_all (drop (i + 1) xs)) ≡ out ++ bytes_from end (placed_all (drop i xs))
  bytes_next end out =
      regroup out (replicate (x.at - end) 0) (piece_bytes x.piece.now) (bytes_from (x.at + new_size x.piece.now) (placed_all (drop (i + 1) xs)))
      ∙ sym (ap (λ l. out ++ bytes_from end (placed_all l)) (dropped xs i x lt is))
