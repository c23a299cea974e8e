use Rattle.std.proofs.Common.{◌≡◌, ◌∙◌, ℕ, ltb, length, filter, map, sym, ap, subst}
use Rattle.std.specs.List.Sorted.{IsNonDecreasing}
use Rattle.std.proofs.lemmas.List.{take_all}
use Rattle.std.proofs.lemmas.List.Sorted.{IsNonDecreasingBy-from_sort}
use Rattle.sym_expr.specs.declared.program.Word.{Word}
use Rattle.new_intervals.specs.Moving.{count_below}
use Rattle.new_intervals.proofs.Counts.{count_offsets, count_permuted}
use Rattle.new_intervals.proofs.runs.sorted_offsets.Goals as goal

pub returns-clause-sorted : goal.returns-clause-sorted
returns-clause-sorted c = subst (λ ns. IsNonDecreasing ns) (sym c.from_vec.ensures) (IsNonDecreasingBy-from_sort (λ (n : ℕ). n) c.sort.new.self.items c.in_ok-sort.ensures.sorted)

pub returns-clause-counts : goal.returns-clause-counts
returns-clause-counts c =
    let all : c.loop-offset.offsets.items ≡ map (λ (w : ℕ × Word). w.0) c.args.inserted.now = c.loop-offset.invariant ∙ ap (map (λ (w : ℕ × Word). w.0)) (take_all c.loop-offset.offset-index c.args.inserted.now c.loop-offset-test.false) in
    subst (λ ns. (bound : ℕ) → count_below bound ns ≡ length (filter (λ (w : ℕ × Word). ltb w.0 bound) c.args.inserted.now)) (sym c.from_vec.ensures)
    (λ bound. count_permuted (λ n. ltb n bound) c.loop-offset.offsets.items c.sort.new.self.items c.in_ok-sort.ensures.permutation
    ∙ ap (λ ns. length (filter (λ n. ltb n bound) ns)) all ∙ count_offsets bound c.args.inserted.now)
