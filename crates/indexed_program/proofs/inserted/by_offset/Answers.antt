use Rattle.std.proofs.Common.{ℕ, None, nat_cmp, subst, sym, rules}
use Rattle.std.specs.List.Sorted.{IsStableByKey}
use Rattle.std.proofs.lemmas.List.Sorted.{IsNonDecreasingBy-from_sort_by_key, answers_always}
use Rattle.sym_expr.specs.declared.program.Word.{Word}
use Rattle.indexed_program.specs.Kept.{IsByOffset}
use Rattle.indexed_program.proofs.Words.{below_permuted, same_at}
use Rattle.indexed_program.proofs.inserted.by_offset.Goals as goal

pub returns : goal.returns
returns c =
    let from = c.in_ok-words.words.items in
    let sorted = c.sort_by_key.new.self.items in
    let stable : IsStableByKey (λ (w : ℕ × Word). w.0) nat_cmp from sorted = c.in_ok-sort_by_key.ensures.stable (λ (w : ℕ × Word). w.0) (answers_always _ _ _ (λ f a r g h. search rules)) in
    let is : IsByOffset sorted from = record {
      rises = IsNonDecreasingBy-from_sort_by_key (λ (w : ℕ × Word). w.0) _ c.in_ok-sort_by_key.ensures.sorted (λ a r q k. search rules);
      same = λ o. same_at o (record { word = 0; target = None }) from sorted stable;
      below = λ o. below_permuted o from sorted c.in_ok-sort_by_key.ensures.permutation;
    } in
    subst (λ ws. IsByOffset ws c.args.inserted.now) (sym c.from_vec.ensures) (subst (λ ws. IsByOffset sorted ws) c.in_ok-words.ensures.items is)
