use Rattle.std.proofs.Common.{sym, ap, ◌∙◌, rules}
use Rattle.std.proofs.lemmas.List.Sorted.{answers_always, IsNonDecreasingBy-from_sort_by_key}
use Rattle.module_program.specs.Ordering.{rank}
use Rattle.module_program.proofs.Sorting.{sorted, sorted_is, in_order_is}
use Rattle.module_program.proofs.order.in_order.Goals as goal

pub returns : goal.returns
returns c =
    let rises = IsNonDecreasingBy-from_sort_by_key rank _ c.in_ok-sort_by_key.ensures.sorted (λ a r q k. search rules) in
    let stable = c.sort_by_key.ensures.stable rank (answers_always _ _ _ (λ f a r q k. search rules)) in
    c.from_vec.ensures ∙ sorted_is rank c.in_ok-ordered.ordered.items c.sort_by_key.new.self.items rises stable
    ∙ ap (sorted rank) c.in_ok-ordered.ensures.items ∙ sym (in_order_is c.args.blocks.now)
