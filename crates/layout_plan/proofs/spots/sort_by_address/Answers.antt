use Rattle.std.proofs.Common.{rules}
use Rattle.std.proofs.lemmas.List.Sorted.{IsNonDecreasingBy-from_sort_by_key, answers_always}
use Rattle.sym_expr.specs.declared.layout.PlacedSpot.{PlacedSpot}
use Rattle.layout_plan.proofs.Sorting.{by_address-from_sort}
use Rattle.layout_plan.proofs.spots.sort_by_address.Goals as goal

pub returns : goal.returns
returns c =
    by_address-from_sort c.args.spots.now.items c.sort_by_key.new.self.items
    (IsNonDecreasingBy-from_sort_by_key (λ (x : PlacedSpot). x.at) _ c.in_ok-sort_by_key.ensures.sorted (λ a r q k. search rules))
    (c.in_ok-sort_by_key.ensures.stable (λ (x : PlacedSpot). x.at) (answers_always _ _ _ (λ f a r g h. search rules)))
