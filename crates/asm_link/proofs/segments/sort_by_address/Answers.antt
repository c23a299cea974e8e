use Rattle.std.proofs.Common.{rules}
use Rattle.std.proofs.lemmas.List.Sorted.{IsNonDecreasingBy-from_sort_by_key, answers_always}
use Rattle.bare_image.specs.declared.image.Segment.{Segment}
use Rattle.asm_link.proofs.Sorting.{by_address-from_sort}
use Rattle.asm_link.proofs.segments.sort_by_address.Goals as goal

pub returns-clause-sorted : goal.returns-clause-sorted
returns-clause-sorted c =
    by_address-from_sort c.args.segments.now.items c.sort_by_key.new.self.items
    (IsNonDecreasingBy-from_sort_by_key (λ (x : Segment). x.at) _ c.in_ok-sort_by_key.ensures.sorted (λ a r q k. search rules))
    (c.in_ok-sort_by_key.ensures.stable (λ (x : Segment). x.at) (answers_always _ _ _ (λ f a r g h. search rules)))
