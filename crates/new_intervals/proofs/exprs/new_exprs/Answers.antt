use Rattle.std.proofs.Common.{◌++◌, map, sym, ap, ◌∙◌, rules}
use Rattle.std.specs.List.{flat_map}
use Rattle.std.proofs.lemmas.List.Sorted.{answers_always, IsNonDecreasingBy-from_sort_by_key}
use Rattle.new_intervals.specs.Inserting.{brought_by}
use Rattle.new_intervals.specs.Placed.{placed_all}
use Rattle.new_intervals.proofs.Sorting.{by_offset_is, offset_of, sorted, sorted_is}
use Rattle.rewrite.specs.Exprs.{moved_expr}
use Rattle.new_intervals.proofs.exprs.new_exprs.Goals as goal

pub returns : goal.returns
returns c =
    let moved = map (moved_expr c.args.moves.now.stretch.now) c.args.exprs.now in
    let brought = flat_map (brought_by c.args.inserts.now) (placed_all c.args.spots.now) in
    let all = c.in_ok-push_all_brought.ensures ∙ ap (λ l. l ++ brought) (c.in_ok-push_moved.ensures ∙ ap (λ l. l ++ moved) c.new-out.ensures.items) in
    let rises = IsNonDecreasingBy-from_sort_by_key offset_of _ c.in_ok-sort_by_key.ensures.sorted (λ a r q k. search rules) in
    let stable = c.sort_by_key.ensures.stable offset_of (answers_always _ _ _ (λ f a r q k. search rules)) in
    c.from_vec.ensures ∙ sorted_is offset_of c.push_all_brought.new.out.items c.sort_by_key.new.self.items rises stable
    ∙ ap (sorted offset_of) all ∙ sym (by_offset_is (moved ++ brought))
