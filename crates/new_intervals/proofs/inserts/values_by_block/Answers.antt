use Rattle.std.proofs.Common.{◌++◌, [], cond, map, sym, ap, ◌∙◌}
use Rattle.std.specs.Str.{bytes_eq}
use Rattle.new_intervals.specs.Bringing.{word_value}
use Rattle.new_intervals.proofs.Brought.{values_more}
use Rattle.new_intervals.proofs.inserts.values_by_block.Goals as goal

pub loop-insert-preserved : goal.loop-insert-preserved
loop-insert-preserved c =
    let m = c.args.module.now in
    let i = c.insert-item.result in
    λ id. c.in_ok-add_insert.ensures id ∙ ap (λ l. l ++ cond (bytes_eq i.block id) (map (word_value m) i.body) []) (c.loop-insert.invariant id)
    ∙ sym (values_more m c.args.inserts.now c.loop-insert.insert-index i id c.loop-insert-test.true c.insert-item.is)
