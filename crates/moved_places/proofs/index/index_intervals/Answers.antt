use Rattle.std.proofs.Common.{◌<◌, ◌^◌, ap, ◌∙◌, sym, ◌∷◌, []}
use Rattle.std.specs.Option.{option_or}
use Rattle.std.specs.Str.{bytes_eq}
use Rattle.moved_places.specs.Kept.{interval_among}
use Rattle.moved_places.proofs.Indexing.{further}
use Rattle.moved_places.proofs.Lists.{at_item}
use Rattle.rewrite.specs.Offsets.{new_offset}
use Rattle.sym_expr.specs.declared.program.Stretch.{Stretch}
use Rattle.sym_expr.specs.Placing.{stretch_size}
use Rattle.moved_places.proofs.index.index_intervals.Goals as goal

pub add_interval-requires : goal.add_interval-requires
add_interval-requires c =
    at_item (λ (s : Stretch). stretch_size s < 2 ^ 62) c.args.program.now.stretches c.loop-stretch.stretch-index c.stretch-item.result
    (rw c.as_slice-stretch-items.ensures at c.loop-stretch-test.true) (rw c.as_slice-stretch-items.ensures at c.stretch-item.is) c.requires

pub loop-stretch-preserved : goal.loop-stretch-preserved
loop-stretch-preserved c = λ q.
    let items = c.as_slice-stretch-items.result.now in
    let i = c.loop-stretch.stretch-index in
    let s = c.stretch-item.result in
    c.in_ok-add_interval.ensures q
    ∙ ap (λ o. option_or o (interval_among (s ∷ []) q)) (c.loop-stretch.invariant q)
    ∙ sym (further new_offset (λ (r : Stretch). bytes_eq r.id q) items i s c.loop-stretch-test.true c.stretch-item.is)
