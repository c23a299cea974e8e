use Rattle.std.proofs.Common.{ℕ, ◌+◌, take, ap, ◌∙◌, sym, ◌∷◌, []}
use Rattle.std.specs.Option.{option_or}
use Rattle.std.specs.Str.{bytes_eq}
use Rattle.gt_model.specs.declared.intervals.Interval.{Interval}
use Rattle.indexmap.specs.IndexMap.{get}
use Rattle.moved_places.specs.Kept.{size_among}
use Rattle.moved_places.proofs.Indexing.{further, one_found, step}
use Rattle.moved_places.proofs.sizes.add_section.Goals as goal

abbrev size_of : Interval → ℕ
size_of i = i.size

pub loop-interval-preserved : goal.loop-interval-preserved
loop-interval-preserved c = λ q.
    let items = c.as_slice-interval-items.result.now in
    let i = c.loop-interval.interval-index in
    let x = c.interval-item.result in
    step (get bytes_eq c.args.sizes.now q) (get bytes_eq c.loop-interval.sizes q) (get bytes_eq c.add_first.new.map q) (size_among (take i items) q) (size_among (x ∷ []) q) (size_among (take (i + 1) items) q)
    (c.loop-interval.invariant q)
    (c.in_ok-add_first.ensures q ∙ ap (option_or (get bytes_eq c.loop-interval.sizes q)) (sym (one_found size_of (λ (j : Interval). bytes_eq j.uuid q) x)))
    (further size_of (λ (j : Interval). bytes_eq j.uuid q) items i x c.loop-interval-test.true c.interval-item.is)
