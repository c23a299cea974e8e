use Rattle.std.proofs.Common.{filter, take, ap, ◌∙◌, sym, ◌∷◌, []}
use Rattle.std.specs.Option.{option_or}
use Rattle.std.specs.Str.{bytes_eq}
use Rattle.std.proofs.lemmas.List.Concat.{flat_map-append}
use Rattle.std.proofs.lemmas.List.Elements.{filter-append}
use Rattle.gt_model.specs.declared.intervals.Interval.{Interval}
use Rattle.gt_model.specs.declared.modules.Section.{Section}
use Rattle.moved_places.specs.Kept.{size_among}
use Rattle.moved_places.proofs.Indexing.{more_found}
use Rattle.moved_places.proofs.Lists.{taken}
use Rattle.sym_expr.specs.Modules.{intervals_of, is_loaded}
use Rattle.moved_places.proofs.sizes.interval_sizes.Goals as goal

pub loop-section-preserved : goal.loop-section-preserved
loop-section-preserved c = λ q.
    let items = c.as_slice-section-items.result.now in
    let i = c.loop-section.section-index in
    let s = c.section-item.result in
    let here = intervals_of (filter is_loaded (s ∷ [])) in
    c.in_ok-add_loaded.ensures q
    ∙ ap (λ o. option_or o (size_among here q)) (c.loop-section.invariant q)
    ∙ sym (ap (λ ss. size_among (intervals_of (filter is_loaded ss)) q) (taken items i s c.loop-section-test.true c.section-item.is)
    ∙ ap (λ ss. size_among (intervals_of ss) q) (filter-append is_loaded (take i items) (s ∷ []))
    ∙ ap (λ is. size_among is q) (flat_map-append (λ (r : Section). r.intervals) (filter is_loaded (take i items)) (filter is_loaded (s ∷ [])))
    ∙ more_found (λ (j : Interval). j.size) (λ (j : Interval). bytes_eq j.uuid q) (intervals_of (filter is_loaded (take i items))) here)
