use Rattle.std.proofs.Common.{◌≡◌, ℕ, List, map, ap, ◌∙◌, subst, IfOk}
use Rattle.std.specs.Str.{bytes_eq}
use Rattle.indexmap.specs.IndexMap.{get}
use Rattle.ir_check.specs.Keyed.{value_at}
use Rattle.ir_check.proofs.FirstLists.{take_whole}
use Rattle.ir_check.specs.Sites.{size_entry}
use Rattle.ir_check.proofs.sites.interval_sizes.Goals as goal

pub returns : goal.returns
returns c =
    let whole : c.as_slice.result.now ≡ map size_entry c.args.spans.now = c.as_slice.ensures.value ∙ c.loop-span.invariant ∙ ap (map size_entry) (take_whole c.args.spans.now c.loop-span.span-index c.loop-span-test.false) in
    subst (λ (es : List (List ℕ × ℕ)). IfOk c.index_of.result (λ found. (id : List ℕ) → get bytes_eq found id ≡ value_at bytes_eq id es)) whole c.index_of.ensures
