use Rattle.std.proofs.Common.{◌≡◌, ℕ, List, ap, ◌∙◌, subst, IfOk}
use Rattle.std.specs.List.{flat_map}
use Rattle.std.specs.Str.{bytes_eq}
use Rattle.indexmap.specs.IndexMap.{get}
use Rattle.ir_check.specs.declared.sites.Site.{Site}
use Rattle.ir_check.specs.Keyed.{value_at}
use Rattle.ir_check.proofs.FirstLists.{take_whole}
use Rattle.ir_check.specs.Sites.{sites_in}
use Rattle.ir_check.proofs.sites.sites_of.Goals as goal

pub returns : goal.returns
returns c =
    let whole : c.as_slice.result.now ≡ flat_map sites_in c.args.spans.now = c.as_slice.ensures.value ∙ c.loop-span.invariant ∙ ap (flat_map sites_in) (take_whole c.args.spans.now c.loop-span.span-index c.loop-span-test.false) in
    subst (λ (es : List (List ℕ × Site)). IfOk c.index_of.result (λ found. (id : List ℕ) → get bytes_eq found id ≡ value_at bytes_eq id es)) whole c.index_of.ensures
