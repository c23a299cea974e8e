use Rattle.std.proofs.Common.{◌++◌, ◌∷◌, [], ◌∙◌, ap, sym, append_assoc, map, List}
use Rattle.std.specs.List.{range_with_len}
use Rattle.gt_model.specs.declared.intervals.Block.{Block}
use Rattle.demo_ir.specs.Demo.{link_block}
use Rattle.demo_ir.proofs.Ranges.{map_more}
use Rattle.demo_ir.proofs.blocks.push_links.Goals as goal

pub loop-k-preserved : goal.loop-k-preserved
loop-k-preserved c =
    c.in_ok-push_link.ensures ∙ ap (λ (l : List Block). l ++ link_block c.loop-k.k ∷ []) c.loop-k.invariant
    ∙ append_assoc c.args.made.now.items (map link_block (range_with_len 0 c.loop-k.k)) (link_block c.loop-k.k ∷ [])
    ∙ ap (λ (l : List Block). c.args.made.now.items ++ l) (sym (map_more link_block c.loop-k.k))
