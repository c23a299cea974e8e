use Rattle.std.proofs.Common.{◌++◌, ◌∙◌, ap, sym, append_assoc, ℕ, List}
use Rattle.std.specs.List.{flat_map, range_with_len}
use Rattle.demo_ir.specs.Code.{link_bytes}
use Rattle.demo_ir.proofs.Ranges.{flat_map_more}
use Rattle.demo_ir.proofs.code.put_links.Goals as goal

pub loop-k-preserved : goal.loop-k-preserved
loop-k-preserved c =
    let more = link_bytes c.args.seed in
    c.in_ok-put_link.ensures ∙ ap (λ (l : List ℕ). l ++ more c.loop-k.k) c.loop-k.invariant
    ∙ append_assoc c.args.out.now (flat_map more (range_with_len 0 c.loop-k.k)) (more c.loop-k.k)
    ∙ ap (λ (l : List ℕ). c.args.out.now ++ l) (sym (flat_map_more more c.loop-k.k))
