use Rattle.std.proofs.Common.{◌∷◌, [], ◌++◌, map, take, sym, ap, ◌∙◌, append_assoc}
use Rattle.std.specs.List.{filter_map}
use Rattle.new_edges.proofs.Lists.{mapped_kept_more}
use Rattle.new_edges.proofs.blocks.push_stretch.Goals as goal
use Rattle.new_edges.specs.Blocks.{patched_block}
use Rattle.sym_expr.specs.Points.{code_of}

pub loop-piece-preserved : goal.loop-piece-preserved
loop-piece-preserved c =
    let old = c.args.blocks.now.items in
    let items = c.as_slice-piece-items.result.now in
    let i = c.loop-piece.piece-index in
    let x = c.piece-item.result in
    let new = map patched_block (filter_map code_of (x ∷ [])) in
    c.in_ok-push_piece.ensures
    ∙ ap (λ l. l ++ new) c.loop-piece.invariant
    ∙ append_assoc old (map patched_block (filter_map code_of (take i items))) new
    ∙ ap (λ l. old ++ l) (sym (mapped_kept_more patched_block code_of items i x c.loop-piece-test.true c.piece-item.is))
