use Rattle.std.proofs.Common.{◌++◌, ◌∷◌, [], take, sym, ap, ◌∙◌, append_assoc}
use Rattle.std.specs.List.{filter_map, flat_map}
use Rattle.sym_expr.specs.Points.{code_of}
use Rattle.taken_ids.specs.Identifiers.{part_ids}
use Rattle.taken_ids.proofs.Lists.{kept_more}
use Rattle.taken_ids.proofs.derived.push_stretch.Goals as goal

pub loop-piece-preserved : goal.loop-piece-preserved
loop-piece-preserved c =
    let f = part_ids c.args.module.now in
    let items = c.as_slice-piece-items.result.now in
    let i = c.loop-piece.piece-index in
    let x = c.piece-item.result in
    let new = flat_map f (filter_map code_of (x ∷ [])) in
    c.in_ok-push_piece.ensures
    ∙ ap (λ l. l ++ new) c.loop-piece.invariant
    ∙ append_assoc c.args.out.now.items (flat_map f (filter_map code_of (take i items))) new
    ∙ ap (λ l. c.args.out.now.items ++ l) (sym (kept_more f code_of items i x c.loop-piece-test.true c.piece-item.is))
