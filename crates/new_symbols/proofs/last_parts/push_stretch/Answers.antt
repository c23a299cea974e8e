use Rattle.std.proofs.Common.{◌++◌, ◌∷◌, [], map, take, sym, ap, ◌∙◌, append_assoc}
use Rattle.std.specs.List.{filter_map}
use Rattle.sym_expr.specs.Points.{code_of}
use Rattle.new_symbols.specs.Entries.{last_entry}
use Rattle.new_symbols.proofs.Lists.{kept_more}
use Rattle.new_symbols.proofs.last_parts.push_stretch.Goals as goal

pub loop-piece-preserved : goal.loop-piece-preserved
loop-piece-preserved c =
    let f = last_entry c.args.module.now in
    let items = c.as_slice-piece-items.result.now in
    let i = c.loop-piece.piece-index in
    let x = c.piece-item.result in
    let new = map f (filter_map code_of (x ∷ [])) in
    c.in_ok-push_piece.ensures
    ∙ ap (λ l. l ++ new) c.loop-piece.invariant
    ∙ append_assoc c.args.entries.now.items (map f (filter_map code_of (take i items))) new
    ∙ ap (λ l. c.args.entries.now.items ++ l) (sym (kept_more f code_of items i x c.loop-piece-test.true c.piece-item.is))
