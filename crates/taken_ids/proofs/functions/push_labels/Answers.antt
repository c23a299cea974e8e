use Rattle.std.proofs.Common.{◌++◌, map, take, sym, ap, ◌∙◌, append_assoc}
use Rattle.std.specs.List.{flat_map}
use Rattle.sym_expr.specs.TableOk.{line_labels}
use Rattle.taken_ids.specs.Identifiers.{symbol_id}
use Rattle.taken_ids.proofs.Lists.{mapped_more}
use Rattle.taken_ids.proofs.functions.push_labels.Goals as goal

pub loop-line-preserved : goal.loop-line-preserved
loop-line-preserved c =
    let f = symbol_id c.args.module.now in
    let items = c.as_slice-line-items.result.now in
    let i = c.loop-line.line-index in
    let x = c.line-item.result in
    c.in_ok-push_label.ensures
    ∙ ap (λ l. l ++ map f (line_labels x)) c.loop-line.invariant
    ∙ append_assoc c.args.out.now.items (map f (flat_map line_labels (take i items))) (map f (line_labels x))
    ∙ ap (λ l. c.args.out.now.items ++ l) (sym (mapped_more f line_labels items i x c.loop-line-test.true c.line-item.is))
