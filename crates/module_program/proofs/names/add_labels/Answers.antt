use Rattle.std.proofs.Common.{◌+◌, drop, ap, ◌∙◌, arith}
use Rattle.std.specs.HashMap.{get_by_text}
use Rattle.std.specs.Option.{option_or}
use Rattle.module_program.specs.declared.cut.Cut.{Cut}
use Rattle.module_program.specs.Cutting.{label_entries, next_cut, point_in}
use Rattle.module_program.proofs.Cuts.{next_small}
use Rattle.module_program.proofs.Labels.{label_kept}
use Rattle.module_program.proofs.names.add_labels.Goals as goal

pub loop-line-preserved : goal.loop-line-preserved
loop-line-preserved c =
    let m = c.args.module.now in
    let f = c.args.function.now in
    let cut = c.loop-line.cut in
    let lines = c.as_slice-line-items.result.now in
    let k = c.loop-line.line-index in
    let line = c.line-item.result in
    let small = next_small cut line k c.loop-line.invariant.blocks c.loop-line.invariant.last in
    record {
      kept = λ q.
          ap (λ (n : Cut). option_or (get_by_text c.add_label.new.names q) (point_in q (label_entries m f n (drop (k + 1) lines)))) c.next-cut.ensures
          ∙ ap (λ o. option_or o (point_in q (label_entries m f (next_cut cut line) (drop (k + 1) lines)))) (c.in_ok-add_label.ensures q)
          ∙ label_kept m f q (get_by_text c.loop-line.names q) cut lines k line c.loop-line-test.true c.line-item.is
          ∙ c.loop-line.invariant.kept q;
      blocks = let same = ap (λ (n : Cut). n.blocks) c.next-cut.ensures in let most = small.0 in omega (arith, same, most);
      last = let same = ap (λ (n : Cut). n.last) c.next-cut.ensures in let most = small.1 in omega (arith, same, most);
    }
