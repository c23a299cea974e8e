use Rattle.std.proofs.Common.{◌≡◌, ◌≤◌, ℕ, ◌+◌, Bool, true, false, drop, ap, ◌∙◌, arith}
use Rattle.std.specs.Prelude.{if◌then◌else◌}
use Rattle.std.specs.HashMap.{get_by_text}
use Rattle.std.specs.Option.{option_or}
use Rattle.new_edges.specs.declared.names.Walk.{Walk}
use Rattle.new_edges.specs.Names.{label_entries, next_walk, start_in}
use Rattle.new_edges.proofs.Labels.{label_kept}
use Rattle.new_edges.proofs.names.add_labels.Goals as goal
use Rattle.sym_expr.specs.declared.patches.FunLine.{FunLine}
use Rattle.sym_expr.specs.declared.patches.FunLine.TheVariants as lines

next_small : (x : Walk) (line : FunLine) (n : ℕ) → x.blocks ≤ n → (next_walk x line).blocks ≤ n + 1
next_small x (lines.Label name) n h = omega arith
next_small x (lines.Word w) n h = at x.fresh
  where
    at : (t : Bool) → (if t then x.blocks + 1 else x.blocks) ≤ n + 1
    at true = omega arith
    at false = omega arith

pub loop-line-preserved : goal.loop-line-preserved
loop-line-preserved c =
    let m = c.args.module.now in
    let f = c.args.function.now in
    let x = c.loop-line.walk in
    let lines = c.as_slice-line-items.result.now in
    let k = c.loop-line.line-index in
    let line = c.line-item.result in
    let small = next_small x line k c.loop-line.invariant.blocks in
    record {
      kept = λ q.
          ap (λ (n : Walk). option_or (get_by_text c.add_label.new.names q) (start_in q (label_entries m f n (drop (k + 1) lines)))) c.next-walk.ensures
          ∙ ap (λ o. option_or o (start_in q (label_entries m f (next_walk x line) (drop (k + 1) lines)))) (c.in_ok-add_label.ensures q)
          ∙ label_kept m f q (get_by_text c.loop-line.names q) x lines k line c.loop-line-test.true c.line-item.is
          ∙ c.loop-line.invariant.kept q;
      blocks = let same = ap (λ (n : Walk). n.blocks) c.next-walk.ensures in omega (arith, same, small);
    }
