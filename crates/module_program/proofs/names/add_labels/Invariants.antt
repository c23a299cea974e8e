use Rattle.std.proofs.Common.{◌≡◌, ◌≤◌, ℕ, List, drop}
use Rattle.std.specs.HashMap.{get_by_text}
use Rattle.std.specs.Option.{option_or}
use Rattle.module_program.specs.Cutting.{first_cut, label_entries, point_in}
use Rattle.module_program.proofs.names.add_labels.Given as goal

abbrev pub invariant-loop-line : goal.invariant-loop-line
invariant-loop-line l = record {
  kept : (q : List ℕ) → option_or (get_by_text l.names q) (point_in q (label_entries l.module l.function l.cut (drop l.line-index l.line-items)))
      ≡ option_or (get_by_text l.fn.names q) (point_in q (label_entries l.module l.function first_cut l.function.body));
  blocks : l.cut.blocks ≤ l.line-index;
  last : l.cut.last ≤ l.line-index;
}
