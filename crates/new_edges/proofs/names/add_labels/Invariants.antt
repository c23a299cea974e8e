use Rattle.std.proofs.Common.{◌≡◌, ◌≤◌, ℕ, List, drop}
use Rattle.std.specs.HashMap.{get_by_text}
use Rattle.std.specs.Option.{option_or}
use Rattle.new_edges.specs.Names.{first_walk, label_entries, start_in}
use Rattle.new_edges.proofs.names.add_labels.Given as goal

abbrev pub invariant-loop-line : goal.invariant-loop-line
invariant-loop-line l = record {
  kept : (q : List ℕ) → option_or (get_by_text l.names q) (start_in q (label_entries l.module l.function l.walk (drop l.line-index l.line-items)))
      ≡ option_or (get_by_text l.fn.names q) (start_in q (label_entries l.module l.function (first_walk l.function) l.function.body));
  blocks : l.walk.blocks ≤ l.line-index;
}
