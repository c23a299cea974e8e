use Rattle.std.proofs.Common.{◌≡◌, ◌≤◌, ◌+◌, drop}
use Rattle.new_edges.specs.Names.{word_count}
use Rattle.new_edges.proofs.names.word_count.Given as goal

abbrev pub invariant-loop-line : goal.invariant-loop-line
invariant-loop-line l = record {
  all : l.count + word_count (drop l.line-index l.line-items) ≡ word_count l.function.body;
  small : l.count ≤ l.line-index;
}
