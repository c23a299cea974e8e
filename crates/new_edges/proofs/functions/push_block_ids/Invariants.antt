use Rattle.std.proofs.Common.{◌≡◌, ◌++◌}
use Rattle.new_edges.specs.Functions.{block_ids}
use Rattle.new_edges.proofs.functions.push_block_ids.Given as goal

abbrev pub invariant-loop-k : goal.invariant-loop-k
invariant-loop-k l = l.ids.items ≡ l.initial.ids.items ++ block_ids l.module l.function 0 l.k
