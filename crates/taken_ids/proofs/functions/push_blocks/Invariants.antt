use Rattle.std.proofs.Common.{◌≡◌, ◌++◌}
use Rattle.taken_ids.specs.Identifiers.{block_ids}
use Rattle.taken_ids.proofs.functions.push_blocks.Given as goal

abbrev pub invariant-loop-k : goal.invariant-loop-k
invariant-loop-k l = l.out.items ≡ l.initial.out.items ++ block_ids l.module l.name 0 l.k
