use Rattle.std.proofs.Common.{◌≡◌, map}
use Rattle.aux_codec.specs.Value.{Id, value_of}
use Rattle.function_tables.proofs.Counts.{first_ids}
use Rattle.function_tables.proofs.entries.block_values.Given as goal

abbrev pub invariant-loop-k : goal.invariant-loop-k
invariant-loop-k l = map value_of l.made.items ≡ map Id (first_ids l.module l.function 0 l.k)
