use Rattle.std.proofs.Common.{ap}
use Rattle.aux_codec.specs.Value.{Pairs}
use Rattle.function_tables.proofs.KindLists.{kind_entries}
use Rattle.function_tables.proofs.laws.tables_get_their_entries.Goals as goal

pub returns : goal.returns
returns c = λ m g p a es kind e. ap Pairs (kind_entries m g p a es kind e)
