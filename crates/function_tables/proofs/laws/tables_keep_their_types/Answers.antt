use Rattle.aux_codec.specs.Value.{Pairs}
use Rattle.function_tables.proofs.Stay.{named_held}
use Rattle.function_tables.proofs.Whole.{table_typed}
use Rattle.function_tables.proofs.laws.tables_keep_their_types.Goals as goal

pub returns : goal.returns
returns c = λ ir m p a kind es free there value typed few. table_typed ir m p free kind es typed (named_held ir m a (Pairs es) there value) few
