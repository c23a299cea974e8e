use Rattle.function_tables.proofs.KindLists.{kind_shape}
use Rattle.function_tables.proofs.laws.tables_have_their_types.Goals as goal

pub returns : goal.returns
returns c = kind_shape
