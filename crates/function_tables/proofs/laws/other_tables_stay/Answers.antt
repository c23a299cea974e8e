use Rattle.function_tables.proofs.KindLists.{value_stays}
use Rattle.function_tables.proofs.laws.other_tables_stay.Goals as goal

pub returns : goal.returns
returns c = value_stays
