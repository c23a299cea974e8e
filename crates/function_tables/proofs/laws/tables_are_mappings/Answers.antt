use Rattle.function_tables.proofs.Stay.{mapping_of, value_stays}
use Rattle.function_tables.proofs.laws.tables_are_mappings.Goals as goal

pub returns : goal.returns
returns c = record { mapping = mapping_of; stays = value_stays }
