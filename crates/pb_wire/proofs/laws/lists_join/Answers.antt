use Rattle.pb_wire.proofs.Spelling.{records_one, records_append}
use Rattle.pb_wire.proofs.laws.lists_join.Goals as goal

pub returns-clause-one : goal.returns-clause-one
returns-clause-one c = records_one

pub returns-clause-both : goal.returns-clause-both
returns-clause-both c = records_append
