use Rattle.pb_wire.proofs.Spelling.{spells_varint, spells_run}
use Rattle.pb_wire.proofs.laws.short_spellings.Goals as goal

pub returns-clause-varint : goal.returns-clause-varint
returns-clause-varint c = spells_varint

pub returns-clause-run : goal.returns-clause-run
returns-clause-run c = spells_run
