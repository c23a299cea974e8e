use Rattle.printed_lines.proofs.Items.{hex_is, zero_is}
use Rattle.printed_lines.proofs.laws.printed_bytes_are_read.Goals as goal

pub returns-clause-hex : goal.returns-clause-hex
returns-clause-hex c = hex_is

pub returns-clause-zero : goal.returns-clause-zero
returns-clause-zero c = zero_is
