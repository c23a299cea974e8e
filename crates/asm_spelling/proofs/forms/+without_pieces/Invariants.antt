use Rattle.std.proofs.Common.{length}
use Rattle.asm_spelling.proofs.forms.+without_pieces.Given as goal

abbrev pub decreases-without_pieces : goal.decreases-without_pieces
decreases-without_pieces l = length l.rows.now
