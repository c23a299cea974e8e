use Rattle.std.proofs.Common.{length}
use Rattle.asm_spelling.proofs.forms.+written_pieces.Given as goal

abbrev pub decreases-written_pieces : goal.decreases-written_pieces
decreases-written_pieces l = length l.rows.now
