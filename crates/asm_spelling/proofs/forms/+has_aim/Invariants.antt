use Rattle.std.proofs.Common.{length}
use Rattle.asm_spelling.proofs.forms.+has_aim.Given as goal

abbrev pub decreases-has_aim : goal.decreases-has_aim
decreases-has_aim l = length l.rows.now
