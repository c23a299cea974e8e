use Rattle.rewrite.proofs.Olds.{olds}
use Rattle.rewrite.proofs.laws.pieces_have_the_old_bytes.Goals as goal

pub returns : goal.returns
returns c = olds
