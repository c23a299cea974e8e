use Rattle.rewrite.proofs.Sections.{heads}
use Rattle.rewrite.proofs.laws.sections_keep_their_heads.Goals as goal

pub returns : goal.returns
returns c = heads
