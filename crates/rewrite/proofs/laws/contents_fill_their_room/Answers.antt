use Rattle.rewrite.proofs.Lengths.{filled}
use Rattle.rewrite.proofs.laws.contents_fill_their_room.Goals as goal

pub returns : goal.returns
returns c = filled
