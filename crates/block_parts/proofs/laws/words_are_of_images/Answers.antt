use Rattle.block_parts.proofs.Same.{same}
use Rattle.block_parts.proofs.laws.words_are_of_images.Goals as goal

pub returns : goal.returns
returns c = same
