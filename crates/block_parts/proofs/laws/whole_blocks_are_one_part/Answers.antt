use Rattle.block_parts.proofs.Cuts.{whole}
use Rattle.block_parts.proofs.laws.whole_blocks_are_one_part.Goals as goal

pub returns : goal.returns
returns c = whole
