use Rattle.block_parts.proofs.Cuts.{joined}
use Rattle.block_parts.proofs.laws.parts_have_all_words.Goals as goal

pub returns : goal.returns
returns c = joined
