use Rattle.rewritten_links.proofs.Whole.{stays_linked}
use Rattle.rewritten_links.proofs.laws.rewritten_irs_are_linked.Goals as goal

pub returns : goal.returns
returns c = stays_linked c.whole_blocks_are_one_part.ensures
