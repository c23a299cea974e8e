use Rattle.rewritten_links.proofs.Repaired.{mended_linked, mended_ordered}
use Rattle.rewritten_links.proofs.laws.repaired_irs_are_linked.Goals as goal

pub returns-clause-linked : goal.returns-clause-linked
returns-clause-linked c = mended_linked c.whole_blocks_are_one_part.ensures

pub returns-clause-ordered : goal.returns-clause-ordered
returns-clause-ordered c ir m p h ok = mended_ordered ir m p (c.rewritten_irs_are_ordered.ensures ir m p h ok)
