use Rattle.rewritten_links.proofs.Ordered.{stays_ordered}
use Rattle.rewritten_links.proofs.laws.rewritten_irs_are_ordered.Goals as goal

pub returns : goal.returns
returns c ir m p h ok = stays_ordered c.bytes_keep_their_order.ensures c.pieces_have_the_old_bytes.ensures ir m p h ok
