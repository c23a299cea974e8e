use Rattle.rewrite.proofs.Order.{in_order}
use Rattle.rewrite.proofs.laws.bytes_keep_their_order.Goals as goal

pub returns : goal.returns
returns c = in_order
