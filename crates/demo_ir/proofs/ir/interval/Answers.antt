use Rattle.std.proofs.Common.{◌∙◌, ap, false, length}
use Rattle.demo_ir.proofs.ir.interval.Goals as goal

pub returns : goal.returns
returns c = λ i. record {
  uuid = c.identifier.ensures i;
  blocks = c.in_ok-blocks_of.ensures i;
  exprs = c.in_ok-branches_of.ensures i;
  has_address = false;
  address = 0;
  size = (c.len.ensures ∙ ap length c.in_ok-contents.ensures) i;
  contents = c.in_ok-contents.ensures i;
}
