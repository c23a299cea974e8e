use Rattle.std.proofs.Common.{false}
use Rattle.gt_model.specs.declared.symbols.Payload.TheVariants.{Referent}
use Rattle.demo_ir.proofs.blocks.symbol.Goals as goal

pub returns : goal.returns
returns c = λ i. record {
  uuid = c.in_ok-numbered.ensures i;
  name = c.in_ok-symbol_name.ensures i;
  at_end = false;
  payload = Referent (c.in_ok-numbered-2.ensures i);
}
