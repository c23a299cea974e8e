use Rattle.a64_inst.proofs.ReplacedBits.{high_bits}
use Rattle.a64_inst.proofs.filling.with_operand.Goals as goal

pub with_bits-requires-clause-number : goal.with_bits-requires-clause-number
with_bits-requires-clause-number c = high_bits c.args.units c.args.operand.low.width c.args.operand.high.width c.requires.units
