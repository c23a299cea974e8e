use Rattle.std.proofs.Common.{arith}
use Rattle.a64_inst.proofs.ReplacedBits.{parts}
use Rattle.a64_inst.proofs.filling.with_bits.Goals as goal

pub overflow_add-result : goal.overflow_add-result
overflow_add-result c = let p = parts c.args.bits.place c.args.bits.width c.args.number c.args.word c.requires.inside c.requires.number (omega arith) in rw (p.high, p.middle) (omega (arith, p.room, p.rest))

pub overflow_add-result-2 : goal.overflow_add-result-2
overflow_add-result-2 c = let p = parts c.args.bits.place c.args.bits.width c.args.number c.args.word c.requires.inside c.requires.number (omega arith) in rw (p.high, p.middle, p.low) (omega (arith, p.room, p.rest))

pub returns : goal.returns
returns c = let p = parts c.args.bits.place c.args.bits.width c.args.number c.args.word c.requires.inside c.requires.number (omega arith) in rw (p.high, p.middle, p.low)
