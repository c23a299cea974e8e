use Rattle.std.proofs.Common.{arith}
use Rattle.aux_codec.proofs.Whole.{found, only}
use Rattle.aux_codec.proofs.decode.decode_aux.Goals as goal

pub returns-clause-found : goal.returns-clause-found
returns-clause-found c = found c.args.of.now c.args.bytes.now c.whole.result (λ i. omega (arith, c.type_inv.bytes i)) c.whole.ensures

pub returns-clause-only : goal.returns-clause-only
returns-clause-only c = only c.args.of.now c.args.bytes.now c.whole.result c.whole.ensures
