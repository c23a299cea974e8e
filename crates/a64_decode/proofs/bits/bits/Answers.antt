use Rattle.std.proofs.Common.{◌/◌, ◌^◌}
use Rattle.std.proofs.lemmas.Nat.{one_shl, and_mask}
use Rattle.a64_decode.proofs.bits.bits.Goals as goal

pub returns : goal.returns
returns c = rw (one_shl c.args.width 32 c.requires.width) (and_mask (c.args.word / 2 ^ c.args.place) c.args.width)
