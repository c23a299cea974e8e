use Rattle.std.proofs.Common.{◌≡◌, length}
use Rattle.pb_wire.proofs.Shortest.{Writes}
use Rattle.pb_wire.proofs.put.put_varint.Given as goal

abbrev pub invariant-loop-rest : goal.invariant-loop-rest
invariant-loop-rest l = Writes l.buffer l.len l.rest l.value × (length l.buffer ≡ 10)

abbrev pub decreases-loop-rest : goal.decreases-loop-rest
decreases-loop-rest l = l.rest
