use Rattle.pb_wire.proofs.Loop.{Reads}
use Rattle.pb_wire.proofs.reading.read_groups.Given as goal

abbrev pub invariant-loop-i : goal.invariant-loop-i
invariant-loop-i l = Reads l.bytes l.i l.value
