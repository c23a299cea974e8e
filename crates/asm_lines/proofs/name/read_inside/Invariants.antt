use Rattle.std.proofs.Common.{length}
use Rattle.asm_lines.proofs.Escapes.{AreRead}
use Rattle.asm_lines.proofs.name.read_inside.Given as goal

abbrev pub invariant-loop-byte : goal.invariant-loop-byte
invariant-loop-byte l = AreRead l.fn.name l.name l.text l.rest

abbrev pub decreases-loop-byte : goal.decreases-loop-byte
decreases-loop-byte l = length l.rest
