use Rattle.std.proofs.Common.{length}
use Rattle.asm_text.specs.Texts.{lines_of}
use Rattle.asm_text.proofs.Given.{SoFar}
use Rattle.asm_text.proofs.reading.read_lines.Given as goal

abbrev pub invariant-loop-rest : goal.invariant-loop-rest
invariant-loop-rest l = SoFar (lines_of l.text) l.lines l.rest

abbrev pub decreases-loop-rest : goal.decreases-loop-rest
decreases-loop-rest l = length l.rest
