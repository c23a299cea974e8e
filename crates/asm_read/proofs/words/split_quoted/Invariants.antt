use Rattle.std.proofs.Common.{length}
use Rattle.asm_read.proofs.Quoting.{IsReading}
use Rattle.asm_read.proofs.words.split_quoted.Given as goal

abbrev pub invariant-loop-first : goal.invariant-loop-first
invariant-loop-first l = IsReading l.text l.rest

abbrev pub decreases-loop-first : goal.decreases-loop-first
decreases-loop-first l = length l.rest
