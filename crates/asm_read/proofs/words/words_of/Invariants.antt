use Rattle.std.proofs.Common.{length}
use Rattle.asm_read.proofs.Splitting.{IsSplitting}
use Rattle.asm_read.proofs.words.words_of.Given as goal

abbrev pub invariant-loop-rest : goal.invariant-loop-rest
invariant-loop-rest l = IsSplitting l.line l.words l.word l.rest

abbrev pub decreases-loop-rest : goal.decreases-loop-rest
decreases-loop-rest l = length l.rest
