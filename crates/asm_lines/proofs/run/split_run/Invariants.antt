use Rattle.std.proofs.Common.{length}
use Rattle.asm_lines.proofs.Runs.{HasRun}
use Rattle.asm_lines.proofs.run.split_run.Given as goal

abbrev pub invariant-loop-byte : goal.invariant-loop-byte
invariant-loop-byte l = HasRun l.class l.text l.rest

abbrev pub decreases-loop-byte : goal.decreases-loop-byte
decreases-loop-byte l = length l.rest
