use Rattle.std.proofs.Common.{◌≤◌, ◌+◌, length}
use Rattle.layout_plan.specs.Text.{lines_of}
use Rattle.layout_plan.proofs.ReadingSteps.{SoFar}
use Rattle.layout_plan.proofs.reading.read_lines.Given as goal

abbrev pub invariant-loop-rest : goal.invariant-loop-rest
invariant-loop-rest l = record {
  so_far : SoFar (lines_of l.text) l.number l.places l.stack l.rest;
  counted : l.number + length l.rest ≤ length l.text;
}

abbrev pub decreases-loop-rest : goal.decreases-loop-rest
decreases-loop-rest l = length l.rest
