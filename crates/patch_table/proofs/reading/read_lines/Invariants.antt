use Rattle.std.proofs.Common.{length}
use Rattle.patch_table.specs.PatchText.{lines_of}
use Rattle.std.specs.List.{AllByRecursion}
use Rattle.patch_lines.specs.Values.{typed_line}
use Rattle.patch_table.proofs.Tables.{SoFar}
use Rattle.patch_table.proofs.reading.read_lines.Given as goal

abbrev pub invariant-loop-rest : goal.invariant-loop-rest
invariant-loop-rest l = SoFar (lines_of l.text) l.lines l.rest × AllByRecursion typed_line l.lines

abbrev pub decreases-loop-rest : goal.decreases-loop-rest
decreases-loop-rest l = length l.rest
