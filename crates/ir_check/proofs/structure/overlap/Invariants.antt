use Rattle.std.proofs.Common.{◌≡◌, take, None}
use Rattle.ir_check.specs.Spans.{first_in, overlap_in}
use Rattle.ir_check.proofs.structure.overlap.Given as goal

abbrev pub invariant-loop-span : goal.invariant-loop-span
invariant-loop-span l = first_in overlap_in (take l.span-index l.spans) ≡ None
