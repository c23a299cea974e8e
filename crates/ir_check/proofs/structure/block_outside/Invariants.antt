use Rattle.std.proofs.Common.{◌≡◌, take, None}
use Rattle.ir_check.specs.Spans.{first_in, outside_in}
use Rattle.ir_check.proofs.structure.block_outside.Given as goal

abbrev pub invariant-loop-span : goal.invariant-loop-span
invariant-loop-span l = first_in outside_in (take l.span-index l.spans) ≡ None
