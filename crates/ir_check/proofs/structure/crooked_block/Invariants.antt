use Rattle.std.proofs.Common.{◌≡◌, take, None}
use Rattle.ir_check.specs.Spans.{first_in, crooked_in}
use Rattle.ir_check.proofs.structure.crooked_block.Given as goal

abbrev pub invariant-loop-span : goal.invariant-loop-span
invariant-loop-span l = first_in crooked_in (take l.span-index l.spans) ≡ None
