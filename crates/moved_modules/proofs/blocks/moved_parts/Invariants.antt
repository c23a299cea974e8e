use Rattle.std.proofs.Common.{◌≡◌, map, take}
use Rattle.moved_modules.specs.Moved.{moved_part}
use Rattle.moved_modules.proofs.blocks.moved_parts.Given as goal

abbrev pub invariant-loop-part : goal.invariant-loop-part
invariant-loop-part l = l.moved.items ≡ map (moved_part l.module l.targets l.block) (take l.part-index l.part-items)
