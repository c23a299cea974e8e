use Rattle.std.proofs.Common.{◌≡◌, ◌++◌, map, take}
use Rattle.rewrite.specs.Blocks.{part_block}
use Rattle.new_intervals.proofs.blocks.push_parts.Given as goal

abbrev pub invariant-loop-part : goal.invariant-loop-part
invariant-loop-part l = l.out.items ≡ l.initial.out.items ++ map (part_block l.module l.block l.decode_mode l.at) (take l.part-index l.parts)
