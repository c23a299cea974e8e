use Rattle.std.proofs.Common.{◌≡◌, ◌++◌, map}
use Rattle.std.specs.List.{range_with_len}
use Rattle.demo_ir.specs.Demo.{link_block}
use Rattle.demo_ir.proofs.blocks.push_links.Given as goal

-- the blocks so far are pushed
abbrev pub invariant-loop-k : goal.invariant-loop-k
invariant-loop-k l = l.made.items ≡ l.initial.made.items ++ map link_block (range_with_len 0 l.k)
