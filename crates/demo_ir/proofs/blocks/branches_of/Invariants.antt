use Rattle.std.proofs.Common.{◌≡◌, map}
use Rattle.std.specs.List.{range_with_len}
use Rattle.demo_ir.specs.Demo.{branch}
use Rattle.demo_ir.proofs.blocks.branches_of.Given as goal

-- the branches so far
abbrev pub invariant-loop-k : goal.invariant-loop-k
invariant-loop-k l = l.made ≡ map branch (range_with_len 0 l.k)
