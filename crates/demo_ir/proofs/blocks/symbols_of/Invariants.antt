use Rattle.std.proofs.Common.{◌≡◌, map}
use Rattle.std.specs.List.{range_with_len}
use Rattle.demo_ir.specs.Demo.{symbol}
use Rattle.demo_ir.proofs.blocks.symbols_of.Given as goal

-- the symbols so far
abbrev pub invariant-loop-k : goal.invariant-loop-k
invariant-loop-k l = l.made ≡ map symbol (range_with_len 0 l.k)
