use Rattle.std.proofs.Common.{◌≡◌, ◌++◌}
use Rattle.std.specs.List.{flat_map, range_with_len}
use Rattle.demo_ir.specs.Code.{link_bytes}
use Rattle.demo_ir.proofs.code.put_links.Given as goal

-- the words of the blocks so far are put
abbrev pub invariant-loop-k : goal.invariant-loop-k
invariant-loop-k l = l.out ≡ l.initial.out ++ flat_map (link_bytes l.seed) (range_with_len 0 l.k)
