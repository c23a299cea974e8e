use Rattle.std.proofs.Common.{◌≡◌, ◌≤◌, ◌*◌, map}
use Rattle.std.specs.Prelude.{sum_by}
use Rattle.std.specs.List.{range_with_len}
use Rattle.demo_ir.specs.Code.{constant}
use Rattle.demo_ir.proofs.code.demo_exit.Given as goal

-- the sum of the constants so far
abbrev pub invariant-loop-k : goal.invariant-loop-k
invariant-loop-k l = record {
  value : l.sum ≡ sum_by (λ c. c) (map (constant l.seed) (range_with_len 0 l.k));
  small : l.sum ≤ 4096 * l.k;
}
