use Rattle.std.proofs.Common.{◌≡◌}
use Rattle.sym_expr.specs.Modules.{bytes_at}
use Rattle.module_program.proofs.bytes.bytes_at.Given as goal

abbrev pub invariant-loop-k : goal.invariant-loop-k
invariant-loop-k l = l.bytes.items ≡ bytes_at l.interval l.at l.k
