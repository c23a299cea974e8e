use Rattle.std.proofs.Common.{◌≡◌}
use Rattle.sym_expr.specs.Program.{own_words}
use Rattle.module_program.proofs.words.own_words.Given as goal

abbrev pub invariant-loop-k : goal.invariant-loop-k
invariant-loop-k l = l.words.items ≡ own_words l.context.module l.context.patches.now l.interval l.at l.k
