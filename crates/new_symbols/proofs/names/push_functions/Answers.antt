use Rattle.std.proofs.Common.{ℕ, List, ◌≢◌}
use Rattle.std.specs.Prelude.{AllPairs}
use Rattle.new_symbols.proofs.Lists.{holds_of}
use Rattle.rewrite.specs.Symbols.{names_of}
use Rattle.sym_expr.specs.declared.patches.Function.{Function}
use Rattle.new_symbols.proofs.names.push_functions.Goals as goal

pub push_function-requires : goal.push_function-requires
push_function-requires c =
    holds_of (λ (f : Function). AllPairs (λ (a b : List ℕ). a ≢ b) (names_of f)) c.args.functions.now c.loop-function.function-index c.function-item.result c.requires c.loop-function-test.true c.function-item.is
