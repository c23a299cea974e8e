use Rattle.std.proofs.Common.{◌≡◌, ◌++◌, drop}
use Rattle.sym_expr.specs.Patches.{function_blocks}
use Rattle.sym_expr.specs.TableOk.{block_ids}
use Rattle.moved_modules.proofs.functions.block_ids.Given as goal

abbrev pub invariant-loop-k : goal.invariant-loop-k
invariant-loop-k l = l.ids.items ++ block_ids l.module l.function l.k (drop l.k (function_blocks l.function)) ≡ block_ids l.module l.function 0 (function_blocks l.function)
