use Rattle.std.proofs.Common.{◌≡◌, ◌++◌, map, take}
use Rattle.rewrite.specs.Exprs.{moved_expr}
use Rattle.new_intervals.proofs.exprs.push_moved.Given as goal

abbrev pub invariant-loop-expr : goal.invariant-loop-expr
invariant-loop-expr l = l.out.items ≡ l.initial.out.items ++ map (moved_expr l.moves.stretch.now) (take l.expr-index l.exprs)
