use Rattle.std.proofs.Common.{◌≡◌, map, take}
use Rattle.asm_print.specs.Marking.{expr_entry}
use Rattle.asm_print.proofs.expressions.entries.Given as goal

abbrev pub invariant-loop-expr : goal.invariant-loop-expr
invariant-loop-expr l = l.entries.items ≡ map expr_entry (take l.expr-index l.exprs)
