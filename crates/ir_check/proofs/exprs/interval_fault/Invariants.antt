use Rattle.std.proofs.Common.{◌≡◌, ℕ, ◌<◌, ◌≤◌, take, length, get_or, None}
use Rattle.std.specs.Str.{bytes_eq}
use Rattle.indexmap.specs.IndexMap.{get}
use Rattle.gt_model.specs.declared.exprs.Expr.{Expr}
use Rattle.sym_expr.specs.Tables.{expr_size}
use Rattle.ir_check.specs.Along.{after, interval_with}
use Rattle.ir_check.specs.Faults.{fault_of}
use Rattle.ir_check.specs.Sites.{aim_in}
use Rattle.ir_check.specs.Spans.{first_in}
use Rattle.ir_check.proofs.exprs.interval_fault.Given as goal

-- none so far is at fault, and no block that was passed over ends behind one that is left
abbrev pub invariant-loop-k : goal.invariant-loop-k
invariant-loop-k l =
    (first_in (fault_of l.plain (aim_in (get bytes_eq l.names.aims)) (expr_size l.names.tables l.node.uuid) (interval_with l.node l.span.blocks)) (take l.k l.node.exprs) ≡ None)
    × ((j : ℕ) (d : Expr) → l.k ≤ j → j < length l.node.exprs → after (get_or l.node.exprs j d).at l.blocks ≡ after (get_or l.node.exprs j d).at l.span.ordered)
