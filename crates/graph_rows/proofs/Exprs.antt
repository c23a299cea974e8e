-- A list without expressions is in order.
use Rattle.std.proofs.Common.{◌≡◌, List, [], sym, subst}
use Rattle.std.specs.List.Sorted.{IsStrictlySortedBy}
use Rattle.gt_model.specs.Ordered.{ordered_exprs}
use Rattle.gt_model.specs.declared.exprs.Expr.{Expr}

none : ordered_exprs []
unfolding IsStrictlySortedBy
none = tt

pub none_ordered : (exprs : List Expr) → exprs ≡ [] → ordered_exprs exprs
none_ordered exprs empty = subst ordered_exprs (sym empty) none
