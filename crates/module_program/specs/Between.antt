-- Expressions by their offset.
use Rattle.std.specs.Prelude.{ℕ, Bool, ◌==◌, ◌&&◌, nat_le, nat_lt}
use Rattle.gt_model.specs.declared.exprs.Expr.{Expr}

-- from one offset up to another
abbrev pub is_between : ℕ → ℕ → Expr → Bool
is_between from to e = nat_le from e.at && nat_lt e.at to

abbrev pub is_at : ℕ → Expr → Bool
is_at at e = at == e.at
