-- What the parts of the text look up.
use Rattle.std.specs.Prelude.{◌≡◌, ℕ, nat_eq, List, [], map, unwrap_or}
use Rattle.std.specs.Str.{bytes_eq}
use Rattle.indexmap.specs.IndexMap.{get}
use Rattle.gt_model.specs.declared.exprs.Expr.{Expr}
use Rattle.gt_model.specs.declared.exprs.ExprValue.{ExprValue}
use Rattle.asm_print.specs.declared.context.Context.{Context}
use Rattle.asm_print.specs.declared.context.Here.{Here}
use Rattle.asm_print.specs.Items.{marks_at}
use Rattle.asm_print.specs.Names.{labels_behind, same_place, value_at}

-- an expression by its offset
abbrev pub expr_entry : Expr → ℕ × ExprValue
expr_entry e = (e.at, e.value)

-- the labels of the symbols, and what stands at each place
pub record Knows (c : Context) : Type 0 where
  pub labels : (id : List ℕ) → get bytes_eq c.labels id ≡ value_at bytes_eq id (labels_behind [] c.module.symbols)
  pub lines : (q : List ℕ × ℕ) → unwrap_or (get same_place c.lines q) [] ≡ marks_at c.module q

-- the same in an interval, with its expressions
pub record IsHere (h : Here) : Type 0 where
  pub known : Knows h.context.now
  pub values : (at : ℕ) → get nat_eq h.values at ≡ value_at nat_eq at (map expr_entry h.interval.now.exprs)
