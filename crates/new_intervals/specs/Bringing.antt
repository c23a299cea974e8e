-- What words of patches bring: the values of their expressions, before an offset is known.
use Rattle.std.specs.Prelude.{ℕ, ◌+◌, List, [], ◌∷◌, ◌++◌, Option, Some, None, slice_get}
use Rattle.std.specs.Option.{option_map, option_and_then, option_to_list}
use Rattle.block_parts.specs.declared.words.Origin.{Origin}
use Rattle.block_parts.specs.declared.words.Origin.TheVariants.{Own, Inserted}
use Rattle.block_parts.specs.declared.words.PatchedWord.{PatchedWord}
use Rattle.gt_model.specs.declared.exprs.Expr.{Expr}
use Rattle.gt_model.specs.declared.exprs.ExprValue.{ExprValue}
use Rattle.gt_model.specs.declared.exprs.ExprValue.TheVariants as values
use Rattle.gt_model.specs.declared.modules.Module.{Module}
use Rattle.rewrite.specs.Identifiers.{symbol_id}
use Rattle.sym_expr.specs.declared.patches.PatchTarget.{PatchTarget}
use Rattle.sym_expr.specs.declared.patches.PatchWord.{PatchWord}

-- what the expression of a target stands for
abbrev pub target_value : Module → PatchTarget → ExprValue
target_value m t = values.AddrConst t.offset (Some (symbol_id m t.symbol))

-- what the expression stands for that a word brings, if it brings one
abbrev pub word_value : Module → PatchWord → Option ExprValue
word_value m w = option_map (target_value m) w.target

-- the expression of a value at an offset
abbrev pub value_expr : ℕ → ExprValue → Expr
value_expr at value = record { at = at; value = value; flags = [] }

-- what a word of a block brings, where inserted words bring these
abbrev pub origin_value : List (Option ExprValue) → Origin → Option ExprValue
origin_value news (Own offset) = None
origin_value news (Inserted k) = option_and_then (λ value. value) (slice_get news k)

-- what words bring that stand one behind the other from an offset on
abbrev pub brought_values : List (Option ExprValue) → ℕ → List PatchedWord → List Expr
brought_values news at [] = []
brought_values news at (w ∷ ws) = option_to_list (option_map (value_expr at) (origin_value news w.origin)) ++ brought_values news (at + 4) ws
