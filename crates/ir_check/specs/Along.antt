-- The check of an expression, as it goes along those of an interval with the block that each stands in.
use Rattle.std.specs.Prelude.{ℕ, ◌+◌, Bool, false, ◌&&◌, not, nat_lt, nat_le, if◌then◌else◌, List, [], ◌∷◌, drop, take_while, Option, Some, None}
use Rattle.std.specs.List.{list_any, prefix_len}
use Rattle.std.specs.Option.{option_map, option_map_or, option_or}
use Rattle.gt_model.specs.declared.exprs.Expr.{Expr}
use Rattle.gt_model.specs.declared.intervals.Block.{Block}
use Rattle.gt_model.specs.declared.intervals.Interval.{Interval}
use Rattle.ir_check.specs.declared.profile.Plain.{Plain}
use Rattle.ir_check.specs.Faults.{flag_fault, named_fault}
use Rattle.node_arena.specs.declared.fault.CheckFault.{CheckFault}
use Rattle.node_arena.specs.declared.nodes.IntervalNode.{IntervalNode}
use Rattle.sym_expr.specs.declared.aim.Aim.{Aim}
use Rattle.sym_expr.specs.Expressions.{has_data_form, fits_code, names_bad, ExprFault, BadOperand, BadTarget}
use Rattle.sym_expr.specs.Modules.{is_code, end_of, word_of}

-- an interval by its node and its blocks
abbrev pub interval_with : IntervalNode → List Block → Interval
interval_with n blocks = record {
  uuid = n.uuid;
  blocks = blocks;
  exprs = n.exprs;
  has_address = n.has_address;
  address = n.address;
  size = n.size;
  contents = n.contents;
}

-- the blocks, in order, from the first on that ends behind an offset
abbrev pub ends_by : ℕ → Block → Bool
ends_by at b = nat_le (end_of b) at

abbrev pub after : ℕ → List Block → List Block
after at blocks = drop (prefix_len (ends_by at) blocks) blocks

-- the first of them, where it begins no later
abbrev pub covering : ℕ → List Block → Option Block
covering at [] = None
covering at (b ∷ rest) = if nat_le b.offset at then Some b else None

-- of the expressions behind, one that begins before an end has a byte
abbrev pub meets_next : (ℕ → ℕ) → ℕ → List Expr → Bool
meets_next size end rest = list_any (λ (o : Expr). nat_lt 0 (size o.at)) (take_while (λ (o : Expr). nat_lt o.at end) rest)

abbrev pub fits_data_along : (ℕ → ℕ) → Expr → List Expr → Block → Bool
fits_data_along size e rest b = has_data_form (size e.at) e.value && (nat_le (e.at + size e.at) (end_of b) && not (meets_next size (e.at + size e.at) rest))

abbrev pub fits_along : (ℕ → ℕ) → Interval → Expr → List Expr → Block → Bool
fits_along size i e rest b = if is_code b then fits_code i e else fits_data_along size e rest b

abbrev pub word_along : Interval → Expr → Option Block → ℕ
word_along i e home = if option_map_or is_code home false then word_of i e.at else 0

abbrev pub expr_fault_along : (List ℕ → Aim) → (ℕ → ℕ) → Interval → Expr → List Expr → Option Block → Option ExprFault
expr_fault_along aim size i e rest home =
    if not (option_map_or (fits_along size i e rest) home false) then Some BadOperand
    else if names_bad aim (size e.at) (word_along i e home) e.value then Some BadTarget
    else None

abbrev pub fault_along : Plain → (List ℕ → Aim) → (ℕ → ℕ) → Interval → Expr → List Expr → Option Block → Option CheckFault
fault_along allowed aim size i e rest home = option_or (flag_fault allowed i e) (option_map (named_fault i e) (expr_fault_along aim size i e rest home))
