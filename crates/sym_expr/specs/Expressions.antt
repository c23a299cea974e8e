-- Which expressions a module may have: an operand of a word, an address or a difference in data (the rules are ours).
use Rattle.std.specs.Prelude.{ℕ, ◌+◌, ◌%◌, ℤ, pos, min, max, Bool, true, false, ◌==◌, ◌&&◌, ◌||◌, not, nat_lt, nat_le, if◌then◌else◌, List, [], find, Option, None, Some, is_some, unwrap_or}
use Rattle.std.specs.List.{list_any, flat_map, filter_map}
use Rattle.std.specs.Option.{option_map, option_map_or}
use Rattle.std.specs.Ordering.{int_eq}
use Rattle.std.specs.Str.{bytes_eq}
use Rattle.gt_model.specs.declared.exprs.Expr.{Expr}
use Rattle.gt_model.specs.declared.exprs.ExprValue.{ExprValue}
use Rattle.gt_model.specs.declared.exprs.ExprValue.TheVariants as values
use Rattle.gt_model.specs.declared.intervals.Block.{Block}
use Rattle.gt_model.specs.declared.intervals.Interval.{Interval}
use Rattle.gt_model.specs.declared.modules.Module.{Module}
use Rattle.a64_inst.specs.Kinds.{operand_kind, is_branch}
use Rattle.sym_expr.specs.declared.aim.Aim.{Aim}
use Rattle.sym_expr.specs.declared.aim.Aim.TheVariants as aims
use Rattle.sym_expr.specs.declared.difference.DifferenceForm.{DifferenceForm}
use Rattle.sym_expr.specs.Differences.{form_of}
use Rattle.sym_expr.specs.Modules.{loaded_intervals, is_code, end_of, covers, in_order, word_of, interval_of}
use Rattle.sym_expr.specs.Patches.{no_patches}
use Rattle.sym_expr.specs.Tables.{Tables, expr_size}
use Rattle.sym_expr.specs.declared.target.Target.{Target}
use Rattle.sym_expr.specs.declared.target.Target.TheVariants.{Number, Address, Code, Undefined}
use Rattle.sym_expr.specs.Targets.{old_target}

-- ---- where an expression may stand

-- ---- where an expression may stand

abbrev pub is_zero : ℤ → Bool
is_zero z = int_eq z (pos 0)

-- a symbol plus an offset
abbrev pub is_sum : ExprValue → Bool
is_sum (values.AddrConst offset symbol) = is_some symbol
is_sum _ = false

-- in a code block: a symbol for the operand of a word
abbrev pub fits_code : Interval → Expr → Bool
fits_code i e = is_sum e.value && ((e.at % 4 == 0) && is_some (operand_kind (word_of i e.at)))

-- an entry takes no offset
abbrev pub takes_offset : ℤ → DifferenceForm → Bool
takes_offset offset f = not f.is_entry || is_zero offset

-- in data, of so many bytes: an address of eight, or a difference of two symbols in a form
abbrev pub has_data_form : ℕ → ExprValue → Bool
has_data_form size (values.AddrConst offset symbol) = is_some symbol && (size == 8)
has_data_form size (values.AddrAddr scale offset first second) = (is_some first && is_some second) && option_map_or (takes_offset offset) (form_of size scale) false
has_data_form size values.Nothing = false

-- so many bytes at one place and so many at another have one in common
abbrev pub meet : ℕ → ℕ → ℕ → ℕ → Bool
meet at size other other_size = nat_lt (max at other) (min (at + size) (other + other_size))

-- the second is a later expression of the block and has a byte of the first; sizes are by the offset
abbrev pub shares : (ℕ → ℕ) → Block → Expr → Expr → Bool
shares size b e o = nat_lt e.at o.at && (covers o.at b && meet e.at (size e.at) o.at (size o.at))

-- a later one does: of expressions that share a byte the first is at fault
abbrev pub is_shared : (ℕ → ℕ) → Interval → Block → Expr → Bool
is_shared size i b e = list_any (shares size b e) i.exprs

-- in a data block: a form of data, inside the block, that shares no byte
abbrev pub fits_data : (ℕ → ℕ) → Interval → Block → Expr → Bool
fits_data size i b e = has_data_form (size e.at) e.value && (nat_le (e.at + size e.at) (end_of b) && not (is_shared size i b e))

abbrev pub fits_block : (ℕ → ℕ) → Interval → Expr → Block → Bool
fits_block size i e b = if is_code b then fits_code i e else fits_data size i b e

-- the block that has the byte at an offset, the first in block order
abbrev pub home : Interval → ℕ → Option Block
home i at = find (covers at) (in_order i.blocks)

-- the expression may stand where it does
abbrev pub is_operand : (ℕ → ℕ) → Interval → Expr → Bool
is_operand size i e = option_map_or (fits_block size i e) (home i e.at) false

-- ---- what it may name, by what kind of thing each symbol names

-- in code by the word, in data by word 0: code with an offset, and a branch to no code, are not allowed
abbrev pub is_bad_sum : ℕ → ℤ → Aim → Bool
is_bad_sum word offset aims.Number = is_branch word
is_bad_sum word offset aims.Data = is_branch word
is_bad_sum word offset (aims.Code interval) = not (is_zero offset)
is_bad_sum word offset aims.Undefined = false

-- a number and an address
abbrev pub are_mixed : Aim → Aim → Bool
are_mixed aims.Number aims.Data = true
are_mixed aims.Number (aims.Code interval) = true
are_mixed aims.Data aims.Number = true
are_mixed (aims.Code interval) aims.Number = true
are_mixed _ _ = false

-- defined, and no code
abbrev pub is_no_code : Aim → Bool
is_no_code aims.Number = true
is_no_code aims.Data = true
is_no_code _ = false

-- code of different intervals
abbrev pub are_apart : Aim → Aim → Bool
are_apart (aims.Code i) (aims.Code j) = not (bytes_eq i j)
are_apart _ _ = false

-- a difference in a form of what is not allowed; the first has the offset
abbrev pub is_bad_difference : ℤ → Aim → Aim → DifferenceForm → Bool
is_bad_difference offset a b f = is_bad_sum 0 offset a || (are_mixed a b || (f.is_entry && ((is_no_code a || is_no_code b) || are_apart a b)))

-- the word of an expression in code, and 0 in data
abbrev pub word_or_none : Interval → Expr → ℕ
word_or_none i e = if option_map_or is_code (home i e.at) false then word_of i e.at else 0

abbrev pub is_bad_pair : (List ℕ → Aim) → ℕ → ℤ → ℤ → List ℕ → List ℕ → Bool
is_bad_pair aim size scale offset a b = option_map_or (is_bad_difference offset (aim a) (aim b)) (form_of size scale) false

-- the expression names what it may not
abbrev pub names_bad : (List ℕ → Aim) → ℕ → ℕ → ExprValue → Bool
names_bad aim size word values.Nothing = false
names_bad aim size word (values.AddrConst offset symbol) = option_map_or (λ s. is_bad_sum word offset (aim s)) symbol false
names_bad aim size word (values.AddrAddr scale offset first second) = option_map_or (λ a. option_map_or (is_bad_pair aim size scale offset a) second false) first false

-- what is wrong with an expression
pub data ExprFault : Type 0 where
  BadOperand : ExprFault
  BadTarget : ExprFault

-- by what the symbols name, and by the sizes of the expressions of the interval
abbrev pub expr_fault : (List ℕ → Aim) → (ℕ → ℕ) → Interval → Expr → Option ExprFault
expr_fault aim size i e =
    if not (is_operand size i e) then Some BadOperand
    else if names_bad aim (size e.at) (word_or_none i e) e.value then Some BadTarget
    else None

-- ---- in a module

abbrev pub interval_id : List Interval → List ℕ → List ℕ
interval_id intervals block = unwrap_or (option_map (λ (i : Interval). i.uuid) (interval_of block intervals)) []

abbrev pub aim_of : List Interval → Target → Aim
aim_of intervals (Number n) = aims.Number
aim_of intervals (Address block at) = aims.Data
aim_of intervals (Code at) = aims.Code (interval_id intervals at.block)
aim_of intervals (Undefined symbol) = aims.Undefined

-- what a symbol of the module names, whatever the offset
abbrev pub symbol_aim : Module → List ℕ → Aim
symbol_aim m id = aim_of (loaded_intervals m) (old_target m no_patches id (pos 0))

-- the faults of the expressions of an interval, by their offsets
abbrev pub interval_faults : Module → Tables → Interval → List (ℕ × ExprFault)
interval_faults m t i = filter_map (λ (e : Expr). option_map (λ fault. (e.at, fault)) (expr_fault (symbol_aim m) (expr_size t i.uuid) i e)) i.exprs

-- those of the loaded intervals
abbrev pub expr_faults : Module → Tables → List (ℕ × ExprFault)
expr_faults m t = flat_map (interval_faults m t) (loaded_intervals m)
