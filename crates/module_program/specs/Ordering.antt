-- A number by which blocks are in order.
use Rattle.std.specs.Prelude.{ℕ, ◌+◌, ◌*◌, if◌then◌else◌}
use Rattle.gt_model.specs.declared.intervals.Block.{Block}
use Rattle.sym_expr.specs.Modules.{is_empty}

-- it rises with the offset, and at one offset it is lower for empty blocks
abbrev pub rank : Block → ℕ
rank b = 2 * b.offset + (if is_empty b then 0 else 1)
