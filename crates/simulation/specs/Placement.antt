-- Where the blocks of a program and its stack lie, and what points, targets and values are as numbers there.
use Rattle.std.specs.Prelude.{ℕ, ◌+◌, ◌%◌, ◌^◌, List, unwrap_or}
use Rattle.a64_inst.specs.Fitting.{page_of}
use Rattle.sym_expr.specs.declared.layout.Layout.{Layout}
use Rattle.sym_expr.specs.declared.point.Point.{Point}
use Rattle.sym_expr.specs.declared.program.Program.{Program}
use Rattle.sym_expr.specs.declared.target.Target.{Target}
use Rattle.sym_expr.specs.declared.target.Target.TheVariants.{Number, Address, Code, Undefined}
use Rattle.sym_expr.specs.declared.value.Object.{Object}
use Rattle.sym_expr.specs.declared.value.Object.TheVariants.{Block, Stack}
use Rattle.sym_expr.specs.declared.value.Value.{Value}
use Rattle.sym_expr.specs.declared.value.Value.TheVariants.{Num, Addr, At, PageOf, Diff, Step}
use Rattle.sym_expr.specs.Images.{block_address, depth}
use Rattle.sym_expr.specs.States.{less}

-- the address of each block's start, and the stack's address and size
pub record Placement : Type 0 where
  pub block : List ℕ → ℕ
  pub stack_at : ℕ
  pub stack_size : ℕ

-- where a layout puts them
abbrev pub placement_of : Layout → Program → Placement
placement_of l g = record { block = λ id. unwrap_or (block_address l g id) 0; stack_at = l.stack_at; stack_size = l.stack_size }

-- the address of an object's first byte
abbrev pub object_address : Placement → Object → ℕ
object_address pl (Block id) = pl.block id
object_address pl Stack = pl.stack_at

-- the address of a point
abbrev pub point_address : Placement → Program → Point → ℕ
point_address pl g p = pl.block p.block + depth g p

-- what a target is as a number; a symbol that stands for nothing is none
abbrev pub target_number : Placement → Program → Target → ℕ
target_number pl g (Number n) = n
target_number pl g (Address block offset) = (pl.block block + offset) % 2 ^ 64
target_number pl g (Code p) = point_address pl g p
target_number pl g (Undefined symbol) = 0

-- what a value is as a number
abbrev pub value_number : Placement → Program → Value → ℕ
value_number pl g (Num n) = n
value_number pl g (Addr o offset) = (object_address pl o + offset) % 2 ^ 64
value_number pl g (At p) = point_address pl g p
value_number pl g (PageOf t) = page_of (target_number pl g t)
value_number pl g (Diff p q) = less (target_number pl g p) (target_number pl g q)
value_number pl g (Step p q n) = n
