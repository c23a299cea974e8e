-- Room for stores, where what is kept changes.
use Rattle.std.proofs.Common.{ℕ, ◌+◌, List, [], ◌∷◌, length}
use Rattle.std.specs.Prelude.{slice_index_or}
use Rattle.a64_inst.specs.declared.operations.Op.{Op}
use Rattle.a64_inst.specs.declared.operations.Op.TheVariants as op
use Rattle.sym_expr.specs.declared.value.Object.{Object}
use Rattle.sym_expr.specs.declared.value.Value.{Value}
use Rattle.sym_expr.specs.declared.value.Value.TheVariants.{Num, Addr, At, PageOf, Diff, Step}
use Rattle.sym_values.specs.declared.kept.KeptCells.{KeptCells}
use Rattle.sym_values.specs.Kept.{kept_room}
use Rattle.sym_step.specs.Room.{RoomAt, RoomFor, RoomForAll}

-- where each object with room for so many has room for others
module _ (old new : KeptCells) (before now : ℕ) (follows : (o : Object) → kept_room old before o → kept_room new now o) where
  at_value : (at : Value) → RoomAt old before at → RoomAt new now at
  at_value (Num n) has = tt
  at_value (Addr o x) has = follows o has
  at_value (At p) has = tt
  at_value (PageOf t) has = tt
  at_value (Diff p q) has = tt
  at_value (Step p q n) has = tt

  for_op : (values : List Value) (o : Op) → RoomFor old before values o → RoomFor new now values o
  for_op values (op.Number n) has = tt
  for_op values (op.Target page offset) has = tt
  for_op values (op.Read stack r) has = tt
  for_op values op.Carry has = tt
  for_op values (op.Copy a) has = tt
  for_op values (op.Unary f w a) has = tt
  for_op values (op.Binary f w a b) has = tt
  for_op values (op.Sum sum w a b) has = tt
  for_op values (op.JoinLow unit field a) has = tt
  for_op values (op.Load bytes signed w a) has = tt
  for_op values (op.Condition c) has = tt
  for_op values (op.IsZero negated w a) has = tt
  for_op values (op.Choose inverted more w t a b) has = tt
  for_op values (op.Store bytes a at) has = at_value (slice_index_or values at (Num 0)) has
  for_op values (op.Write stack r a) has = tt
  for_op values (op.FlagsOfSum sum w a b) has = tt
  for_op values (op.FlagsOfCarry sum w a b c) has = tt
  for_op values (op.FlagsOfLogic w a) has = tt
  for_op values (op.FlagsIf sum w t a b nzcv) has = tt
  for_op values op.Link has = tt
  for_op values (op.Call n) has = tt
  for_op values (op.Keep r) has = tt
  for_op values (op.Jump a) has = tt
  for_op values (op.JumpIf t a) has = tt
  for_op values (op.Trap why) has = tt

  for_all : (values : List Value) (ops : List Op) → RoomForAll old before values ops → RoomForAll new now values ops
  for_all values [] has = tt
  for_all values (o ∷ ops) has = (for_op values o has.0, for_all values ops has.1)

-- what has more room has it for an operation too
pub grown : (old new : KeptCells) (count : ℕ) (values : List Value) (o : Op) → ((other : Object) (more : ℕ) → kept_room old more other → kept_room new more other)
    → RoomFor old count values o → RoomFor new count values o
grown old new count values o more has = for_op old new count count (λ other. more other count) values o has

-- behind a store, which takes one place at most, there is room for those that are left
pub left_over : (old new : KeptCells) (count : ℕ) (values : List Value) (ops : List Op) → ((other : Object) (more : ℕ) → kept_room old (more + 1) other → kept_room new more other)
    → RoomForAll old (count + 1) values ops → RoomForAll new count values ops
left_over old new count values ops more has = for_all old new (count + 1) count (λ other. more other count) values ops has
