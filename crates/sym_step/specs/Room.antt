-- That stores are certain to find room: for the contracts of inner functions.
use Rattle.std.specs.Prelude.{ℕ, List, slice_index_or}
use Rattle.std.specs.List.{AllByRecursion}
use Rattle.a64_inst.specs.declared.operations.Op.{Op}
use Rattle.a64_inst.specs.declared.operations.Op.TheVariants as op
use Rattle.sym_expr.specs.declared.value.Value.{Value}
use Rattle.sym_expr.specs.declared.value.Value.TheVariants.{Num, Addr}
use Rattle.sym_values.specs.declared.kept.KeptCells.{KeptCells}
use Rattle.sym_values.specs.Kept.{kept_room}

-- so many values more can be put where an address leads
abbrev pub RoomAt : KeptCells → ℕ → Value → Type 0
RoomAt kept count (Addr o x) = kept_room kept count o
RoomAt kept count _ = Unit {0}

-- so many can be put where a store puts one
abbrev pub RoomFor : KeptCells → ℕ → List Value → Op → Type 0
RoomFor kept count values (op.Store bytes value at) = RoomAt kept count (slice_index_or values at (Num 0))
RoomFor kept count values _ = Unit {0}

-- and this holds of each of these operations
abbrev pub RoomForAll : KeptCells → ℕ → List Value → List Op → Type 0
RoomForAll kept count values ops = AllByRecursion (RoomFor kept count values) ops
