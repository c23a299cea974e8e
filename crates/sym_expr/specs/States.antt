-- What a symbolic machine holds between two instructions, and its memory, object by object (the rules are ours).
use Rattle.std.specs.Prelude.{ℕ, zero, suc, ◌+◌, ◌-◌, ◌/◌, ◌%◌, ◌^◌, Bool, true, false, ◌==◌, ◌&&◌, nat_lt, not, if◌then◌else◌, List, [], ◌∷◌, ◌++◌, map, length, take, drop, replicate, Option, None, Some, slice_index_or, slice_set}
use Rattle.std.specs.Option.{option_map_or}
use Rattle.std.specs.Str.{bytes_eq}
use Rattle.sym_expr.specs.declared.point.Point.{Point}
use Rattle.sym_expr.specs.Points.{data_at}
use Rattle.sym_expr.specs.declared.program.Filling.{Filling}
use Rattle.sym_expr.specs.declared.program.DataBlock.{DataBlock}
use Rattle.sym_expr.specs.declared.program.Program.{Program}
use Rattle.sym_expr.specs.declared.program.Filling.TheVariants.{Pointer, Difference, Entry}
use Rattle.sym_expr.specs.declared.target.Target.{Target}
use Rattle.sym_expr.specs.declared.target.Target.TheVariants.{Number, Address, Code}
use Rattle.sym_expr.specs.declared.target.Target.TheVariants as targets
use Rattle.sym_expr.specs.declared.value.KnownFlags.{KnownFlags}
use Rattle.sym_expr.specs.declared.value.Object.{Object}
use Rattle.sym_expr.specs.declared.value.Object.TheVariants.{Block, Stack}
use Rattle.sym_expr.specs.declared.value.Value.{Value}
use Rattle.sym_expr.specs.declared.value.Value.TheVariants.{Num, Addr, At, Diff}
use Rattle.sym_expr.specs.Values.{Cell, Byte, Part, Quarter, EntryPart, Blank, same_object}

-- no flag is known
abbrev pub flags_unknown : KnownFlags
flags_unknown = record { n = None; z = None; c = None; v = None }

-- the registers X0 to X30, SP, the flags, the cells of each object, the place, what the instruction's expression
-- names, the input that is left, and the output
pub record State : Type 0 where
  pub registers : List Value
  pub stack_pointer : Value
  pub flags : KnownFlags
  pub cells : Object → List Cell
  pub place : Point
  pub named : Option Target
  pub input : List ℕ
  pub output : List ℕ

-- a register: from 31 on it is for true the stack pointer and for false zero
abbrev pub register : Bool → ℕ → State → Value
register stack r s = if nat_lt r 31 then slice_index_or s.registers r (Num 0) else (if stack then s.stack_pointer else Num 0)

-- the machine with a value in a register, as for register; zero keeps none
abbrev pub with_register : Bool → ℕ → Value → State → State
with_register stack r v s = if nat_lt r 31 then record s { registers = slice_set s.registers r v } else (if stack then record s { stack_pointer = v } else s)

-- so many cells of an object from an offset on
abbrev pub cells_at : State → Object → ℕ → ℕ → List Cell
cells_at s o offset count = take count (drop offset (s.cells o))

-- cells with others in their place from an offset on
abbrev pub placed_cells : ℕ → List Cell → List Cell → List Cell
placed_cells offset new old = take offset old ++ new ++ drop (offset + length new) old

-- the machine with other cells of an object from an offset on
abbrev pub with_cells : Object → ℕ → List Cell → State → State
with_cells o offset new s =
    record s { cells = λ other. if same_object o other then placed_cells offset new (s.cells other) else s.cells other }

-- so many cells of a number, the low byte first
abbrev pub number_cells : ℕ → ℕ → List Cell
number_cells zero n = []
number_cells (suc count) n = Byte (n % 256) ∷ number_cells count (n / 256)

-- the parts of a value from the k-th on
abbrev pub parts_from : ℕ → ℕ → (ℕ → Cell) → List Cell
parts_from zero k part = []
parts_from (suc count) k part = part k ∷ parts_from count (suc k) part

-- the eight cells of a value
abbrev pub value_cells : Value → List Cell
value_cells (Num n) = number_cells 8 n
value_cells v = parts_from 8 0 (λ k. Part k v)

-- what stands for an address in data
abbrev pub pointer_cells : Target → List Cell
pointer_cells (Number n) = number_cells 8 n
pointer_cells (Address block offset) = value_cells (Addr (Block block) offset)
pointer_cells (Code p) = value_cells (At p)
pointer_cells (targets.Undefined symbol) = replicate 8 Blank

-- one number less another, modulo 2 ^ 64
abbrev pub less : ℕ → ℕ → ℕ
less a b = (a + (2 ^ 64 - b)) % 2 ^ 64

-- the number that a difference is where it is one: of two numbers, or of two targets in one data block
abbrev pub difference_number : Target → Target → Option ℕ
difference_number (Number a) (Number b) = Some (less a b)
difference_number (Address a x) (Address b y) = if bytes_eq a b then Some (less x y) else None
difference_number _ _ = None

abbrev pub is_defined : Target → Bool
is_defined (targets.Undefined symbol) = false
is_defined _ = true

-- what stands for a difference that is no number
abbrev pub far_cells : ℕ → Target → Target → List Cell
far_cells size p q =
    if not (is_defined p && is_defined q) then replicate size Blank
    else if size == 8 then value_cells (Diff p q)
    else parts_from size 0 (λ k. Quarter k p q)

-- what stands for a difference of so many bytes
abbrev pub difference_cells : ℕ → Target → Target → List Cell
difference_cells size p q = option_map_or (number_cells size) (difference_number p q) (far_cells size p q)

-- what stands for an entry
abbrev pub entry_cells : ℕ → ℕ → Target → Target → List Cell
entry_cells size scale (Code p) (Code q) = parts_from size 0 (λ k. EntryPart k size scale p q)
entry_cells size scale p q = replicate size Blank

abbrev pub filling_cells : Filling → List Cell
filling_cells (Pointer target) = pointer_cells target
filling_cells (Difference size p q) = difference_cells size p q
filling_cells (Entry size scale p q) = entry_cells size scale p q

-- bytes as cells, with what stands in them for expressions
abbrev pub first_cells : List (ℕ × Filling) → List ℕ → List Cell
first_cells [] bytes = map Byte bytes
first_cells (f ∷ fs) bytes = placed_cells f.0 (filling_cells f.1) (first_cells fs bytes)

abbrev pub block_cells : DataBlock → List Cell
block_cells b = first_cells b.fillings b.bytes

-- the cells of each object before the first instruction; the stack has zeros
abbrev pub object_cells : Program → ℕ → Object → List Cell
object_cells g stack (Block id) = option_map_or block_cells (data_at g id) []
object_cells g stack Stack = replicate stack (Byte 0)

-- the size of an object
abbrev pub object_size : State → Object → ℕ
object_size s o = length (s.cells o)

-- the machine before the first instruction of a program, with a stack of so many bytes
abbrev pub start : Program → ℕ → List ℕ → State
start g stack input = record {
  registers = replicate 31 (Num 0);
  stack_pointer = Addr Stack stack;
  flags = record { n = Some false; z = Some false; c = Some false; v = Some false };
  cells = object_cells g stack;
  place = g.entry;
  named = None;
  input = input;
  output = [];
}
