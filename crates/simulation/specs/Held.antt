-- Which states of the two machines of a program stand for each other.
use Rattle.std.specs.Prelude.{◌≡◌, ◌<◌, ℕ, ◌+◌, ◌^◌, Bool, List, All, length, Option, Some, None, Ok, slice_index, slice_index_or}
use Rattle.a64_inst.specs.declared.flags.Flags.{Flags}
use Rattle.a64_inst.specs.declared.kind.Kind.{Kind}
use Rattle.a64_inst.specs.Fitting.{fit}
use Rattle.a64_inst.specs.Kinds.{operand_kind}
use Rattle.num_run.specs.Machine.{Machine}
use Rattle.paged_memory.specs.Mapping.{Mapping, word_at as number_of_word}
use Rattle.sym_expr.specs.declared.point.Point.{Point}
use Rattle.sym_expr.specs.declared.program.Program.{Program}
use Rattle.sym_expr.specs.declared.program.Word.{Word}
use Rattle.sym_expr.specs.declared.target.Target.{Target}
use Rattle.sym_expr.specs.declared.value.KnownFlags.{KnownFlags}
use Rattle.sym_expr.specs.declared.value.Object.{Object}
use Rattle.sym_expr.specs.declared.value.Value.TheVariants.{Num}
use Rattle.sym_expr.specs.Points.{word_at}
use Rattle.sym_expr.specs.States.{State, object_cells}
use Rattle.sym_expr.specs.Values.{Cell, Blank}
use Rattle.sym_expr.specs.WellMade.{IsPoint}
use Rattle.simulation.specs.Placement.{Placement, object_address, point_address, target_number}
use Rattle.simulation.specs.Meant.{IsObject, IsTarget, IsCell, Means}

-- a flag as far as it is known
abbrev pub IsFlag : Option Bool → Bool → Type 0
IsFlag None b = Unit {0}
IsFlag (Some known) b = b ≡ known

-- flags as far as they are known
pub record AreFlags (known : KnownFlags) (flags : Flags) : Type 0 where
  pub n : IsFlag known.n flags.n
  pub z : IsFlag known.z flags.z
  pub c : IsFlag known.c flags.c
  pub v : IsFlag known.v flags.v

-- memory has a byte at an address, and it stands for a cell
pub record HasCell (pl : Placement) (g : Program) (memory : Mapping) (at : ℕ) (c : Cell) : Type 0 where
  pub byte : ℕ
  pub mapped : memory at ≡ Some byte
  pub means : IsCell pl g c byte

-- memory has the cells of each object at its address
abbrev pub HasCells : Placement → Program → Mapping → (Object → List Cell) → Type 0
HasCells pl g memory cells =
    (o : Object) → IsObject g o → (k : ℕ) → k < length (cells o) → HasCell pl g memory (object_address pl o + k) (slice_index_or (cells o) k Blank)

-- the size of an object
abbrev pub size_of : Placement → Program → Object → ℕ
size_of pl g o = length (object_cells g pl.stack_size o)

-- memory has the word at an address with its operand filled for the target
pub record HasFilled (pl : Placement) (g : Program) (memory : Mapping) (at word : ℕ) (t : Target) : Type 0 where
  pub target : IsTarget g t
  pub kind : Kind
  pub has_kind : operand_kind word ≡ Some kind
  pub filled : ℕ
  pub fits : fit kind at (target_number pl g t) word ≡ Ok filled
  pub stands : number_of_word memory at ≡ Some filled

-- the same, where there may be no target
abbrev pub HasOperand : Placement → Program → Mapping → (at word : ℕ) → Option Target → Type 0
HasOperand pl g memory at word None = number_of_word memory at ≡ Some word
HasOperand pl g memory at word (Some t) = HasFilled pl g memory at word t

-- memory has a word of the program at an address
pub record HasWord (pl : Placement) (g : Program) (memory : Mapping) (at : ℕ) (w : Word) : Type 0 where
  pub small : w.word < 2 ^ 32
  pub stands : HasOperand pl g memory at w.word w.target

-- memory has the word of each point
abbrev pub HasCode : Placement → Program → Mapping → Type 0
HasCode pl g memory = (p : Point) (w : Word) → IsPoint g p → word_at g p ≡ Some w → HasWord pl g memory (point_address pl g p) w

-- what the machines hold between two instructions stands for each other
pub record Related (pl : Placement) (g : Program) (s : State) (m : Machine) : Type 0 where
  pub count : length s.registers ≡ length m.registers
  pub registers : (r : ℕ) → Means pl g (slice_index_or s.registers r (Num 0)) (slice_index m.registers r)
  pub stack_pointer : Means pl g s.stack_pointer m.stack_pointer
  pub flags : AreFlags s.flags m.flags
  pub sizes : (o : Object) → length (s.cells o) ≡ size_of pl g o
  pub cells : HasCells pl g m.memory s.cells
  pub code : HasCode pl g m.memory
  pub is_point : IsPoint g s.place
  pub place : m.place ≡ point_address pl g s.place
  pub bytes : All (λ b. b < 256) s.input
  pub input : m.input ≡ s.input
  pub output : m.output ≡ s.output
