-- A machine whose values are numbers: what it holds between two instructions.
use Rattle.std.specs.Prelude.{ℕ, Bool, nat_lt, if◌then◌else◌, List, slice_index, slice_set}
use Rattle.a64_inst.specs.declared.flags.Flags.{Flags}
use Rattle.paged_memory.specs.Mapping.{Mapping}

-- the registers X0 to X30, SP, the flags, the memory, the address of the next instruction, the input that is left, and the output
pub record Machine : Type 0 where
  pub registers : List ℕ
  pub stack_pointer : ℕ
  pub flags : Flags
  pub memory : Mapping
  pub place : ℕ
  pub input : List ℕ
  pub output : List ℕ

-- a register: from 31 on it is for true the stack pointer and for false zero
abbrev pub register : Bool → ℕ → Machine → ℕ
register stack r m = if nat_lt r 31 then slice_index m.registers r else (if stack then m.stack_pointer else 0)

-- the machine with a number in a register, as for register; zero keeps none
abbrev pub with_register : Bool → ℕ → ℕ → Machine → Machine
with_register stack r n m = if nat_lt r 31 then record m { registers = slice_set m.registers r n } else (if stack then record m { stack_pointer = n } else m)
