-- What files in memory hold.
use Rattle.std.specs.Prelude.{ℕ, min, ◌-◌, IsSome, List, length, Option, Some, None, Result, Ok, Err, Vec, String, string_bytes}
use Rattle.std.specs.BTreeMap.{BTreeMap, get_by_text}
use Rattle.std.specs.Option.{option_map}
use Rattle.std.specs.declared.alloc.Global.{Global}
use Rattle.gr_base.specs.Desk.{Files}
use Rattle.gr_base.specs.declared.desk.DeskFault.{DeskFault}
use Rattle.gr_base.specs.declared.desk.DeskFault.TheVariants.{Failed}

-- what each name holds
abbrev pub held_in : BTreeMap (String Global) (Vec ℕ Global) → Files
held_in files name = option_map (λ v. v.items) (get_by_text files name)

-- a name, as a list of its bytes
abbrev pub name_of : Option (String Global) → Option (List ℕ)
name_of made = option_map string_bytes made

-- the bytes of a file from a place, as many as may be taken and as fit
abbrev pub piece_size : List ℕ → ℕ → ℕ → ℕ → ℕ
piece_size bytes at most room = min (length bytes - at) (min most room)

-- the answer to a read of what a name holds
abbrev pub read_of : Option (List ℕ) → ℕ → ℕ → ℕ → Result ℕ DeskFault
read_of None at most room = Err Failed
read_of (Some bytes) at most room = Ok (piece_size bytes at most room)

-- each name that is held stays held
abbrev pub KeepsNames : Files → Files → Type 0
KeepsNames old new = (name : List ℕ) → IsSome (old name) → IsSome (new name)
