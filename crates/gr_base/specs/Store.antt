-- The files of a store.
use Rattle.std.specs.Prelude.{◌≡◌, ℕ, List, Option, take, drop, Some}
use Rattle.gr_base.specs.Desk.{Files}
use Rattle.gr_base.specs.Held.{held_in, name_of, piece_size}
use Rattle.gr_base.specs.declared.store.Store.{Store}

-- what each name holds
abbrev pub files_of : Store → Files
files_of store = held_in store.files

-- the file that may be appended to
abbrev pub made_of : Store → Option (List ℕ)
made_of store = name_of store.made

-- a read of a held file from a place, as long as the file, the most and the room allow
pub record ReadsPiece (name : List ℕ) (at most room : ℕ) (buffer : List ℕ) (count : ℕ) (files : Files) : Type 0 where
  pub bytes : List ℕ
  pub held : files name ≡ Some bytes
  pub size : count ≡ piece_size bytes at most room
  pub read : take count buffer ≡ take count (drop at bytes)
