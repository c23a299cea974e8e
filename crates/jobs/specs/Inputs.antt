-- The files that the words name, and which of them can be read whole.
use Rattle.std.specs.Prelude.{◌≡◌, ◌<◌, ◌≤◌, ℕ, ◌^◌, List, [], ◌∷◌, ◌++◌, length, Option, Some, None, unwrap_or, IsSome}
use Rattle.std.specs.List.{AllByRecursion, flat_map}
use Rattle.std.specs.Option.{option_and_then}
use Rattle.gr_base.specs.Desk.{Files}
use Rattle.bare_image.specs.Valid.{AreBytes}
use Rattle.command_words.specs.declared.role.Role.{Role}
use Rattle.command_words.specs.declared.role.TheConstants.{ROLES}
use Rattle.command_words.specs.Picked.{Picked}

-- an input file: what it is to the job, and its name
abbrev pub InputFile : Type 0
InputFile = Role × List ℕ

-- the file of a name, if there is one, as an input of a role
abbrev pub input_as : Role → Option (List ℕ) → List InputFile
input_as role None = []
input_as role (Some name) = (role, name) ∷ []

-- the files that are asked for in these roles
abbrev pub files_as : Picked → List Role → List InputFile
files_as asked roles = flat_map (λ role. input_as role (asked.file role)) roles

-- the files that a job reads, in their order
abbrev pub inputs_of : Option Picked → List InputFile
inputs_of None = []
inputs_of (Some asked) = files_as asked ROLES

-- what the input file of each role holds, if the words name one
abbrev pub Contents : Type 0
Contents = Role → Option (List ℕ)

-- what the input files hold
abbrev pub contents_of : Picked → Files → Contents
contents_of asked files role = option_and_then files (asked.file role)

-- the bytes of the input of a role; one that no word names is empty
abbrev pub bytes_in : Contents → Role → List ℕ
bytes_in contents role = unwrap_or (contents role) []

-- what files hold are bytes
abbrev pub HoldBytes : Files → Type 0
HoldBytes files = (name bytes : List ℕ) → files name ≡ Some bytes → AreBytes bytes

-- each input is held
abbrev pub AllHeld : List InputFile → Files → Type 0
AllHeld inputs files = AllByRecursion (λ input. IsSome (files input.1)) inputs

-- a file is held, with at most 2 ^ 26 bytes
abbrev pub IsReadable : Files → List ℕ → Type 0
IsReadable files name = (bytes : List ℕ) × (files name ≡ Some bytes) × (length bytes ≤ 2 ^ 26)

-- a file is held, with more than 2 ^ 26 bytes
abbrev pub IsTooLarge : Files → List ℕ → Type 0
IsTooLarge files name = (bytes : List ℕ) × (files name ≡ Some bytes) × (2 ^ 26 < length bytes)

-- each input can be read
abbrev pub AllReadable : List InputFile → Files → Type 0
AllReadable inputs files = AllByRecursion (λ input. IsReadable files input.1) inputs

-- an input has this role
abbrev pub Names : List InputFile → Role → Type 0
Names inputs role = (before : List InputFile) × (name : List ℕ) × (after : List InputFile) × (inputs ≡ before ++ (role, name) ∷ after)

-- the input of this role and name comes after others that can all be read
pub record Reaches (inputs : List InputFile) (role : Role) (name : List ℕ) (files : Files) : Type 0 where
  pub before : List InputFile
  pub after : List InputFile
  pub listed : inputs ≡ before ++ (role, name) ∷ after
  pub readable : AllReadable before files
