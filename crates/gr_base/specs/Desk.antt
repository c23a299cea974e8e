-- What the calls of a desk do to its files and to its counts.
use Rattle.std.specs.Prelude.{◌≡◌, ◌⊎◌, ◌≢◌, ◌≤◌, ◌↔◌, ℕ, ◌+◌, ◌-◌, ◌^◌, min, List, ◌++◌, length, take, drop, Option, Some, None, IsSome, Result, Ok, Err}
use Rattle.gr_base.specs.declared.desk.DeskFault.{DeskFault}
use Rattle.gr_base.specs.declared.desk.DeskFault.TheVariants.{Failed, Memory}

-- what each name holds, if anything
abbrev pub Files : Type 0
Files = List ℕ → Option (List ℕ)

-- a count rose by so many, or stands at its last value
abbrev pub Took : ℕ → ℕ → ℕ → Type 0
Took count before now = min (before + count) (2 ^ 64 - 1) ≤ now

-- a count rose, or stood at its last value
abbrev pub Rose : ℕ → ℕ → Type 0
Rose before now = Took 1 before now

-- a count that stays at its last value, after so many more
abbrev pub counted : ℕ → ℕ → ℕ
counted before more = min (before + more) (2 ^ 64 - 1)

-- where a desk tells its files, a fact about them
abbrev pub Told : Option Files → (Files → Type 0) → Type 0
Told None P = Unit {0}
Told (Some files) P = P files

-- where a desk tells its files before and after, and it tells both or neither, a fact about both
abbrev pub ToldBoth : Option Files → Option Files → (Files → Files → Type 0) → Type 0
ToldBoth None None P = Unit {0}
ToldBoth (Some old) (Some new) P = P old new
ToldBoth None (Some new) P = ⊥
ToldBoth (Some old) None P = ⊥

-- no file differs
abbrev pub SameFiles : Files → Files → Type 0
SameFiles old new = (other : List ℕ) → new other ≡ old other

-- the file of this name holds these bytes, and no other file differs
pub record Leaves (name bytes : List ℕ) (old new : Files) : Type 0 where
  pub there : new name ≡ Some bytes
  pub others : (other : List ℕ) → other ≢ name → new other ≡ old other

-- a held file has a prefix of the bytes added, and no other file differs
pub record LeavesPrefix (name more : List ℕ) (old new : Files) : Type 0 where
  pub count : ℕ
  pub held : List ℕ
  pub was : old name ≡ Some held
  pub leaves : Leaves name (held ++ take count more) old new

-- a held file has the first bytes added, and no other file differs
pub record Adds (name more : List ℕ) (old new : Files) : Type 0 where
  pub held : List ℕ
  pub was : old name ≡ Some held
  pub leaves : Leaves name (held ++ more) old new

-- a read of a held file from a place: no bytes exactly from its end on, else these
pub record Fetches (name : List ℕ) (at : ℕ) (buffer : List ℕ) (count : ℕ) (files : Files) : Type 0 where
  pub bytes : List ℕ
  pub held : files name ≡ Some bytes
  pub ends : (count ≡ 0) ↔ (length bytes ≤ at)
  pub within : count ≤ length bytes - at
  pub read : take count buffer ≡ take count (drop at bytes)

-- a count of faults never falls, and a refusal comes only where it rose
pub record HasCause {T : Type 0} (before now : ℕ) (result : Result T DeskFault) : Type 0 where
  pub later : before ≤ now
  pub failed : result ≡ Err Failed → Rose before now

-- a count of faults after a call: one more exactly where the call was refused
abbrev pub after_call : {T : Type 0} → ℕ → Result T DeskFault → ℕ
after_call before (Ok x) = before
after_call before (Err Failed) = counted before 1
after_call before (Err Memory) = before

-- a file of the made name is held
abbrev pub MadeIsHeld : Option Files → Option (List ℕ) → Type 0
MadeIsHeld files made = Told files (λ held. (name : List ℕ) → made ≡ Some name → IsSome (held name))

-- this file is as before or holds a prefix of the bytes, and no other file differs
pub record LeavesPart (name bytes : List ℕ) (old new : Files) : Type 0 where
  pub others : (other : List ℕ) → other ≢ name → new other ≡ old other
  pub part : (new name ≡ old name) ⊎ ((count : ℕ) × (new name ≡ Some (take count bytes)))
