-- Where bytes stop being those of a value.
use Rattle.std.specs.Prelude.{◌≡◌, ◌≢◌, ◌<◌, ℕ, List, [], ◌++◌, length, slice_index}
use Rattle.gr_base.specs.declared.aux_fault.AuxFault.{AuxFault}
use Rattle.gr_base.specs.declared.aux_fault.AuxFault.TheVariants.{Short, Rest, BadBool, BadVariant, BadUtf8, Duplicate}
use Rattle.aux_types.specs.Shape.{Shape}
use Rattle.aux_codec.specs.Reading.{aux_fault}
use Rattle.aux_codec.specs.Spelling.{HasType, spelling}
use Rattle.aux_codec.specs.Value.{Value}

-- each is below 256
abbrev pub AreBytes : List ℕ → Type 0
AreBytes bytes = (i : ℕ) → slice_index bytes i < 256

-- the offset that a fault carries
abbrev pub place_of : AuxFault → ℕ
place_of (Short place) = place
place_of (Rest place) = place
place_of (BadBool place) = place
place_of (BadVariant place) = place
place_of (BadUtf8 place) = place
place_of (Duplicate place) = place

-- the fault of bytes that are there, and not of such that are missing or left over
abbrev pub IsFinal : AuxFault → Type 0
IsFinal (Short place) = ⊥
IsFinal (Rest place) = ⊥
IsFinal _ = Unit {0}

-- the bytes before the place are sound and call for more, and a final fault stays whatever follows
pub record IsUnfinished (t : Shape) (bytes : List ℕ) (fault : AuxFault) : Type 0 where
  pub front : List ℕ
  pub rest : List ℕ
  pub parts : bytes ≡ front ++ rest
  pub place : place_of fault ≡ length front
  pub short : aux_fault t front (Short (length front))
  pub stays : IsFinal fault → (more : List ℕ) → aux_fault t (bytes ++ more) fault

-- the bytes before the place are those of a value of the type, and there are others
pub record IsFollowed (t : Shape) (bytes : List ℕ) (place : ℕ) : Type 0 where
  pub value : Value
  pub rest : List ℕ
  pub typed : HasType t value
  pub parts : bytes ≡ spelling t value ++ rest
  pub behind : place ≡ length (spelling t value)
  pub others : rest ≢ []

-- where a fault stands
abbrev pub Stands : Shape → List ℕ → AuxFault → Type 0
Stands t bytes (Rest place) = IsFollowed t bytes place
Stands t bytes fault = IsUnfinished t bytes fault
