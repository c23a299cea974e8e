-- Where a text stops being the name of a type.
use Rattle.std.specs.Prelude.{◌≡◌, ◌≤◌, ℕ, List, [], ◌∷◌, ◌++◌, length}
use Rattle.aux_types.specs.declared.fault.TypeFault.{TypeFault}
use Rattle.aux_types.specs.declared.fault.TypeFault.TheVariants.{NotAType, Deep}
use Rattle.aux_types.specs.Shape.{Shape, name, nesting, HasParts}
use Rattle.aux_types.specs.Reading.{word, type_fault}

-- the offset that a fault carries
abbrev pub place_of : TypeFault → ℕ
place_of (NotAType place) = place
place_of (Deep place) = place

-- the other text begins with the same word, or with the same byte where no word stands; or both are empty
abbrev pub SameToken : List ℕ → List ℕ → Type 0
SameToken [] other = other ≡ []
SameToken (b ∷ bytes) [] = ⊥
SameToken (b ∷ bytes) (d ∷ other) = (d ≡ b) × (word (d ∷ other) ≡ word (b ∷ bytes))

-- the name of a type, one more bracket of which may nest than is taken
pub record IsDeepName (text : List ℕ) : Type 0 where
  pub type : Shape
  pub parts : HasParts type
  pub nests : nesting type ≤ 33
  pub spelled : text ≡ name type

-- a fault stands where a type's name can't go on: the text before its place begins the name of a type, and each text
-- that goes on there with the same token has this fault too, whatever follows the token
pub record Stands (text : List ℕ) (fault : TypeFault) : Type 0 where
  pub front : List ℕ
  pub rest : List ℕ
  pub parts : text ≡ front ++ rest
  pub place : place_of fault ≡ length front
  pub more : List ℕ
  pub begins : IsDeepName (front ++ more)
  pub stays : (other : List ℕ) → SameToken rest other → type_fault (front ++ other) fault
