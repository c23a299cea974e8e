-- A type as clauses see it, with a list of its own for the parts of a tuple or a variant; its name.
use Rattle.std.specs.Prelude.{◌≡◌, ◌≤◌, ℕ, ◌+◌, max, List, [], ◌∷◌, ◌++◌, codes}
use Rattle.aux_types.specs.declared.aux_type.AuxType.{AuxType, fold-AuxType}
use Rattle.aux_types.specs.declared.aux_type.AuxType.TheOpen.{AuxType-F}
use Rattle.aux_types.specs.declared.name.Scalar.{Scalar}
use Rattle.aux_types.specs.declared.name.Scalar.TheVariants as s
use Rattle.aux_types.specs.declared.name.Container.TheVariants as c
use Rattle.aux_types.specs.Names.{scalar_text, container_text}

mutual
  pub data Shape : Type 0 where
    Plain : Scalar → Shape
    Sequence : Shape → Shape
    Set : Shape → Shape
    Mapping : Shape → Shape → Shape
    Tuple : Shapes → Shape
    Variant : Shapes → Shape

  pub data Shapes : Type 0 where
    none : Shapes
    more : Shape → Shapes → Shapes

abbrev pub shapes : List Shape → Shapes
shapes [] = none
shapes (t ∷ ts) = more t (shapes ts)

-- one level of a type, with each type inside it seen already
abbrev pub layer : AuxType-F Shape → Shape
layer AuxType-F.Str = Plain s.Str
layer AuxType-F.Bool = Plain s.Bool
layer AuxType-F.Id = Plain s.Id
layer AuxType-F.Addr = Plain s.Addr
layer AuxType-F.Offset = Plain s.Offset
layer AuxType-F.I8 = Plain s.I8
layer AuxType-F.I16 = Plain s.I16
layer AuxType-F.I32 = Plain s.I32
layer AuxType-F.I64 = Plain s.I64
layer AuxType-F.U8 = Plain s.U8
layer AuxType-F.U16 = Plain s.U16
layer AuxType-F.U32 = Plain s.U32
layer AuxType-F.U64 = Plain s.U64
layer AuxType-F.Four = Plain s.Four
layer AuxType-F.Eight = Plain s.Eight
layer (AuxType-F.Sequence t) = Sequence t
layer (AuxType-F.Set t) = Set t
layer (AuxType-F.Mapping k v) = Mapping k v
layer (AuxType-F.Tuple ts) = Tuple (shapes ts)
layer (AuxType-F.Variant ts) = Variant (shapes ts)

abbrev pub shape_of : AuxType → Shape
shape_of = fold-AuxType Shape layer

abbrev mutual
  -- the name of a type
  pub name : Shape → List ℕ
  name (Plain k) = scalar_text k
  name (Sequence t) = container_text c.Sequence ++ codes "<" ++ name t ++ codes ">"
  name (Set t) = container_text c.Set ++ codes "<" ++ name t ++ codes ">"
  name (Mapping k v) = container_text c.Mapping ++ codes "<" ++ name k ++ codes "," ++ name v ++ codes ">"
  name (Tuple ts) = container_text c.Tuple ++ codes "<" ++ names ts ++ codes ">"
  name (Variant ts) = container_text c.Variant ++ codes "<" ++ names ts ++ codes ">"

  -- the names of the parts, with a comma between two
  pub names : Shapes → List ℕ
  names none = []
  names (more t ts) = name t ++ names_behind ts

  -- a comma before the name of each part
  pub names_behind : Shapes → List ℕ
  names_behind none = []
  names_behind (more t ts) = codes "," ++ name t ++ names_behind ts

abbrev mutual
  -- how many brackets of the name nest
  pub nesting : Shape → ℕ
  nesting (Plain k) = 0
  nesting (Sequence t) = nesting t + 1
  nesting (Set t) = nesting t + 1
  nesting (Mapping k v) = max (nesting k) (nesting v) + 1
  nesting (Tuple ts) = nesting_of_parts ts + 1
  nesting (Variant ts) = nesting_of_parts ts + 1

  pub nesting_of_parts : Shapes → ℕ
  nesting_of_parts none = 0
  nesting_of_parts (more t ts) = max (nesting t) (nesting_of_parts ts)

abbrev mutual
  -- each tuple and each variant in it has a part
  pub HasParts : Shape → Type 0
  HasParts (Plain k) = Unit {0}
  HasParts (Sequence t) = HasParts t
  HasParts (Set t) = HasParts t
  HasParts (Mapping k v) = HasParts k × HasParts v
  HasParts (Tuple ts) = SomeHaveParts ts
  HasParts (Variant ts) = SomeHaveParts ts

  -- there is a part, and each has parts where it needs them
  pub SomeHaveParts : Shapes → Type 0
  SomeHaveParts none = ⊥
  SomeHaveParts (more t ts) = HasParts t × AllHaveParts ts

  pub AllHaveParts : Shapes → Type 0
  AllHaveParts none = Unit {0}
  AllHaveParts (more t ts) = HasParts t × AllHaveParts ts

-- what has a name: there are the parts that it needs, and at most 32 brackets nest
pub record IsNamed (t : Shape) : Type 0 where
  pub parts : HasParts t
  pub nests : nesting t ≤ 32

-- the type has the text as its name
pub record type_text (text : List ℕ) (t : AuxType) : Type 0 where
  pub named : IsNamed (shape_of t)
  pub spelled : text ≡ name (shape_of t)
