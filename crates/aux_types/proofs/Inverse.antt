-- A type is known by its shape.
use Rattle.std.proofs.Common.{◌≡◌, List, [], ◌∷◌, map, refl, sym, ap, subst, ◌∙◌}
use Rattle.aux_types.specs.declared.aux_type.AuxType.{AuxType, fold-roll-AuxType, ind-AuxType, roll-AuxType, map-AuxType}
use Rattle.aux_types.specs.declared.aux_type.AuxType.TheOpen.{AuxType-F}
use Rattle.aux_types.specs.declared.name.Scalar.{Scalar}
use Rattle.aux_types.specs.declared.name.Scalar.TheVariants as s
use Rattle.aux_types.specs.Shape.{Shape, Plain, Sequence, Set, Mapping, Tuple, Variant, Shapes, none, more, shapes, layer, shape_of}

abbrev layer_of_scalar : Scalar → AuxType-F AuxType
layer_of_scalar s.Str = AuxType-F.Str
layer_of_scalar s.Bool = AuxType-F.Bool
layer_of_scalar s.Id = AuxType-F.Id
layer_of_scalar s.Addr = AuxType-F.Addr
layer_of_scalar s.Offset = AuxType-F.Offset
layer_of_scalar s.I8 = AuxType-F.I8
layer_of_scalar s.I16 = AuxType-F.I16
layer_of_scalar s.I32 = AuxType-F.I32
layer_of_scalar s.I64 = AuxType-F.I64
layer_of_scalar s.U8 = AuxType-F.U8
layer_of_scalar s.U16 = AuxType-F.U16
layer_of_scalar s.U32 = AuxType-F.U32
layer_of_scalar s.U64 = AuxType-F.U64
layer_of_scalar s.Four = AuxType-F.Four
layer_of_scalar s.Eight = AuxType-F.Eight

-- the type of a shape
abbrev mutual
  type_of : Shape → AuxType
  type_of (Plain k) = roll-AuxType (layer_of_scalar k)
  type_of (Sequence t) = roll-AuxType (AuxType-F.Sequence (type_of t))
  type_of (Set t) = roll-AuxType (AuxType-F.Set (type_of t))
  type_of (Mapping k v) = roll-AuxType (AuxType-F.Mapping (type_of k) (type_of v))
  type_of (Tuple ts) = roll-AuxType (AuxType-F.Tuple (types_of ts))
  type_of (Variant ts) = roll-AuxType (AuxType-F.Variant (types_of ts))

  types_of : Shapes → List AuxType
  types_of none = []
  types_of (more t ts) = type_of t ∷ types_of ts

abbrev IsBack : AuxType → Type 0
IsBack t = type_of (shape_of t) ≡ t

all_back : (ts : List ((t : AuxType) × IsBack t)) → types_of (shapes (map shape_of (map (λ e. e.0) ts))) ≡ map (λ e. e.0) ts
all_back [] = refl
all_back (t ∷ ts) = ap (λ (x : AuxType). x ∷ types_of (shapes (map shape_of (map (λ e. e.0) ts)))) t.1 ∙ ap (λ (xs : List AuxType). t.0 ∷ xs) (all_back ts)

step_back : (y : AuxType-F ((t : AuxType) × IsBack t)) → type_of (layer (map-AuxType AuxType Shape shape_of (map-AuxType ((t : AuxType) × IsBack t) AuxType (λ e. e.0) y))) ≡ roll-AuxType (map-AuxType ((t : AuxType) × IsBack t) AuxType (λ e. e.0) y)
step_back AuxType-F.Str = refl
step_back AuxType-F.Bool = refl
step_back AuxType-F.Id = refl
step_back AuxType-F.Addr = refl
step_back AuxType-F.Offset = refl
step_back AuxType-F.I8 = refl
step_back AuxType-F.I16 = refl
step_back AuxType-F.I32 = refl
step_back AuxType-F.I64 = refl
step_back AuxType-F.U8 = refl
step_back AuxType-F.U16 = refl
step_back AuxType-F.U32 = refl
step_back AuxType-F.U64 = refl
step_back AuxType-F.Four = refl
step_back AuxType-F.Eight = refl
step_back (AuxType-F.Sequence t) = ap (λ (x : AuxType). roll-AuxType (AuxType-F.Sequence x)) t.1
step_back (AuxType-F.Set t) = ap (λ (x : AuxType). roll-AuxType (AuxType-F.Set x)) t.1
step_back (AuxType-F.Mapping k v) = ap (λ (x : AuxType). roll-AuxType (AuxType-F.Mapping x (type_of (shape_of v.0)))) k.1 ∙ ap (λ (x : AuxType). roll-AuxType (AuxType-F.Mapping k.0 x)) v.1
step_back (AuxType-F.Tuple ts) = ap (λ (xs : List AuxType). roll-AuxType (AuxType-F.Tuple xs)) (all_back ts)
step_back (AuxType-F.Variant ts) = ap (λ (xs : List AuxType). roll-AuxType (AuxType-F.Variant xs)) (all_back ts)

back : (t : AuxType) → IsBack t
back = ind-AuxType IsBack (λ x y is. subst (λ (z : AuxType-F AuxType). IsBack (roll-AuxType z)) is (ap type_of (fold-roll-AuxType Shape layer (map-AuxType ((t : AuxType) × IsBack t) AuxType (λ e. e.0) y)) ∙ step_back y))

pub same_type : (t u : AuxType) → shape_of t ≡ shape_of u → t ≡ u
same_type t u e = sym (back t) ∙ ap type_of e ∙ back u
