-- The shape of a type that was opened by one level.
use Rattle.std.specs.Prelude.{List, map}
use Rattle.aux_types.specs.declared.kind.Kind.{Kind}
use Rattle.aux_types.specs.declared.kind.Kind.TheVariants as k
use Rattle.aux_types.specs.Shape.{Shape, Plain, Sequence, Set, Mapping, Tuple, Variant, shapes, shape_of}

abbrev pub kind_shape : Kind → Shape
kind_shape (k.Scalar scalar) = Plain scalar
kind_shape (k.Sequence t) = Sequence (shape_of t.now)
kind_shape (k.Set t) = Set (shape_of t.now)
kind_shape (k.Mapping key value) = Mapping (shape_of key.now) (shape_of value.now)
kind_shape (k.Tuple ts) = Tuple (shapes (map shape_of ts.now))
kind_shape (k.Variant ts) = Variant (shapes (map shape_of ts.now))
