-- The Places in a value, and the value with each of them replaced.
use Rattle.std.specs.Prelude.{◌≡◌, List, [], ◌∷◌, ◌++◌, Contains}
use Rattle.aux_types.specs.declared.name.Scalar.TheVariants as s
use Rattle.aux_codec.specs.declared.value.Place.{Place}
use Rattle.aux_codec.specs.Value.{Value, Str, Truth, Id, Number, Signed, At, Four, Eight, Many, Pairs, Parts, Choice, Values, none, more, Entries, no_entry, entry}
use Rattle.aux_codec.specs.Spelling.{ScalarHasType}

-- the Places in a value, in order
abbrev mutual
  pub places_of : Value → List Place
  places_of (At place) = place ∷ []
  places_of (Many xs) = places_of_each xs
  places_of (Pairs es) = places_of_entries es
  places_of (Parts xs) = places_of_each xs
  places_of (Choice n x) = places_of x
  places_of _ = []

  pub places_of_each : Values → List Place
  places_of_each none = []
  places_of_each (more x xs) = places_of x ++ places_of_each xs

  pub places_of_entries : Entries → List Place
  places_of_entries no_entry = []
  places_of_entries (entry k x es) = places_of k ++ (places_of x ++ places_of_entries es)

-- the value with each Place replaced and all else as it was
abbrev mutual
  pub with_places : (Place → Place) → Value → Value
  with_places f (Str text) = Str text
  with_places f (Truth b) = Truth b
  with_places f (Id id) = Id id
  with_places f (Number n) = Number n
  with_places f (Signed z) = Signed z
  with_places f (At place) = At (f place)
  with_places f (Four n) = Four n
  with_places f (Eight n) = Eight n
  with_places f (Many xs) = Many (each_with_places f xs)
  with_places f (Pairs es) = Pairs (entries_with_places f es)
  with_places f (Parts xs) = Parts (each_with_places f xs)
  with_places f (Choice n x) = Choice n (with_places f x)

  pub each_with_places : (Place → Place) → Values → Values
  each_with_places f none = none
  each_with_places f (more x xs) = more (with_places f x) (each_with_places f xs)

  pub entries_with_places : (Place → Place) → Entries → Entries
  entries_with_places f no_entry = no_entry
  entries_with_places f (entry k x es) = entry (with_places f k) (with_places f x) (entries_with_places f es)

-- no two Places of the value are replaced by one
abbrev pub IsInjectiveOn : (Place → Place) → Value → Type 0
IsInjectiveOn f x = (p q : Place) → Contains (places_of x) p → Contains (places_of x) q → f p ≡ f q → p ≡ q

-- each of these Places is replaced by one that can be written
abbrev pub AreOffsets : (Place → Place) → List Place → Type 0
AreOffsets f ps = (p : Place) → Contains ps p → ScalarHasType s.Offset (At (f p))
