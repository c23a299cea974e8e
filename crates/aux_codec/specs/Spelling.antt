-- The bytes of a value of a type, after the table of GTIRB's auxiliary data; all numbers are little endian.
use Rattle.std.specs.Prelude.{◌≡◌, ◌≢◌, ◌<◌, ◌^◌, ℕ, zero, suc, FitsSigned, Bool, if◌then◌else◌, List, [], ◌∷◌, ◌++◌, length}
use Rattle.std.specs.Int.{w8, w16, w32, w64, to_le_bytes, cast_unsigned}
use Rattle.std.specs.Str.{IsUtf8}
use Rattle.aux_types.specs.declared.aux_type.AuxType.{AuxType}
use Rattle.aux_types.specs.declared.name.Scalar.{Scalar}
use Rattle.aux_types.specs.declared.name.Scalar.TheVariants as s
use Rattle.aux_types.specs.Shape.{Shape, Plain, Sequence, Set, Mapping, Tuple, Variant, Shapes, none, more, shape_of}
use Rattle.aux_codec.specs.Value.{Value, Str, Truth, Id, Number, Signed, At, Four, Eight, Many, Pairs, Parts, Choice, Values, Entries, no_entry, entry, count, count_entries}
use Rattle.aux_codec.specs.Value as v

-- the value is one of a type with no types inside it
abbrev pub ScalarHasType : Scalar → Value → Type 0
ScalarHasType s.Str (Str text) = IsUtf8 text × (length text < 2 ^ 64)
ScalarHasType s.Bool (Truth b) = Unit {0}
ScalarHasType s.Id (Id id) = length id ≡ 16
ScalarHasType s.Addr (Number n) = n < 2 ^ 64
ScalarHasType s.Offset (At place) = (length place.id ≡ 16) × (place.offset < 2 ^ 64)
ScalarHasType s.I8 (Signed z) = FitsSigned w8 z
ScalarHasType s.I16 (Signed z) = FitsSigned w16 z
ScalarHasType s.I32 (Signed z) = FitsSigned w32 z
ScalarHasType s.I64 (Signed z) = FitsSigned w64 z
ScalarHasType s.U8 (Number n) = n < 2 ^ 8
ScalarHasType s.U16 (Number n) = n < 2 ^ 16
ScalarHasType s.U32 (Number n) = n < 2 ^ 32
ScalarHasType s.U64 (Number n) = n < 2 ^ 64
ScalarHasType s.Four (Four n) = n < 2 ^ 32
ScalarHasType s.Eight (Eight n) = n < 2 ^ 64
ScalarHasType _ _ = ⊥

-- a type with no types inside it
abbrev pub IsPlain : Shape → Type 0
IsPlain (Plain k) = Unit {0}
IsPlain _ = ⊥

-- the value is none of these
abbrev pub IsAbsent : Value → Values → Type 0
IsAbsent x v.none = Unit {0}
IsAbsent x (v.more y ys) = (x ≢ y) × IsAbsent x ys

-- no value comes twice
abbrev pub AreDistinct : Values → Type 0
AreDistinct v.none = Unit {0}
AreDistinct (v.more x xs) = IsAbsent x xs × AreDistinct xs

-- no entry has this key
abbrev pub IsNoKey : Value → Entries → Type 0
IsNoKey k no_entry = Unit {0}
IsNoKey k (entry other x es) = (k ≢ other) × IsNoKey k es

-- no key comes twice
abbrev pub HasDistinctKeys : Entries → Type 0
HasDistinctKeys no_entry = Unit {0}
HasDistinctKeys (entry k x es) = IsNoKey k es × HasDistinctKeys es

-- each value has the property
abbrev pub Each : (Value → Type 0) → Values → Type 0
Each P v.none = Unit {0}
Each P (v.more x xs) = P x × Each P xs

-- each key and each value has its property
abbrev pub EachEntry : (Value → Type 0) → (Value → Type 0) → Entries → Type 0
EachEntry P Q no_entry = Unit {0}
EachEntry P Q (entry k x es) = P k × Q x × EachEntry P Q es

abbrev mutual
  -- the value is one of the type
  pub HasType : Shape → Value → Type 0
  HasType (Plain k) x = ScalarHasType k x
  HasType (Sequence t) (Many xs) = (count xs < 2 ^ 64) × Each (HasType t) xs
  HasType (Set t) (Many xs) = (count xs < 2 ^ 64) × Each (HasType t) xs × AreDistinct xs
  HasType (Mapping k t) (Pairs es) = (count_entries es < 2 ^ 64) × EachEntry (HasType k) (HasType t) es × HasDistinctKeys es
  HasType (Tuple ts) (Parts xs) = PartsHaveTypes ts xs
  HasType (Variant ts) (Choice n x) = (n < 2 ^ 64) × ChosenHasType ts n x
  HasType _ _ = ⊥

  -- a value for each part
  pub PartsHaveTypes : Shapes → Values → Type 0
  PartsHaveTypes none v.none = Unit {0}
  PartsHaveTypes none (v.more x xs) = ⊥
  PartsHaveTypes (more t ts) v.none = ⊥
  PartsHaveTypes (more t ts) (v.more x xs) = HasType t x × PartsHaveTypes ts xs

  -- there is a part of this index, and the value is one of it
  pub ChosenHasType : Shapes → ℕ → Value → Type 0
  ChosenHasType none n x = ⊥
  ChosenHasType (more t ts) zero x = HasType t x
  ChosenHasType (more t ts) (suc n) x = ChosenHasType ts n x

-- the bytes of a value of a type with no types inside it
abbrev pub scalar_spelling : Scalar → Value → List ℕ
scalar_spelling s.Str (Str text) = to_le_bytes w64 (length text) ++ text
scalar_spelling s.Bool (Truth b) = (if b then 1 else 0) ∷ []
scalar_spelling s.Id (Id id) = id
scalar_spelling s.Addr (Number n) = to_le_bytes w64 n
scalar_spelling s.Offset (At place) = place.id ++ to_le_bytes w64 place.offset
scalar_spelling s.I8 (Signed z) = cast_unsigned w8 z ∷ []
scalar_spelling s.I16 (Signed z) = to_le_bytes w16 (cast_unsigned w16 z)
scalar_spelling s.I32 (Signed z) = to_le_bytes w32 (cast_unsigned w32 z)
scalar_spelling s.I64 (Signed z) = to_le_bytes w64 (cast_unsigned w64 z)
scalar_spelling s.U8 (Number n) = n ∷ []
scalar_spelling s.U16 (Number n) = to_le_bytes w16 n
scalar_spelling s.U32 (Number n) = to_le_bytes w32 n
scalar_spelling s.U64 (Number n) = to_le_bytes w64 n
scalar_spelling s.Four (Four n) = to_le_bytes w32 n
scalar_spelling s.Eight (Eight n) = to_le_bytes w64 n
scalar_spelling _ _ = []

-- the bytes of each value, one after another
abbrev pub spell_each : (Value → List ℕ) → Values → List ℕ
spell_each f v.none = []
spell_each f (v.more x xs) = f x ++ spell_each f xs

-- the bytes of each key and its value in turn
abbrev pub spell_entries : (Value → List ℕ) → (Value → List ℕ) → Entries → List ℕ
spell_entries f g no_entry = []
spell_entries f g (entry k x es) = f k ++ g x ++ spell_entries f g es

abbrev mutual
  -- the bytes of a value of the type
  pub spelling : Shape → Value → List ℕ
  spelling (Plain k) x = scalar_spelling k x
  spelling (Sequence t) (Many xs) = to_le_bytes w64 (count xs) ++ spell_each (spelling t) xs
  spelling (Set t) (Many xs) = to_le_bytes w64 (count xs) ++ spell_each (spelling t) xs
  spelling (Mapping k t) (Pairs es) = to_le_bytes w64 (count_entries es) ++ spell_entries (spelling k) (spelling t) es
  spelling (Tuple ts) (Parts xs) = spell_parts ts xs
  spelling (Variant ts) (Choice n x) = to_le_bytes w64 n ++ spell_chosen ts n x
  spelling _ _ = []

  pub spell_parts : Shapes → Values → List ℕ
  spell_parts none xs = []
  spell_parts (more t ts) v.none = []
  spell_parts (more t ts) (v.more x xs) = spelling t x ++ spell_parts ts xs

  pub spell_chosen : Shapes → ℕ → Value → List ℕ
  spell_chosen none n x = []
  spell_chosen (more t ts) zero x = spelling t x
  spell_chosen (more t ts) (suc n) x = spell_chosen ts n x

-- the value is one of the type, and these are its bytes
pub record aux_bytes (t : AuxType) (x : Value) (bytes : List ℕ) : Type 0 where
  pub typed : HasType (shape_of t) x
  pub spelled : bytes ≡ spelling (shape_of t) x
