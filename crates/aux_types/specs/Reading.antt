-- The type that a text names, or the first fault from left to right.
use Rattle.std.specs.Prelude.{◌≡◌, Bool, true, false, ℕ, zero, suc, ◌-◌, ◌==◌, if◌then◌else◌, List, [], ◌∷◌, length, take, drop, Option, Some, None, Result, Ok, Err}
use Rattle.std.specs.List.{prefix_len}
use Rattle.aux_types.specs.declared.fault.TypeFault.{TypeFault}
use Rattle.aux_types.specs.declared.fault.TypeFault.TheVariants.{NotAType, Deep}
use Rattle.aux_types.specs.declared.name.Scalar.{Scalar}
use Rattle.aux_types.specs.declared.name.Container.{Container}
use Rattle.aux_types.specs.declared.name.Container.TheVariants as c
use Rattle.aux_types.specs.Gives.{◌>>=◌}
use Rattle.aux_types.specs.Names.{scalar_named, container_named, is_word_byte}
use Rattle.aux_types.specs.Shape.{Shape, Plain, Sequence, Set, Mapping, Tuple, Variant, Shapes, none, more}

-- what is read from the front of the bytes, and the bytes after it
abbrev pub Read : Type 0 → Type 0
Read A = Result (A × List ℕ) TypeFault

-- a text of so many bytes has another thing here, where these bytes are left
abbrev pub unexpected : {A : Type 0} → ℕ → List ℕ → Result A TypeFault
unexpected total bytes = Err (NotAType (total - length bytes))

-- what is left after this byte, which has to come next
abbrev pub expect : ℕ → ℕ → List ℕ → Result (List ℕ) TypeFault
expect total byte [] = unexpected total []
expect total byte (b ∷ bytes) = if b == byte then Ok bytes else unexpected total (b ∷ bytes)

-- the longest run of letters, digits and underscores, and what is left after it
abbrev pub word : List ℕ → List ℕ
word bytes = take (prefix_len is_word_byte bytes) bytes

abbrev pub after_word : List ℕ → List ℕ
after_word bytes = drop (prefix_len is_word_byte bytes) bytes

-- one type, and the bracket that closes
unfoldable pub one : (List ℕ → Read Shape) → ℕ → List ℕ → Read Shape
one inner total bytes = do
  t ← inner bytes
  rest ← expect total 62 t.1
  Ok (t.0, rest)

-- two types with a comma between them, and the bracket that closes
unfoldable pub two : (List ℕ → Read Shape) → ℕ → List ℕ → Read (Shape × Shape)
two inner total bytes = do
  k ← inner bytes
  middle ← expect total 44 k.1
  v ← one inner total middle
  Ok ((k.0, v.0), v.1)

-- a comma, behind which another part follows, or the bracket that closes
abbrev pub separator : ℕ → List ℕ → Read Bool
separator total [] = unexpected total []
separator total (b ∷ bytes) = if b == 44 then Ok (true, bytes) else (if b == 62 then Ok (false, bytes) else unexpected total (b ∷ bytes))

-- the parts from this one on, if others follow behind what separates them
abbrev pub others : (List ℕ → Read Shapes) → Shape → Bool × List ℕ → Read Shapes
others following t (true, bytes) = following bytes >>= λ ts. Ok (more t ts.0, ts.1)
others following t (false, bytes) = Ok (more t none, bytes)

-- one type or more, of which there are fewer than n, and the bracket that closes
abbrev pub parts : (List ℕ → Read Shape) → ℕ → ℕ → List ℕ → Read Shapes
parts inner total zero bytes = unexpected total bytes
parts inner total (suc n) bytes = do
  t ← inner bytes
  s ← separator total t.1
  others (parts inner total n) t.0 s

-- as many as there are; each takes a byte, so there are no more of them than bytes
unfoldable pub all_parts : (List ℕ → Read Shape) → ℕ → List ℕ → Read Shapes
all_parts inner total bytes = parts inner total (suc (length bytes)) bytes

-- what stands behind the open bracket of a container
unfoldable pub inside : (List ℕ → Read Shape) → ℕ → Container → List ℕ → Read Shape
inside inner total c.Sequence bytes = one inner total bytes >>= λ t. Ok (Sequence t.0, t.1)
inside inner total c.Set bytes = one inner total bytes >>= λ t. Ok (Set t.0, t.1)
inside inner total c.Mapping bytes = two inner total bytes >>= λ t. Ok (Mapping t.0.0 t.0.1, t.1)
inside inner total c.Tuple bytes = all_parts inner total bytes >>= λ ts. Ok (Tuple ts.0, ts.1)
inside inner total c.Variant bytes = all_parts inner total bytes >>= λ ts. Ok (Variant ts.0, ts.1)

-- a container with its brackets, where another bracket may open
unfoldable pub opened : (List ℕ → Read Shape) → ℕ → Container → List ℕ → Read Shape
opened inner total k bytes = expect total 60 bytes >>= λ rest. inside inner total k rest

-- a container, where no other bracket may open
unfoldable pub refused : ℕ → Container → List ℕ → Read Shape
refused total k bytes = expect total 60 bytes >>= λ rest. Err (Deep (total - length bytes))

-- a type, by what its first word names
abbrev pub by_name : (Container → List ℕ → Read Shape) → ℕ → List ℕ → Option Scalar → Option Container → Read Shape
by_name brackets total bytes (Some k) container = Ok (Plain k, after_word bytes)
by_name brackets total bytes None (Some k) = brackets k (after_word bytes)
by_name brackets total bytes None None = unexpected total bytes

abbrev pub type_by : (Container → List ℕ → Read Shape) → ℕ → List ℕ → Read Shape
type_by brackets total bytes = by_name brackets total bytes (scalar_named (word bytes)) (container_named (word bytes))

-- the type at the front, inside which so many brackets may nest
unfoldable pub type_at : ℕ → ℕ → List ℕ → Read Shape
type_at total zero bytes = type_by (refused total) total bytes
type_at total (suc room) bytes = type_by (opened (type_at total room) total) total bytes

-- a container, inside which so many brackets may nest, its own among them
unfoldable pub container_at : ℕ → ℕ → Container → List ℕ → Read Shape
container_at total zero = refused total
container_at total (suc room) = opened (type_at total room) total

-- the type that the text names, all of the text
unfoldable pub read_type : List ℕ → Result Shape TypeFault
read_type text = do
  t ← type_at (length text) 32 text
  if length t.1 == 0 then Ok t.0 else unexpected (length text) t.1

-- the text names no type, and this is the first fault
abbrev pub type_fault : List ℕ → TypeFault → Type 0
type_fault text fault = read_type text ≡ Err fault
