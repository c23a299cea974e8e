-- The value that bytes spell by a type, or the first fault in order of reading.
use Rattle.std.specs.Prelude.{◌≡◌, Bool, true, false, ℕ, zero, suc, ◌-◌, ◌==◌, nat_lt, if◌then◌else◌, List, [], ◌∷◌, length, take, drop, slice_index, Result, Ok, Err}
use Rattle.std.specs.Int.{Width, w8, w16, w32, w64, byte_len, from_le_bytes, cast_signed}
use Rattle.std.specs.List.{list_any}
use Rattle.std.specs.Str.{is_utf8, bytes_eq}
use Rattle.gr_base.specs.declared.aux_fault.AuxFault.{AuxFault}
use Rattle.gr_base.specs.declared.aux_fault.AuxFault.TheVariants.{Short, Rest, BadBool, BadVariant, BadUtf8, Duplicate}
use Rattle.aux_types.specs.declared.name.Scalar.{Scalar}
use Rattle.aux_types.specs.declared.name.Scalar.TheVariants as s
use Rattle.aux_types.specs.Gives.{◌>>=◌}
use Rattle.aux_types.specs.Shape.{Shape, Plain, Sequence, Set, Mapping, Tuple, Variant, Shapes, none, more}
use Rattle.aux_codec.specs.declared.value.Place.{Place}
use Rattle.aux_codec.specs.Value.{Value, Str, Truth, Id, Number, Signed, At, Four, Eight, Many, Pairs, Parts, Choice, Values, Entries, no_entry, entry}
use Rattle.aux_codec.specs.Value as v
use Rattle.aux_codec.specs.Spelling.{spelling}

-- what is read from the front of the bytes, and the bytes after it
abbrev pub Read : Type 0 → Type 0
Read A = Result (A × List ℕ) AuxFault

-- where bytes stand among so many, by how many are left from there on
abbrev pub place : ℕ → List ℕ → ℕ
place total bytes = total - length bytes

-- a unit of so many bytes
abbrev pub unit : ℕ → ℕ → List ℕ → Read (List ℕ)
unit total size bytes = if nat_lt (length bytes) size then Err (Short (place total bytes)) else Ok (take size bytes, drop size bytes)

-- an unsigned number
abbrev pub number : ℕ → Width → List ℕ → Read ℕ
number total w bytes = unit total (byte_len w) bytes >>= λ front. Ok (from_le_bytes w front.0, front.1)

-- one byte
abbrev pub byte : ℕ → List ℕ → Read ℕ
byte total [] = Err (Short (place total []))
byte total (b ∷ bytes) = Ok (b, bytes)

-- one byte, 0 or 1
abbrev pub truth : ℕ → List ℕ → Read Bool
truth total [] = Err (Short (place total []))
truth total (b ∷ bytes) = if b == 0 then Ok (false, bytes) else (if b == 1 then Ok (true, bytes) else Err (BadBool (place total (b ∷ bytes))))

-- a count of bytes, and that many bytes of UTF-8
unfoldable pub string : ℕ → List ℕ → Read (List ℕ)
string total bytes = do
  n ← number total w64 bytes
  text ← unit total n.0 n.1
  if is_utf8 text.0 then Ok text else Err (BadUtf8 (place total n.1))

-- an identifier, and an offset
unfoldable pub offset : ℕ → List ℕ → Read Place
offset total bytes = do
  id ← unit total 16 bytes
  n ← number total w64 id.1
  Ok (record { id = id.0; offset = n.0 }, n.1)

-- a value of a type with no types inside it
abbrev pub scalar_at : ℕ → Scalar → List ℕ → Read Value
scalar_at total s.Str bytes = string total bytes >>= λ x. Ok (Str x.0, x.1)
scalar_at total s.Bool bytes = truth total bytes >>= λ x. Ok (Truth x.0, x.1)
scalar_at total s.Id bytes = unit total 16 bytes >>= λ x. Ok (Id x.0, x.1)
scalar_at total s.Addr bytes = number total w64 bytes >>= λ x. Ok (Number x.0, x.1)
scalar_at total s.Offset bytes = offset total bytes >>= λ x. Ok (At x.0, x.1)
scalar_at total s.I8 bytes = byte total bytes >>= λ x. Ok (Signed (cast_signed w8 x.0), x.1)
scalar_at total s.I16 bytes = number total w16 bytes >>= λ x. Ok (Signed (cast_signed w16 x.0), x.1)
scalar_at total s.I32 bytes = number total w32 bytes >>= λ x. Ok (Signed (cast_signed w32 x.0), x.1)
scalar_at total s.I64 bytes = number total w64 bytes >>= λ x. Ok (Signed (cast_signed w64 x.0), x.1)
scalar_at total s.U8 bytes = byte total bytes >>= λ x. Ok (Number x.0, x.1)
scalar_at total s.U16 bytes = number total w16 bytes >>= λ x. Ok (Number x.0, x.1)
scalar_at total s.U32 bytes = number total w32 bytes >>= λ x. Ok (Number x.0, x.1)
scalar_at total s.U64 bytes = number total w64 bytes >>= λ x. Ok (Number x.0, x.1)
scalar_at total s.Four bytes = number total w32 bytes >>= λ x. Ok (Four x.0, x.1)
scalar_at total s.Eight bytes = number total w64 bytes >>= λ x. Ok (Eight x.0, x.1)

-- so many members
unfoldable pub members : (List ℕ → Read Value) → ℕ → List ℕ → Read Values
members inner zero bytes = Ok (v.none, bytes)
members inner (suc n) bytes = do
  x ← inner bytes
  xs ← members inner n x.1
  Ok (v.more x.0 xs.0, xs.1)

-- what is read next, unless an earlier member or key had the bytes of this one, which was read at these bytes
abbrev pub unless_seen : {A : Type 0} → ℕ → List (List ℕ) → List ℕ → List ℕ → Read A → Read A
unless_seen total seen spelled bytes next = if list_any (bytes_eq spelled) seen then Err (Duplicate (place total bytes)) else next

-- a value, unless an earlier one had its bytes
abbrev pub fresh_at : ℕ → (List ℕ → Read Value) → (Value → List ℕ) → List (List ℕ) → List ℕ → Read Value
fresh_at total inner spell seen bytes = inner bytes >>= λ x. unless_seen total seen (spell x.0) bytes (Ok x)

-- so many members, none with the bytes of an earlier one
unfoldable pub distinct : ℕ → (List ℕ → Read Value) → (Value → List ℕ) → List (List ℕ) → ℕ → List ℕ → Read Values
distinct total inner spell seen zero bytes = Ok (v.none, bytes)
distinct total inner spell seen (suc n) bytes = do
  x ← inner bytes
  unless_seen total seen (spell x.0) bytes (distinct total inner spell (spell x.0 ∷ seen) n x.1 >>= λ xs. Ok (v.more x.0 xs.0, xs.1))

-- so many entries, no key with the bytes of an earlier one
unfoldable pub pairs : ℕ → (List ℕ → Read Value) → (Value → List ℕ) → (List ℕ → Read Value) → List (List ℕ) → ℕ → List ℕ → Read Entries
pairs total key spell inner seen zero bytes = Ok (no_entry, bytes)
pairs total key spell inner seen (suc n) bytes = do
  k ← key bytes
  unless_seen total seen (spell k.0) bytes (inner k.1 >>= λ x. pairs total key spell inner (spell k.0 ∷ seen) n x.1 >>= λ es. Ok (entry k.0 x.0 es.0, es.1))

abbrev mutual
  -- the value at the front
  pub value_at : ℕ → Shape → List ℕ → Read Value
  value_at total (Plain k) bytes = scalar_at total k bytes
  value_at total (Sequence t) bytes = do
    n ← number total w64 bytes
    xs ← members (value_at total t) n.0 n.1
    Ok (Many xs.0, xs.1)
  value_at total (Set t) bytes = do
    n ← number total w64 bytes
    xs ← distinct total (value_at total t) (spelling t) [] n.0 n.1
    Ok (Many xs.0, xs.1)
  value_at total (Mapping k t) bytes = do
    n ← number total w64 bytes
    es ← pairs total (value_at total k) (spelling k) (value_at total t) [] n.0 n.1
    Ok (Pairs es.0, es.1)
  value_at total (Tuple ts) bytes = do
    xs ← parts_at total ts bytes
    Ok (Parts xs.0, xs.1)
  value_at total (Variant ts) bytes = do
    n ← number total w64 bytes
    x ← chosen_at total ts n.0 (place total bytes) n.1
    Ok (Choice n.0 x.0, x.1)

  -- a value for each part
  pub parts_at : ℕ → Shapes → List ℕ → Read Values
  parts_at total none bytes = Ok (v.none, bytes)
  parts_at total (more t ts) bytes = do
    x ← value_at total t bytes
    xs ← parts_at total ts x.1
    Ok (v.more x.0 xs.0, xs.1)

  -- a value of the part of this index, which was read at this place
  pub chosen_at : ℕ → Shapes → ℕ → ℕ → List ℕ → Read Value
  chosen_at total none n index_place bytes = Err (BadVariant index_place)
  chosen_at total (more t ts) zero index_place bytes = value_at total t bytes
  chosen_at total (more t ts) (suc n) index_place bytes = chosen_at total ts n index_place bytes

-- the value that the bytes spell, all of them
unfoldable pub read_value : Shape → List ℕ → Result Value AuxFault
read_value t bytes = do
  x ← value_at (length bytes) t bytes
  if length x.1 == 0 then Ok x.0 else Err (Rest (place (length bytes) x.1))

-- the bytes spell no value of the type, and this is the first fault
abbrev pub aux_fault : Shape → List ℕ → AuxFault → Type 0
aux_fault t bytes fault = read_value t bytes ≡ Err fault
