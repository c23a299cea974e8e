-- The meaning of a message, from the whole list of its records: the rules of Protocol Buffers' proto3.
use Rattle.std.specs.Prelude.{ℕ, Bool, ◌==◌, ◌&&◌, if◌then◌else◌, List, [], ◌∷◌, map, Option, Some, None, unwrap_or}
use Rattle.std.specs.declared.cmp.Ordering.{Ordering}
use Rattle.std.specs.Ordering.{nat_cmp}
use Rattle.std.specs.BTreeMap.{insert_entry}
use Rattle.std.specs.Cmp.Lexicographic.{slice_cmp}
use Rattle.std.specs.List.{filter, filter_map, flat_map, list_all, list_any, fold}
use Rattle.gt_model.specs.Schema.{Kind, Key, TextKey, NumberKey, key_kind, Members, varint, run, Row, field, repeated, message, messages, member, member_message, entries, Rows, none, ◌&◌}
use Rattle.gt_model.specs.Values.{Field, Fields}
use Rattle.gt_read.specs.Pieces.{Carried, Number, Bytes, Fixed, Piece, pieces}
use Rattle.gt_read.specs.Kinds.{Read, value_of, values_of, absent, of_number, Run, run_of}

-- the last element, if there is one
abbrev pub last : {A : Type 0} → List A → Option A
last [] = None
last (x ∷ xs) = Some (unwrap_or (last xs) x)

-- a plain field is that of its last record
abbrev pub last_value : (k : Kind) → List Piece → Option (Read k)
last_value k ps = last (filter_map (value_of k) ps)

-- an embedded message is the meaning of the concatenated payloads, at the place of the first of their records
abbrev pub joined : {A : Type 0} → (ℕ → List Piece → A) → List Run → Option A
joined meaning [] = None
joined meaning (r ∷ rs) = Some (meaning r.place (flat_map (λ (s : Run). pieces s.bytes s.start) (r ∷ rs)))

abbrev pub joined_message : {A : Type 0} → (ℕ → List Piece → A) → List Piece → Option A
joined_message meaning ps = joined meaning (filter_map run_of ps)

-- a message in a record of its own
abbrev pub alone : {A : Type 0} → (ℕ → List Piece → A) → Run → A
alone meaning r = meaning r.place (pieces r.bytes r.start)

-- the records of a oneof: those of its members' numbers and wire types
abbrev pub wire_of : Carried → ℕ
wire_of (Number n) = varint
wire_of (Bytes start bytes) = run
wire_of Fixed = 1

abbrev pub is_member : Members → Piece → Bool
is_member members p = list_any (λ (m : ℕ × ℕ). (p.number == m.0) && (wire_of p.carried == m.1)) members

-- the longest run of elements at the end that pass the test
abbrev pub trailing : {A : Type 0} → (A → Bool) → List A → List A
trailing test [] = []
trailing test (x ∷ xs) = if list_all test (x ∷ xs) then x ∷ xs else trailing test xs

-- the last unbroken run of a member among the oneof's records, empty where the last is another's
abbrev pub last_turn : Members → ℕ → List Piece → List Piece
last_turn members number ps = trailing (λ (p : Piece). p.number == number) (filter (is_member members) ps)

-- the order of keys
abbrev pub key_cmp : (k : Key) → Read (key_kind k) → Read (key_kind k) → Ordering
key_cmp TextKey = slice_cmp nat_cmp
key_cmp NumberKey = nat_cmp

-- a map holds each key once, with the value of its last entry, and the keys ascend
abbrev pub map_of : {K V : Type 0} → (K → K → Ordering) → List (K × V) → List (K × V)
map_of cmp es = fold (λ m e. insert_entry cmp m e.0 e.1) [] es

-- an entry's key and value, each the default where it has no record
abbrev pub entry_of : {A : Type 0} → (k : Key) → (ℕ → List Piece → A) → Run → Read (key_kind k) × A
entry_of k meaning r =
    let ps = pieces r.bytes r.start in (
      unwrap_or (last_value (key_kind k) (of_number 1 ps)) (absent (key_kind k) r.place),
      unwrap_or (joined_message meaning (of_number 2 ps)) (meaning r.place []),
    )

unfoldable mutual
  -- the value of a field, in a message whose first record is at the place
  pub field_meaning : (row : Row) → ℕ → List Piece → Field Read row
  field_meaning (field number k) first ps = unwrap_or (last_value k (of_number number ps)) (absent k first)
  field_meaning (repeated number k) first ps = flat_map (values_of k) (of_number number ps)
  field_meaning (message number rows) first ps = joined_message (λ place qs. meaning rows place qs) (of_number number ps)
  field_meaning (messages number rows) first ps = map (alone (λ place qs. meaning rows place qs)) (filter_map run_of (of_number number ps))
  field_meaning (member members number k) first ps = last_value k (last_turn members number ps)
  field_meaning (member_message members number rows) first ps = joined_message (λ place qs. meaning rows place qs) (last_turn members number ps)
  field_meaning (entries number k rows) first ps = map_of (key_cmp k) (map (entry_of k (λ place qs. meaning rows place qs)) (filter_map run_of (of_number number ps)))

  -- the values of all fields
  pub meaning : (rows : Rows) → ℕ → List Piece → Fields Read rows
  meaning none first ps = tt
  meaning (row & rows) first ps = (field_meaning row first ps, meaning rows first ps)
