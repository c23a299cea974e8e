-- What the records of an IR mean behind those of another part of it.
use Rattle.std.specs.Prelude.{◌≡◌, false, List, ◌++◌, ℕ, Option, Some, None, is_some, if◌then◌else◌}
use Rattle.std.specs.declared.cmp.Ordering.{Ordering}
use Rattle.std.specs.BTreeMap.{insert_entry, is_at}
use Rattle.std.specs.List.{AllByRecursion, fold}
use Rattle.gt_model.specs.Schema.{Kind, Id, Unsigned32, Key, TextKey, key_kind, Rows, cfg_rows, ir_rows}
use Rattle.gt_model.specs.Values.{Fields, ◌▹◌}
use Rattle.gt_read.specs.Pieces.{Piece}
use Rattle.gt_read.specs.Kinds.{Read, of_number}
use Rattle.gt_read.specs.Meaning.{key_cmp, last_value}

-- a plain field is the second's where the second part has a record of it, else the first's
abbrev pub plain_join : (k : Kind) → ℕ → List Piece → Read k → Read k → Read k
plain_join k number second a b = if is_some (last_value k (of_number number second)) then b else a

-- the entries of the second are put into the first, where they replace those of their keys
abbrev pub map_join : {K V : Type 0} → (K → K → Ordering) → List (K × V) → List (K × V) → List (K × V)
map_join cmp a b = fold (λ m e. insert_entry cmp m e.0 e.1) a b

-- an entry of a map, and that no entry has the key
abbrev pub Entry : Key → Rows → Type 0
Entry k rows = Read (key_kind k) × Fields Read rows

abbrev pub HasNone : (k : Key) (rows : Rows) → Read (key_kind k) → List (Entry k rows) → Type 0
HasNone k rows key es = AllByRecursion (λ (e : Entry k rows). is_at (key_cmp k key) e.0 ≡ false) es

-- the message that is there; of two, both together
abbrev pub option_join : {A : Type 0} → (A → A → A) → Option A → Option A → Option A
option_join join None b = b
option_join join (Some a) None = Some a
option_join join (Some a) (Some b) = Some (join a b)

-- edges and vertices, the first's followed by the second's
unfoldable pub cfg_join : Fields Read cfg_rows → Fields Read cfg_rows → Fields Read cfg_rows
unfolding cfg_rows
cfg_join a b = (a.0 ++ b.0) ▹ (a.1.0 ++ b.1.0) ▹ tt

-- the identifier, the modules, the tables, the version and the cfg
unfoldable pub ir_join : List Piece → Fields Read ir_rows → Fields Read ir_rows → Fields Read ir_rows
unfolding ir_rows
ir_join second a b =
    plain_join Id 1 second a.0 b.0
    ▹ (a.1.0 ++ b.1.0)
    ▹ map_join (key_cmp TextKey) a.1.1.0 b.1.1.0
    ▹ plain_join Unsigned32 6 second a.1.1.1.0 b.1.1.1.0
    ▹ option_join cfg_join a.1.1.1.1.0 b.1.1.1.1.0
    ▹ tt
