-- The entries of a mapping that one of the two tables takes.
use Rattle.std.proofs.Common.{◌≡◌, ◌≢◌, Bool, ℕ, ◌+◌, ◌<◌, List, [], ◌∷◌, ◌++◌, map, length, get_or, drop, Option, None, Some, refl, sym, ap, ◌∙◌, append_assoc}
use Rattle.std.specs.Option.{option_to_list, option_map_or}
use Rattle.aux_codec.specs.declared.value.AuxPair.{AuxPair}
use Rattle.aux_codec.specs.Spelling.{IsNoKey, HasDistinctKeys}
use Rattle.aux_codec.specs.Value.{Value, Str, Truth, Id, Number, Signed, At, Four, Eight, Many, Pairs, Parts, Choice, Entries, no_entry, entry, value_of, entry_of, entries}
use Rattle.aux_tables.specs.ModuleTables.{number_entry, numbers_in, size_entry, sizes_in}
use Rattle.aux_tables.proofs.OwnKeys.{Lacks, OwnKeys, insert_last}
use Rattle.indexmap.specs.IndexMap.{insert_entry}
use Rattle.std.specs.Bool.{Decides}
use Rattle.aux_tables.proofs.PlaceLists.{entry_parts, rest_of}

-- what each entry gives, where it gives something
abbrev pub taken : {K : Type 0} → (Value → Value → Option (K × ℕ)) → Entries → List (K × ℕ)
taken f no_entry = []
taken f (entry key value rest) = option_to_list (f key value) ++ taken f rest

pub numbers_taken : (es : Entries) → numbers_in es ≡ taken number_entry es
numbers_taken no_entry = refl
numbers_taken (entry key value rest) = ap (λ (xs : List (List ℕ × ℕ)). option_to_list (number_entry key value) ++ xs) (numbers_taken rest)

pub sizes_taken : (es : Entries) → sizes_in es ≡ taken size_entry es
sizes_taken no_entry = refl
sizes_taken (entry key value rest) = ap (λ (xs : List ((List ℕ × ℕ) × ℕ)). option_to_list (size_entry key value) ++ xs) (sizes_taken rest)

-- what an entry gives has the entry's key
abbrev pub KeepsKeys : {K : Type 0} → (K → Value) → (Value → Value → Option (K × ℕ)) → Type 0
KeepsKeys {K} key_of f = (key value : Value) (e : K × ℕ) → f key value ≡ Some e → key ≡ key_of e.0

lacks_more : {K : Type 0} (key_of : K → Value) (k : K) (key : Value) (rest : List (K × ℕ)) (o : Option (K × ℕ)) → key_of k ≢ key → ((e : K × ℕ) → o ≡ Some e → key ≡ key_of e.0) → Lacks k rest → Lacks k (option_to_list o ++ rest)
lacks_more key_of k key rest None differ keeps lacks = lacks
lacks_more key_of k key rest (Some e) differ keeps lacks = ((λ same. differ (ap key_of same ∙ sym (keeps e refl))), lacks)

lacks_taken : {K : Type 0} (key_of : K → Value) (f : Value → Value → Option (K × ℕ)) → KeepsKeys key_of f → (k : K) (es : Entries) → IsNoKey (key_of k) es → Lacks k (taken f es)
lacks_taken key_of f keeps k no_entry none = tt
lacks_taken key_of f keeps k (entry key value rest) none =
    lacks_more key_of k key (taken f rest) (f key value) none.0 (keeps key value) (lacks_taken key_of f keeps k rest none.1)

own_more : {K : Type 0} (key_of : K → Value) (f : Value → Value → Option (K × ℕ)) → KeepsKeys key_of f → (key : Value) (rest : Entries) (o : Option (K × ℕ)) → ((e : K × ℕ) → o ≡ Some e → key ≡ key_of e.0) → IsNoKey key rest → OwnKeys (taken f rest) → OwnKeys (option_to_list o ++ taken f rest)
own_more key_of f keeps key rest None same none own = own
own_more key_of f keeps key rest (Some e) same none own = (lacks_taken key_of f keeps e.0 rest (rw (same e refl) at none), own)

pub own_taken : {K : Type 0} (key_of : K → Value) (f : Value → Value → Option (K × ℕ)) → KeepsKeys key_of f → (es : Entries) → HasDistinctKeys es → OwnKeys (taken f es)
own_taken key_of f keeps no_entry own = tt
own_taken key_of f keeps (entry key value rest) own = own_more key_of f keeps key rest (f key value) (keeps key value) own.0 (own_taken key_of f keeps rest own.1)

-- what the rest gives from a place on
pub taken_from : {K : Type 0} (f : Value → Value → Option (K × ℕ)) (pairs : List AuxPair) (i : ℕ) (x : AuxPair) → i < length pairs → x ≡ get_or pairs i x
    → taken f (entries (map entry_of (drop i pairs))) ≡ option_to_list (f (value_of x.key) (value_of x.value)) ++ taken f (entries (map entry_of (drop (i + 1) pairs)))
taken_from {K} f pairs i x within is =
    ap (λ (ys : List AuxPair). taken f (entries (map entry_of ys))) (rest_of pairs i x within is)
    ∙ ap (λ (p : Value × Value). option_to_list (f p.0 p.1) ++ taken f (entries (map entry_of (drop (i + 1) pairs)))) (entry_parts x)

-- an entry that gives nothing
pub skipped : {K : Type 0} (f : Value → Value → Option (K × ℕ)) (pairs : List AuxPair) (i : ℕ) (x : AuxPair) (es all : List (K × ℕ)) → i < length pairs → x ≡ get_or pairs i x
    → f (value_of x.key) (value_of x.value) ≡ None → es ++ taken f (entries (map entry_of (drop i pairs))) ≡ all → es ++ taken f (entries (map entry_of (drop (i + 1) pairs))) ≡ all
skipped {K} f pairs i x es all within is none e =
    let rest = taken f (entries (map entry_of (drop (i + 1) pairs))) in
    sym (ap (λ (ys : List (K × ℕ)). es ++ ys) (taken_from f pairs i x within is ∙ ap (λ (o : Option (K × ℕ)). option_to_list o ++ rest) none)) ∙ e

-- one that gives something goes last
pub put : {K : Type 0} (eq : K → K → Bool) → ((a b : K) → Decides (eq a b) (a ≡ b)) → (f : Value → Value → Option (K × ℕ)) (pairs : List AuxPair) (i : ℕ) (x : AuxPair) (es new all : List (K × ℕ)) (k : K) (n : ℕ)
    → i < length pairs → x ≡ get_or pairs i x → Some (k, n) ≡ f (value_of x.key) (value_of x.value) → new ≡ insert_entry eq es k n → OwnKeys all
    → es ++ taken f (entries (map entry_of (drop i pairs))) ≡ all → new ++ taken f (entries (map entry_of (drop (i + 1) pairs))) ≡ all
put {K} eq decides f pairs i x es new all k n within is some set own e =
    let rest = taken f (entries (map entry_of (drop (i + 1) pairs))) in
    let whole : es ++ (k, n) ∷ rest ≡ all = sym (ap (λ (ys : List (K × ℕ)). es ++ ys) (taken_from f pairs i x within is ∙ ap (λ (o : Option (K × ℕ)). option_to_list o ++ rest) (sym some))) ∙ e in
    ap (λ (ys : List (K × ℕ)). ys ++ rest) (set ∙ insert_last eq decides es k n rest (rw (sym whole) at own))
    ∙ append_assoc es ((k, n) ∷ []) rest ∙ whole

-- a number is given to the identifier that is the key
pub number_keys : KeepsKeys Id number_entry
number_keys (Str t) value e h = absurd cc
number_keys (Truth t) value e h = absurd cc
number_keys (Id k) (Str t) e h = absurd cc
number_keys (Id k) (Truth t) e h = absurd cc
number_keys (Id k) (Id t) e h = absurd cc
number_keys (Id k) (Number n) e h = ap (λ (o : Option (List ℕ × ℕ)). option_map_or (λ (p : List ℕ × ℕ). Id p.0) o (Id k)) h
number_keys (Id k) (Signed t) e h = absurd cc
number_keys (Id k) (At t) e h = absurd cc
number_keys (Id k) (Four t) e h = absurd cc
number_keys (Id k) (Eight t) e h = absurd cc
number_keys (Id k) (Many t) e h = absurd cc
number_keys (Id k) (Pairs t) e h = absurd cc
number_keys (Id k) (Parts t) e h = absurd cc
number_keys (Id k) (Choice t u) e h = absurd cc
number_keys (Number t) value e h = absurd cc
number_keys (Signed t) value e h = absurd cc
number_keys (At t) value e h = absurd cc
number_keys (Four t) value e h = absurd cc
number_keys (Eight t) value e h = absurd cc
number_keys (Many t) value e h = absurd cc
number_keys (Pairs t) value e h = absurd cc
number_keys (Parts t) value e h = absurd cc
number_keys (Choice t u) value e h = absurd cc

abbrev pub place_value : List ℕ × ℕ → Value
place_value k = At (record { id = k.0; offset = k.1 })

-- a size is given to the Place that is the key
pub size_keys : KeepsKeys place_value size_entry
size_keys (Str t) value e h = absurd cc
size_keys (Truth t) value e h = absurd cc
size_keys (Id t) value e h = absurd cc
size_keys (Number t) value e h = absurd cc
size_keys (Signed t) value e h = absurd cc
size_keys (At k) (Str t) e h = absurd cc
size_keys (At k) (Truth t) e h = absurd cc
size_keys (At k) (Id t) e h = absurd cc
size_keys (At k) (Number n) e h = ap (λ (o : Option ((List ℕ × ℕ) × ℕ)). option_map_or (λ (p : (List ℕ × ℕ) × ℕ). place_value p.0) o (At k)) h
size_keys (At k) (Signed t) e h = absurd cc
size_keys (At k) (At t) e h = absurd cc
size_keys (At k) (Four t) e h = absurd cc
size_keys (At k) (Eight t) e h = absurd cc
size_keys (At k) (Many t) e h = absurd cc
size_keys (At k) (Pairs t) e h = absurd cc
size_keys (At k) (Parts t) e h = absurd cc
size_keys (At k) (Choice t u) e h = absurd cc
size_keys (Four t) value e h = absurd cc
size_keys (Eight t) value e h = absurd cc
size_keys (Many t) value e h = absurd cc
size_keys (Pairs t) value e h = absurd cc
size_keys (Parts t) value e h = absurd cc
size_keys (Choice t u) value e h = absurd cc
