-- Identifiers as members of sets and as keys.
use Rattle.std.proofs.Common.{◌≡◌, ◌≢◌, ℕ, List, [], ◌∷◌, ◌++◌, map, length, refl, sym, ap, subst, ◌∙◌, append_assoc}
use Rattle.std.specs.List.{AllByRecursion}
use Rattle.aux_types.specs.Shape.{Plain, Set}
use Rattle.aux_types.specs.declared.name.Scalar.TheVariants as s
use Rattle.aux_codec.specs.Spelling.{AreDistinct, Each, EachEntry, HasDistinctKeys, HasType, IsAbsent, IsNoKey}
use Rattle.aux_codec.specs.Value.{Value, Str, Truth, Id, Number, Signed, At, Four, Eight, Many, Pairs, Parts, Choice, Values, none, more, Entries, no_entry, entry, values, entries}
use Rattle.edge_repair.specs.Sets.{before, with_parts}
use Rattle.taken_ids.specs.Named.{ids_of, ids_of_each, ids_of_entries}
use Rattle.function_tables.proofs.Apart.{Apart, all_front, all_map, spread}

abbrev pub IsIdValue : Value → Type 0
IsIdValue x = HasType (Plain s.Id) x

abbrev pub members : List (List ℕ) → Values
members ids = values (map Id ids)

-- members that are identifiers are those in them
pub ids_again : (xs : Values) → Each IsIdValue xs → xs ≡ members (ids_of_each xs)
ids_again none all = refl
ids_again (more (Id id) xs) all = ap (more (Id id)) (ids_again xs all.1)
ids_again (more (Str x) xs) all = absurd all.0
ids_again (more (Truth x) xs) all = absurd all.0
ids_again (more (Number x) xs) all = absurd all.0
ids_again (more (Signed x) xs) all = absurd all.0
ids_again (more (At x) xs) all = absurd all.0
ids_again (more (Four x) xs) all = absurd all.0
ids_again (more (Eight x) xs) all = absurd all.0
ids_again (more (Many x) xs) all = absurd all.0
ids_again (more (Pairs x) xs) all = absurd all.0
ids_again (more (Parts x) xs) all = absurd all.0
ids_again (more (Choice n x) xs) all = absurd all.0

absent_from : (id : List ℕ) (ids : List (List ℕ)) → AllByRecursion (λ other. id ≢ other) ids → IsAbsent (Id id) (members ids)
absent_from id [] all = tt
absent_from id (x ∷ xs) all = ((λ same. all.0 (cc)), absent_from id xs all.1)

pub distinct_from : (ids : List (List ℕ)) → Apart ids → AreDistinct (members ids)
distinct_from [] apart = tt
distinct_from (x ∷ xs) apart = (absent_from x xs apart.0, distinct_from xs apart.1)

absent_to : (id : List ℕ) (ids : List (List ℕ)) → IsAbsent (Id id) (members ids) → AllByRecursion (λ other. id ≢ other) ids
absent_to id [] all = tt
absent_to id (x ∷ xs) all = ((λ same. all.0 (ap Id same)), absent_to id xs all.1)

pub distinct_to : (ids : List (List ℕ)) → AreDistinct (members ids) → Apart ids
distinct_to [] apart = tt
distinct_to (x ∷ xs) apart = (absent_to x xs apart.0, distinct_to xs apart.1)

before_members : (ids xs : List (List ℕ)) → before ids (members xs) ≡ members (ids ++ xs)
before_members [] xs = refl
before_members (id ∷ ids) xs = ap (more (Id id)) (before_members ids xs)

-- parts behind identifiers
pub with_parts_spread : (later : List ℕ → List (List ℕ)) (ids : List (List ℕ)) → with_parts later (members ids) ≡ members (spread later ids)
with_parts_spread later [] = refl
with_parts_spread later (id ∷ ids) =
    ap (more (Id id)) (ap (before (later id)) (with_parts_spread later ids) ∙ before_members (later id) (spread later ids))

-- ---- keys

-- entries whose keys are identifiers, by these
abbrev pub keys_of : Entries → List (List ℕ)
keys_of no_entry = []
keys_of (entry k x es) = ids_of k ++ keys_of es

pub no_key_from : (id : List ℕ) (Q : Value → Type 0) (es : Entries) → EachEntry IsIdValue Q es → AllByRecursion (λ other. id ≢ other) (keys_of es) → IsNoKey (Id id) es
no_key_from id Q no_entry typed all = tt
no_key_from id Q (entry (Id k) x es) typed all = ((λ same. all.0 (cc)), no_key_from id Q es typed.2 all.1)
no_key_from id Q (entry (Str k) x es) typed all = absurd typed.0
no_key_from id Q (entry (Truth k) x es) typed all = absurd typed.0
no_key_from id Q (entry (Number k) x es) typed all = absurd typed.0
no_key_from id Q (entry (Signed k) x es) typed all = absurd typed.0
no_key_from id Q (entry (At k) x es) typed all = absurd typed.0
no_key_from id Q (entry (Four k) x es) typed all = absurd typed.0
no_key_from id Q (entry (Eight k) x es) typed all = absurd typed.0
no_key_from id Q (entry (Many k) x es) typed all = absurd typed.0
no_key_from id Q (entry (Pairs k) x es) typed all = absurd typed.0
no_key_from id Q (entry (Parts k) x es) typed all = absurd typed.0
no_key_from id Q (entry (Choice n k) x es) typed all = absurd typed.0

no_key_to : (id : List ℕ) (Q : Value → Type 0) (es : Entries) → EachEntry IsIdValue Q es → IsNoKey (Id id) es → AllByRecursion (λ other. id ≢ other) (keys_of es)
no_key_to id Q no_entry typed all = tt
no_key_to id Q (entry (Id k) x es) typed all = ((λ same. all.0 (ap Id same)), no_key_to id Q es typed.2 all.1)
no_key_to id Q (entry (Str k) x es) typed all = absurd typed.0
no_key_to id Q (entry (Truth k) x es) typed all = absurd typed.0
no_key_to id Q (entry (Number k) x es) typed all = absurd typed.0
no_key_to id Q (entry (Signed k) x es) typed all = absurd typed.0
no_key_to id Q (entry (At k) x es) typed all = absurd typed.0
no_key_to id Q (entry (Four k) x es) typed all = absurd typed.0
no_key_to id Q (entry (Eight k) x es) typed all = absurd typed.0
no_key_to id Q (entry (Many k) x es) typed all = absurd typed.0
no_key_to id Q (entry (Pairs k) x es) typed all = absurd typed.0
no_key_to id Q (entry (Parts k) x es) typed all = absurd typed.0
no_key_to id Q (entry (Choice n k) x es) typed all = absurd typed.0

-- keys that are identifiers are distinct where these are apart
pub keys_from : (Q : Value → Type 0) (es : Entries) → EachEntry IsIdValue Q es → Apart (keys_of es) → HasDistinctKeys es
keys_from Q no_entry typed apart = tt
keys_from Q (entry (Id k) x es) typed apart = (no_key_from k Q es typed.2 apart.0, keys_from Q es typed.2 apart.1)
keys_from Q (entry (Str k) x es) typed apart = absurd typed.0
keys_from Q (entry (Truth k) x es) typed apart = absurd typed.0
keys_from Q (entry (Number k) x es) typed apart = absurd typed.0
keys_from Q (entry (Signed k) x es) typed apart = absurd typed.0
keys_from Q (entry (At k) x es) typed apart = absurd typed.0
keys_from Q (entry (Four k) x es) typed apart = absurd typed.0
keys_from Q (entry (Eight k) x es) typed apart = absurd typed.0
keys_from Q (entry (Many k) x es) typed apart = absurd typed.0
keys_from Q (entry (Pairs k) x es) typed apart = absurd typed.0
keys_from Q (entry (Parts k) x es) typed apart = absurd typed.0
keys_from Q (entry (Choice n k) x es) typed apart = absurd typed.0

pub keys_to : (Q : Value → Type 0) (es : Entries) → EachEntry IsIdValue Q es → HasDistinctKeys es → Apart (keys_of es)
keys_to Q no_entry typed distinct = tt
keys_to Q (entry (Id k) x es) typed distinct = (no_key_to k Q es typed.2 distinct.0, keys_to Q es typed.2 distinct.1)
keys_to Q (entry (Str k) x es) typed distinct = absurd typed.0
keys_to Q (entry (Truth k) x es) typed distinct = absurd typed.0
keys_to Q (entry (Number k) x es) typed distinct = absurd typed.0
keys_to Q (entry (Signed k) x es) typed distinct = absurd typed.0
keys_to Q (entry (At k) x es) typed distinct = absurd typed.0
keys_to Q (entry (Four k) x es) typed distinct = absurd typed.0
keys_to Q (entry (Eight k) x es) typed distinct = absurd typed.0
keys_to Q (entry (Many k) x es) typed distinct = absurd typed.0
keys_to Q (entry (Pairs k) x es) typed distinct = absurd typed.0
keys_to Q (entry (Parts k) x es) typed distinct = absurd typed.0
keys_to Q (entry (Choice n k) x es) typed distinct = absurd typed.0
