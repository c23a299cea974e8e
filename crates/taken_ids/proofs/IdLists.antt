-- The identifiers of the members and entries of a value, one after another.
use Rattle.std.proofs.Common.{◌≡◌, ℕ, ◌+◌, ◌<◌, List, ◌∷◌, ◌++◌, map, length, get_or, drop, sym, ap, ◌∙◌, add-one, drop-cons, append_assoc}
use Rattle.aux_codec.specs.declared.value.AuxPair.{AuxPair, fold_out-AuxPair}
use Rattle.aux_codec.specs.declared.value.AuxValue.{AuxValue}
use Rattle.aux_codec.specs.Value.{Value, value_of, entry_of, values, entries, value_layer, entry_layer}
use Rattle.taken_ids.specs.Named.{ids_of, ids_of_each, ids_of_entries}

entry_parts : (e : AuxPair) → entry_of e ≡ (value_of e.key, value_of e.value)
entry_parts e = fold_out-AuxPair Value (Value × Value) value_layer entry_layer e

-- the rest from a place on begins with the member, or the entry, that stands there
rest_of : {A : Type 0} (xs : List A) (i : ℕ) (x : A) → i < length xs → x ≡ get_or xs i x → drop i xs ≡ x ∷ drop (i + 1) xs
rest_of xs i x within is = rw add-one (drop-cons xs i x within) ∙ ap (λ y. y ∷ drop (i + 1) xs) (sym is)

pub each_goes_on : (xs : List AuxValue) (i : ℕ) (x : AuxValue) (out all : List (List ℕ)) → i < length xs → x ≡ get_or xs i x
    → out ++ ids_of_each (values (map value_of (drop i xs))) ≡ all → (out ++ ids_of (value_of x)) ++ ids_of_each (values (map value_of (drop (i + 1) xs))) ≡ all
each_goes_on xs i x out all within is e =
    append_assoc out (ids_of (value_of x)) (ids_of_each (values (map value_of (drop (i + 1) xs))))
    ∙ sym (ap (λ (ys : List AuxValue). out ++ ids_of_each (values (map value_of ys))) (rest_of xs i x within is)) ∙ e

pub entries_go_on : (xs : List AuxPair) (i : ℕ) (x : AuxPair) (out all : List (List ℕ)) → i < length xs → x ≡ get_or xs i x
    → out ++ ids_of_entries (entries (map entry_of (drop i xs))) ≡ all
    → ((out ++ ids_of (value_of x.key)) ++ ids_of (value_of x.value)) ++ ids_of_entries (entries (map entry_of (drop (i + 1) xs))) ≡ all
entries_go_on xs i x out all within is e =
    let rest = ids_of_entries (entries (map entry_of (drop (i + 1) xs))) in
    append_assoc (out ++ ids_of (value_of x.key)) (ids_of (value_of x.value)) rest
    ∙ append_assoc out (ids_of (value_of x.key)) (ids_of (value_of x.value) ++ rest)
    ∙ sym (ap (λ (p : Value × Value). out ++ (ids_of p.0 ++ (ids_of p.1 ++ rest))) (entry_parts x))
    ∙ sym (ap (λ (ys : List AuxPair). out ++ ids_of_entries (entries (map entry_of ys))) (rest_of xs i x within is)) ∙ e
