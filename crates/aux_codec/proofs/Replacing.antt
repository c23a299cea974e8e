-- Places replaced in one value after another, as a loop does.
use Rattle.std.proofs.Common.{◌≡◌, ℕ, zero, suc, ◌+◌, ◌<◌, ◌≤◌, List, [], ◌∷◌, ◌++◌, length, get_or, slice_set, map, refl, sym, ap, subst, ◌∙◌, Contains, ◌⊎◌, inl, inr, arith}
use Rattle.std.proofs.lemmas.List.{length-map}
use Rattle.std.proofs.lemmas.List.Elements.{Contains-append_cases}
use Rattle.aux_codec.specs.declared.value.Place.{Place}
use Rattle.aux_codec.specs.declared.value.AuxValue.{AuxValue}
use Rattle.aux_codec.specs.declared.value.AuxPair.{AuxPair}
use Rattle.aux_codec.specs.Value.{Value, At, Values, Entries, values, entries, more, entry, value_of, entry_of}
use Rattle.aux_types.specs.declared.name.Scalar.TheVariants as s
use Rattle.aux_codec.specs.Spelling.{ScalarHasType}
use Rattle.aux_codec.specs.Places.{places_of, places_of_each, places_of_entries, with_places, each_with_places, entries_with_places, AreOffsets}
use Rattle.aux_codec.proofs.Views.{entry_parts}

-- the first ones are related to what they were, and the others are what they were
abbrev pub UpTo : {B : Type 0} → (B → B → Type 0) → ℕ → List B → List B → Type 0
UpTo R zero xs ys = ys ≡ xs
UpTo R (suc n) [] ys = ys ≡ []
UpTo R (suc n) (x ∷ xs) [] = ⊥
UpTo R (suc n) (x ∷ xs) (y ∷ ys) = R x y × UpTo R n xs ys

module _ {A B : Type 0} (see : A → B) (R : B → B → Type 0) where
  next : (n : ℕ) (xs : List B) (ys : List A) (d new : A) → n < length ys → UpTo R n xs (map see ys) → R (see (get_or ys n d)) (see new) → UpTo R (suc n) xs (map see (slice_set ys n new))
  next n xs [] d new lt h r = absurd (omega arith)
  next zero xs (y ∷ ys) d new lt h r =
      let one : UpTo R 1 (see y ∷ map see ys) (see new ∷ map see ys) = (r, refl) in
      subst (λ (zs : List B). UpTo R 1 zs (see new ∷ map see ys)) h one
  next (suc n) [] (y ∷ ys) d new lt h r = absurd cc
  next (suc n) (x ∷ xs) (y ∷ ys) d new lt h r = (h.0, next n xs ys d new (omega arith) h.1 r)

  pub goes_on : (n : ℕ) (xs : List B) (ys : List A) (d new : A) → n < length ys → UpTo R n xs (map see ys) → R (see (get_or ys n d)) (see new) → UpTo R (n + 1) xs (map see (slice_set ys n new))
  goes_on n xs ys d new lt h r =
      let one : suc n ≡ n + 1 = omega arith in
      subst (λ (m : ℕ). UpTo R m xs (map see (slice_set ys n new))) one (next n xs ys d new lt h r)

no_offsets : (f : Place → Place) → AreOffsets f []
no_offsets f p h = absurd (omega (arith, h.1))

either_offset : (f : Place → Place) (ps qs : List Place) (p : Place) → AreOffsets f ps → AreOffsets f qs → Contains ps p ⊎ Contains qs p → ScalarHasType s.Offset (At (f p))
either_offset f ps qs p h k (inl is) = h p is
either_offset f ps qs p h k (inr is) = k p is

both_offsets : (f : Place → Place) (ps qs : List Place) → AreOffsets f ps → AreOffsets f qs → AreOffsets f (ps ++ qs)
both_offsets f ps qs h k p is = either_offset f ps qs p h k (Contains-append_cases ps qs p is)

-- the Places of a value were replaced
abbrev pub IsReplaced : (Place → Place) → Value → Value → Type 0
IsReplaced f x y = (y ≡ with_places f x) × AreOffsets f (places_of x)

abbrev pub IsEntryReplaced : (Place → Place) → Value × Value → Value × Value → Type 0
IsEntryReplaced f x y = IsReplaced f x.0 y.0 × IsReplaced f x.1 y.1

values_replaced : (f : Place → Place) (n : ℕ) (xs ys : List Value) → length xs ≤ n → UpTo (IsReplaced f) n xs ys → (values ys ≡ each_with_places f (values xs)) × AreOffsets f (places_of_each (values xs))
values_replaced f zero [] ys le h = (ap values h, no_offsets f)
values_replaced f zero (x ∷ xs) ys le h = absurd (omega arith)
values_replaced f (suc n) [] ys le h = (ap values h, no_offsets f)
values_replaced f (suc n) (x ∷ xs) [] le h = absurd h
values_replaced f (suc n) (x ∷ xs) (y ∷ ys) le h =
    let others = values_replaced f n xs ys (omega arith) h.1 in
    (rw (h.0.0, others.0) refl, both_offsets f (places_of x) (places_of_each (values xs)) h.0.1 others.1)

entries_replaced : (f : Place → Place) (n : ℕ) (xs ys : List (Value × Value)) → length xs ≤ n → UpTo (IsEntryReplaced f) n xs ys → (entries ys ≡ entries_with_places f (entries xs)) × AreOffsets f (places_of_entries (entries xs))
entries_replaced f zero [] ys le h = (ap entries h, no_offsets f)
entries_replaced f zero (x ∷ xs) ys le h = absurd (omega arith)
entries_replaced f (suc n) [] ys le h = (ap entries h, no_offsets f)
entries_replaced f (suc n) (x ∷ xs) [] le h = absurd h
entries_replaced f (suc n) (x ∷ xs) (y ∷ ys) le h =
    let others = entries_replaced f n xs ys (omega arith) h.1 in (
      rw (h.0.0.0, h.0.1.0, others.0) refl,
      both_offsets f (places_of x.0) (places_of x.1 ++ places_of_entries (entries xs)) h.0.0.1 (both_offsets f (places_of x.1) (places_of_entries (entries xs)) h.0.1.1 others.1),
    )

pub pair_replaced : (f : Place → Place) (old new : AuxPair) → IsReplaced f (value_of old.key) (value_of new.key) → IsReplaced f (value_of old.value) (value_of new.value) → IsEntryReplaced f (entry_of old) (entry_of new)
pair_replaced f old new key value = rw (entry_parts old, entry_parts new) (key, value)

-- ---- at the end of a loop

pub all_replaced : (f : Place → Place) (n : ℕ) (xs ys : List AuxValue) → length xs ≤ n → UpTo (IsReplaced f) n (map value_of xs) (map value_of ys)
    → (values (map value_of ys) ≡ each_with_places f (values (map value_of xs))) × AreOffsets f (places_of_each (values (map value_of xs)))
all_replaced f n xs ys le h = values_replaced f n (map value_of xs) (map value_of ys) (subst (λ (m : ℕ). m ≤ n) (sym (length-map xs value_of)) le) h

pub all_entries_replaced : (f : Place → Place) (n : ℕ) (xs ys : List AuxPair) → length xs ≤ n → UpTo (IsEntryReplaced f) n (map entry_of xs) (map entry_of ys)
    → (entries (map entry_of ys) ≡ entries_with_places f (entries (map entry_of xs))) × AreOffsets f (places_of_entries (entries (map entry_of xs)))
all_entries_replaced f n xs ys le h = entries_replaced f n (map entry_of xs) (map entry_of ys) (subst (λ (m : ℕ). m ≤ n) (sym (length-map xs entry_of)) le) h
