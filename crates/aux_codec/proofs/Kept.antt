-- A value keeps its type where its Places are replaced, no two by one.
use Rattle.std.proofs.Common.{◌≡◌, ℕ, zero, suc, ◌^◌, ◌<◌, List, [], ◌∷◌, ◌++◌, refl, sym, ap, subst, ◌∙◌, Contains, arith}
use Rattle.std.proofs.lemmas.List.Elements.{Contains-append_left, Contains-append_right}
use Rattle.aux_types.specs.declared.name.Scalar.{Scalar}
use Rattle.aux_types.specs.declared.name.Scalar.TheVariants as s
use Rattle.aux_types.specs.Shape.{Shape, Plain, Sequence, Set, Mapping, Tuple, Variant, Shapes, none, more}
use Rattle.aux_codec.specs.declared.value.Place.{Place}
use Rattle.aux_codec.specs.Value.{Value, Str, Truth, Id, Number, Signed, At, Four, Eight, Many, Pairs, Parts, Choice, Values, Entries, no_entry, entry, count, count_entries}
use Rattle.aux_codec.specs.Value as v
use Rattle.aux_codec.specs.Spelling.{ScalarHasType, HasType, PartsHaveTypes, ChosenHasType, Each, EachEntry, IsAbsent, AreDistinct, IsNoKey, HasDistinctKeys}
use Rattle.aux_codec.specs.Places.{places_of, places_of_each, places_of_entries, with_places, each_with_places, entries_with_places, AreOffsets}

module _ (f : Place → Place) where
  -- no Place of the first is replaced as another of the second
  abbrev pub TellsApart : List Place → List Place → Type 0
  TellsApart ps qs = (p q : Place) → Contains ps p → Contains qs q → f p ≡ f q → p ≡ q

  -- ---- of more Places, and so of fewer

  offsets_left : (ps qs : List Place) → AreOffsets f (ps ++ qs) → AreOffsets f ps
  offsets_left ps qs h p is = h p (Contains-append_left ps qs p is)

  offsets_right : (ps qs : List Place) → AreOffsets f (ps ++ qs) → AreOffsets f qs
  offsets_right ps qs h p is = h p (Contains-append_right ps qs p is)

  tells_left : (ps qs rs ss : List Place) → TellsApart (ps ++ qs) (rs ++ ss) → TellsApart ps rs
  tells_left ps qs rs ss h p q in_first in_second = h p q (Contains-append_left ps qs p in_first) (Contains-append_left rs ss q in_second)

  tells_right : (ps qs rs ss : List Place) → TellsApart (ps ++ qs) (rs ++ ss) → TellsApart qs ss
  tells_right ps qs rs ss h p q in_first in_second = h p q (Contains-append_right ps qs p in_first) (Contains-append_right rs ss q in_second)

  tells_across : (ps qs rs ss : List Place) → TellsApart (ps ++ qs) (rs ++ ss) → TellsApart ps ss
  tells_across ps qs rs ss h p q in_first in_second = h p q (Contains-append_left ps qs p in_first) (Contains-append_right rs ss q in_second)

  first_of : (p : Place) → Contains (p ∷ []) p
  first_of p = (0, omega arith, refl)

  -- ---- values that are the same once replaced were the same

  mutual
    same : (x y : Value) → TellsApart (places_of x) (places_of y) → with_places f x ≡ with_places f y → x ≡ y
    same (Str a) (Str b) tells e = e
    same (Truth a) (Truth b) tells e = e
    same (Id a) (Id b) tells e = e
    same (Number a) (Number b) tells e = e
    same (Signed a) (Signed b) tells e = e
    same (At p) (At q) tells e = ap At (tells p q (first_of p) (first_of q) (let e' : f p ≡ f q = cc in e'))
    same (Four a) (Four b) tells e = e
    same (Eight a) (Eight b) tells e = e
    same (Many xs) (Many ys) tells e = ap Many (same_each xs ys tells (let e' : each_with_places f xs ≡ each_with_places f ys = cc in e'))
    same (Pairs xs) (Pairs ys) tells e = ap Pairs (same_entries xs ys tells (let e' : entries_with_places f xs ≡ entries_with_places f ys = cc in e'))
    same (Parts xs) (Parts ys) tells e = ap Parts (same_each xs ys tells (let e' : each_with_places f xs ≡ each_with_places f ys = cc in e'))
    same (Choice n x) (Choice m y) tells e =
        let index : n ≡ m = cc in
        let inner : with_places f x ≡ with_places f y = cc in
        let is = same x y tells inner in
        cc
    same _ _ tells e = absurd cc

    same_each : (xs ys : Values) → TellsApart (places_of_each xs) (places_of_each ys) → each_with_places f xs ≡ each_with_places f ys → xs ≡ ys
    same_each v.none v.none tells e = refl
    same_each v.none (v.more y ys) tells e = absurd cc
    same_each (v.more x xs) v.none tells e = absurd cc
    same_each (v.more x xs) (v.more y ys) tells e =
        let first : with_places f x ≡ with_places f y = cc in
        let others : each_with_places f xs ≡ each_with_places f ys = cc in
        let a = same x y (tells_left (places_of x) (places_of_each xs) (places_of y) (places_of_each ys) tells) first in
        let b = same_each xs ys (tells_right (places_of x) (places_of_each xs) (places_of y) (places_of_each ys) tells) others in
        cc

    same_entries : (xs ys : Entries) → TellsApart (places_of_entries xs) (places_of_entries ys) → entries_with_places f xs ≡ entries_with_places f ys → xs ≡ ys
    same_entries no_entry no_entry tells e = refl
    same_entries no_entry (entry k y ys) tells e = absurd cc
    same_entries (entry k x xs) no_entry tells e = absurd cc
    same_entries (entry k x xs) (entry j y ys) tells e =
        let key : with_places f k ≡ with_places f j = cc in
        let value : with_places f x ≡ with_places f y = cc in
        let others : entries_with_places f xs ≡ entries_with_places f ys = cc in
        let behind = tells_right (places_of k) (places_of x ++ places_of_entries xs) (places_of j) (places_of y ++ places_of_entries ys) tells in
        let a = same k j (tells_left (places_of k) (places_of x ++ places_of_entries xs) (places_of j) (places_of y ++ places_of_entries ys) tells) key in
        let b = same x y (tells_left (places_of x) (places_of_entries xs) (places_of y) (places_of_entries ys) behind) value in
        let c = same_entries xs ys (tells_right (places_of x) (places_of_entries xs) (places_of y) (places_of_entries ys) behind) others in
        cc

  -- ---- so what was distinct stays so

  absent_kept : (x : Value) (ys : Values) → TellsApart (places_of x) (places_of_each ys) → IsAbsent x ys → IsAbsent (with_places f x) (each_with_places f ys)
  absent_kept x v.none tells h = tt
  absent_kept x (v.more y ys) tells h = (
    (λ e. h.0 (same x y (λ p q a b. tells p q a (Contains-append_left (places_of y) (places_of_each ys) q b)) e)),
    absent_kept x ys (λ p q a b. tells p q a (Contains-append_right (places_of y) (places_of_each ys) q b)) h.1,
  )

  distinct_kept : (xs : Values) → TellsApart (places_of_each xs) (places_of_each xs) → AreDistinct xs → AreDistinct (each_with_places f xs)
  distinct_kept v.none tells h = tt
  distinct_kept (v.more x xs) tells h = (
    absent_kept x xs (tells_across (places_of x) (places_of_each xs) (places_of x) (places_of_each xs) tells) h.0,
    distinct_kept xs (tells_right (places_of x) (places_of_each xs) (places_of x) (places_of_each xs) tells) h.1,
  )

  no_key_kept : (k : Value) (es : Entries) → TellsApart (places_of k) (places_of_entries es) → IsNoKey k es → IsNoKey (with_places f k) (entries_with_places f es)
  no_key_kept k no_entry tells h = tt
  no_key_kept k (entry j x es) tells h = (
    (λ e. h.0 (same k j (λ p q a b. tells p q a (Contains-append_left (places_of j) (places_of x ++ places_of_entries es) q b)) e)),
    no_key_kept k es (λ p q a b. tells p q a (Contains-append_right (places_of j) (places_of x ++ places_of_entries es) q (Contains-append_right (places_of x) (places_of_entries es) q b))) h.1,
  )

  keys_kept : (es : Entries) → TellsApart (places_of_entries es) (places_of_entries es) → HasDistinctKeys es → HasDistinctKeys (entries_with_places f es)
  keys_kept no_entry tells h = tt
  keys_kept (entry k x es) tells h =
      let behind = tells_right (places_of k) (places_of x ++ places_of_entries es) (places_of k) (places_of x ++ places_of_entries es) tells in (
        no_key_kept k es (λ p q a b. tells p q (Contains-append_left (places_of k) (places_of x ++ places_of_entries es) p a)
            (Contains-append_right (places_of k) (places_of x ++ places_of_entries es) q (Contains-append_right (places_of x) (places_of_entries es) q b))) h.0,
        keys_kept es (tells_right (places_of x) (places_of_entries es) (places_of x) (places_of_entries es) behind) h.1,
      )

  -- ---- and the type stays

  count_kept : (xs : Values) → count (each_with_places f xs) ≡ count xs
  count_kept v.none = refl
  count_kept (v.more x xs) = ap suc (count_kept xs)

  count_entries_kept : (es : Entries) → count_entries (entries_with_places f es) ≡ count_entries es
  count_entries_kept no_entry = refl
  count_entries_kept (entry k x es) = ap suc (count_entries_kept es)

  scalar_kept : (k : Scalar) (x : Value) → AreOffsets f (places_of x) → ScalarHasType k x → ScalarHasType k (with_places f x)
  scalar_kept s.Str (Str text) fit h = h
  scalar_kept s.Bool (Truth b) fit h = h
  scalar_kept s.Id (Id id) fit h = h
  scalar_kept s.Addr (Number n) fit h = h
  scalar_kept s.Offset (At p) fit h = fit p (first_of p)
  scalar_kept s.I8 (Signed z) fit h = h
  scalar_kept s.I16 (Signed z) fit h = h
  scalar_kept s.I32 (Signed z) fit h = h
  scalar_kept s.I64 (Signed z) fit h = h
  scalar_kept s.U8 (Number n) fit h = h
  scalar_kept s.U16 (Number n) fit h = h
  scalar_kept s.U32 (Number n) fit h = h
  scalar_kept s.U64 (Number n) fit h = h
  scalar_kept s.Four (Four n) fit h = h
  scalar_kept s.Eight (Eight n) fit h = h
  scalar_kept _ _ fit h = absurd h

  -- what each value keeps
  abbrev pub Keeps : (Value → Type 0) → Type 0
  Keeps P = (x : Value) → TellsApart (places_of x) (places_of x) → AreOffsets f (places_of x) → P x → P (with_places f x)

  each_kept : (P : Value → Type 0) → Keeps P → (xs : Values) → TellsApart (places_of_each xs) (places_of_each xs) → AreOffsets f (places_of_each xs) → Each P xs → Each P (each_with_places f xs)
  each_kept P keeps v.none tells fit h = tt
  each_kept P keeps (v.more x xs) tells fit h = (
    keeps x (tells_left (places_of x) (places_of_each xs) (places_of x) (places_of_each xs) tells) (offsets_left (places_of x) (places_of_each xs) fit) h.0,
    each_kept P keeps xs (tells_right (places_of x) (places_of_each xs) (places_of x) (places_of_each xs) tells) (offsets_right (places_of x) (places_of_each xs) fit) h.1,
  )

  entries_kept : (P Q : Value → Type 0) → Keeps P → Keeps Q → (es : Entries) → TellsApart (places_of_entries es) (places_of_entries es) → AreOffsets f (places_of_entries es) → EachEntry P Q es → EachEntry P Q (entries_with_places f es)
  entries_kept P Q keeps_key keeps_value no_entry tells fit h = tt
  entries_kept P Q keeps_key keeps_value (entry k x es) tells fit h =
      let tells_behind = tells_right (places_of k) (places_of x ++ places_of_entries es) (places_of k) (places_of x ++ places_of_entries es) tells in
      let fit_behind = offsets_right (places_of k) (places_of x ++ places_of_entries es) fit in (
        keeps_key k (tells_left (places_of k) (places_of x ++ places_of_entries es) (places_of k) (places_of x ++ places_of_entries es) tells) (offsets_left (places_of k) (places_of x ++ places_of_entries es) fit) h.0,
        keeps_value x (tells_left (places_of x) (places_of_entries es) (places_of x) (places_of_entries es) tells_behind) (offsets_left (places_of x) (places_of_entries es) fit_behind) h.1,
        entries_kept P Q keeps_key keeps_value es (tells_right (places_of x) (places_of_entries es) (places_of x) (places_of_entries es) tells_behind) (offsets_right (places_of x) (places_of_entries es) fit_behind) h.2,
      )

  mutual
    pub type_kept : (t : Shape) → Keeps (HasType t)
    type_kept (Plain k) x tells fit h = scalar_kept k x fit h
    type_kept (Sequence t) (Many xs) tells fit h =
        (subst (λ n. n < 2 ^ 64) (sym (count_kept xs)) h.0, each_kept (HasType t) (type_kept t) xs tells fit h.1)
    type_kept (Set t) (Many xs) tells fit h =
        (subst (λ n. n < 2 ^ 64) (sym (count_kept xs)) h.0, each_kept (HasType t) (type_kept t) xs tells fit h.1, distinct_kept xs tells h.2)
    type_kept (Mapping k t) (Pairs es) tells fit h =
        (subst (λ n. n < 2 ^ 64) (sym (count_entries_kept es)) h.0, entries_kept (HasType k) (HasType t) (type_kept k) (type_kept t) es tells fit h.1, keys_kept es tells h.2)
    type_kept (Tuple ts) (Parts xs) tells fit h = parts_kept ts xs tells fit h
    type_kept (Variant ts) (Choice n x) tells fit h = (h.0, chosen_kept ts n x tells fit h.1)
    type_kept _ _ tells fit h = absurd h

    parts_kept : (ts : Shapes) (xs : Values) → TellsApart (places_of_each xs) (places_of_each xs) → AreOffsets f (places_of_each xs) → PartsHaveTypes ts xs → PartsHaveTypes ts (each_with_places f xs)
    parts_kept none v.none tells fit h = tt
    parts_kept none (v.more x xs) tells fit h = absurd h
    parts_kept (more t ts) v.none tells fit h = absurd h
    parts_kept (more t ts) (v.more x xs) tells fit h = (
      type_kept t x (tells_left (places_of x) (places_of_each xs) (places_of x) (places_of_each xs) tells) (offsets_left (places_of x) (places_of_each xs) fit) h.0,
      parts_kept ts xs (tells_right (places_of x) (places_of_each xs) (places_of x) (places_of_each xs) tells) (offsets_right (places_of x) (places_of_each xs) fit) h.1,
    )

    chosen_kept : (ts : Shapes) (n : ℕ) (x : Value) → TellsApart (places_of x) (places_of x) → AreOffsets f (places_of x) → ChosenHasType ts n x → ChosenHasType ts n (with_places f x)
    chosen_kept none n x tells fit h = absurd h
    chosen_kept (more t ts) zero x tells fit h = type_kept t x tells fit h
    chosen_kept (more t ts) (suc n) x tells fit h = chosen_kept ts n x tells fit h
