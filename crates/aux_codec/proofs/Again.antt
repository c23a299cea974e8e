-- What is spelled so is read: the bytes of a value of a type are read as that value, whatever follows.
use Rattle.std.proofs.Common.{◌≡◌, ℕ, zero, suc, ◌^◌, ◌<◌, Bool, true, false, ◌||◌, cond, List, [], ◌∷◌, ◌++◌, length, Result, Ok, Err, refl, sym, ap, subst, ◌∙◌, append_assoc, arith}
use Rattle.std.specs.Int.{w64, to_le_bytes}
use Rattle.std.specs.List.{list_any}
use Rattle.std.specs.Str.{bytes_eq}
use Rattle.std.proofs.lemmas.Bool.{false_from_ne_true}
use Rattle.std.proofs.lemmas.Slice.Eq.{bytes_eq-Decides}
use Rattle.aux_types.specs.Gives.{◌>>=◌}
use Rattle.aux_types.specs.Shape.{Shape, Plain, Sequence, Set, Mapping, Tuple, Variant, Shapes, none, more}
use Rattle.aux_codec.specs.Value.{Value, Many, Pairs, Parts, Choice, Values, Entries, no_entry, entry, count, count_entries}
use Rattle.aux_codec.specs.Value as v
use Rattle.aux_codec.specs.Spelling.{HasType, PartsHaveTypes, ChosenHasType, Each, EachEntry, IsAbsent, AreDistinct, IsNoKey, HasDistinctKeys, spelling, spell_each, spell_entries, spell_parts, spell_chosen}
use Rattle.aux_codec.specs.Reading.{Read, place, number, members, unless_seen, distinct, pairs, value_at, parts_at, chosen_at}
use Rattle.aux_codec.proofs.Units.{ok_is, wide64, number_again}
use Rattle.aux_codec.proofs.Scalars.{scalar_again}

-- what reads again what is spelled so, of each value that has P
abbrev pub ReadsAgain : (Value → Type 0) → (Value → List ℕ) → (List ℕ → Read Value) → Type 0
ReadsAgain P spell inner = (x : Value) (rest : List ℕ) → P x → inner (spell x ++ rest) ≡ Ok (x, rest)

or_none : (b c : Bool) → b ≡ false → c ≡ false → (b || c) ≡ false
or_none true c h k = absurd cc
or_none false c h k = k

module _ (P : Value → Type 0) (spell : Value → List ℕ) (inner : List ℕ → Read Value) (again : ReadsAgain P spell inner) where
  -- two values with the same bytes are one
  pub same_value : (x y : Value) → P x → P y → spell x ≡ spell y → x ≡ y
  same_value x y p q e =
      let is : ◌≡◌ {A = Value × List ℕ} (x, []) (y, []) = ok_is (x, []) (y, []) (sym (again x [] p) ∙ ap (λ (bytes : List ℕ). inner (bytes ++ [])) e ∙ again y [] q) in
      ap (λ (z : Value × List ℕ). z.0) is

  other_bytes : (x y : Value) → P x → P y → (x ≡ y → ⊥) → bytes_eq (spell y) (spell x) ≡ false
  other_bytes x y p q apart = false_from_ne_true (bytes_eq (spell y) (spell x)) (λ e. apart (same_value x y p q (sym ((bytes_eq-Decides (spell y) (spell x)).0 e))))

  members_again : (xs : Values) (rest : List ℕ) → Each P xs → members inner (count xs) (spell_each spell xs ++ rest) ≡ Ok (xs, rest)
  unfolding members
  members_again v.none rest h = refl
  members_again (v.more x xs) rest h =
      ap (members inner (suc (count xs))) (append_assoc (spell x) (spell_each spell xs) rest) ∙ rw (again x (spell_each spell xs ++ rest) h.0, members_again xs rest h.1) refl

  -- ---- members of a set

  abbrev AreFresh : List (List ℕ) → Values → Type 0
  AreFresh seen = Each (λ y. list_any (bytes_eq (spell y)) seen ≡ false)

  fresh_ahead : (seen : List (List ℕ)) (x : Value) (xs : Values) → P x → Each P xs → IsAbsent x xs → AreFresh seen xs → AreFresh (spell x ∷ seen) xs
  fresh_ahead seen x v.none p ps apart h = tt
  fresh_ahead seen x (v.more y ys) p ps apart h =
      (or_none (bytes_eq (spell y) (spell x)) (list_any (bytes_eq (spell y)) seen) (other_bytes x y p ps.0 apart.0) h.0, fresh_ahead seen x ys p ps.1 apart.1 h.1)

  distinct_again : (total : ℕ) (xs : Values) (seen : List (List ℕ)) (rest : List ℕ) → Each P xs → AreDistinct xs → AreFresh seen xs → distinct total inner spell seen (count xs) (spell_each spell xs ++ rest) ≡ Ok (xs, rest)
  unfolding distinct
  distinct_again total v.none seen rest h apart fresh = refl
  distinct_again total (v.more x xs) seen rest h apart fresh =
      let ahead = fresh_ahead seen x xs h.0 h.1 apart.0 fresh.1 in
      ap (distinct total inner spell seen (suc (count xs))) (append_assoc (spell x) (spell_each spell xs) rest)
      ∙ rw (again x (spell_each spell xs ++ rest) h.0, fresh.0, distinct_again total xs (spell x ∷ seen) rest h.1 apart.1 ahead) refl

  all_fresh : (xs : Values) → AreFresh [] xs
  all_fresh v.none = tt
  all_fresh (v.more x xs) = (refl, all_fresh xs)

-- ---- entries of a mapping

module _ (P Q : Value → Type 0) (spell spell_value : Value → List ℕ) (key inner : List ℕ → Read Value) (again_key : ReadsAgain P spell key) (again : ReadsAgain Q spell_value inner) where
  abbrev AreFreshKeys : List (List ℕ) → Entries → Type 0
  AreFreshKeys seen = EachEntry (λ k. list_any (bytes_eq (spell k)) seen ≡ false) (λ x. Unit {0})

  fresh_keys_ahead : (seen : List (List ℕ)) (k : Value) (es : Entries) → P k → EachEntry P Q es → IsNoKey k es → AreFreshKeys seen es → AreFreshKeys (spell k ∷ seen) es
  fresh_keys_ahead seen k no_entry p ps apart h = tt
  fresh_keys_ahead seen k (entry j x es) p ps apart h =
      (or_none (bytes_eq (spell j) (spell k)) (list_any (bytes_eq (spell j)) seen) (other_bytes P spell key again_key k j p ps.0 apart.0) h.0, tt, fresh_keys_ahead seen k es p ps.2 apart.1 h.2)

  pairs_again : (total : ℕ) (es : Entries) (seen : List (List ℕ)) (rest : List ℕ) → EachEntry P Q es → HasDistinctKeys es → AreFreshKeys seen es → pairs total key spell inner seen (count_entries es) (spell_entries spell spell_value es ++ rest) ≡ Ok (es, rest)
  unfolding pairs
  pairs_again total no_entry seen rest h apart fresh = refl
  pairs_again total (entry k x es) seen rest h apart fresh =
      let ahead = fresh_keys_ahead seen k es h.0 h.2 apart.0 fresh.2 in
      let regrouped : spell_entries spell spell_value (entry k x es) ++ rest ≡ spell k ++ (spell_value x ++ (spell_entries spell spell_value es ++ rest)) =
      append_assoc (spell k ++ spell_value x) (spell_entries spell spell_value es) rest ∙ append_assoc (spell k) (spell_value x) (spell_entries spell spell_value es ++ rest) in
      ap (pairs total key spell inner seen (suc (count_entries es))) regrouped
      ∙ rw (again_key k (spell_value x ++ (spell_entries spell spell_value es ++ rest)) h.0, fresh.0, again x (spell_entries spell spell_value es ++ rest) h.1, pairs_again total es (spell k ∷ seen) rest h.2 apart.1 ahead) refl

  all_fresh_keys : (es : Entries) → AreFreshKeys [] es
  all_fresh_keys no_entry = tt
  all_fresh_keys (entry k x es) = (refl, tt, all_fresh_keys es)

-- ---- a value of any type

counted_again : (total n : ℕ) (behind : List ℕ) → n < 2 ^ 64 → number total w64 (to_le_bytes w64 n ++ behind) ≡ Ok (n, behind)
counted_again total n behind lt = number_again total w64 (2 ^ 64) wide64 n behind lt

mutual
  pub value_again : (total : ℕ) (t : Shape) (x : Value) (rest : List ℕ) → HasType t x → value_at total t (spelling t x ++ rest) ≡ Ok (x, rest)
  value_again total (Plain k) x rest h = scalar_again total k x rest h
  value_again total (Sequence t) (Many xs) rest h =
      ap (value_at total (Sequence t)) (append_assoc (to_le_bytes w64 (count xs)) (spell_each (spelling t) xs) rest)
      ∙ rw (counted_again total (count xs) (spell_each (spelling t) xs ++ rest) h.0, members_again (HasType t) (spelling t) (value_at total t) (value_again total t) xs rest h.1) refl
  value_again total (Set t) (Many xs) rest h =
      ap (value_at total (Set t)) (append_assoc (to_le_bytes w64 (count xs)) (spell_each (spelling t) xs) rest)
      ∙ rw (counted_again total (count xs) (spell_each (spelling t) xs ++ rest) h.0, distinct_again (HasType t) (spelling t) (value_at total t) (value_again total t) total xs [] rest h.1 h.2 (all_fresh (HasType t) (spelling t) (value_at total t) (value_again total t) xs)) refl
  value_again total (Mapping k t) (Pairs es) rest h =
      ap (value_at total (Mapping k t)) (append_assoc (to_le_bytes w64 (count_entries es)) (spell_entries (spelling k) (spelling t) es) rest)
      ∙ rw (
        counted_again total (count_entries es) (spell_entries (spelling k) (spelling t) es ++ rest) h.0,
        pairs_again (HasType k) (HasType t) (spelling k) (spelling t) (value_at total k) (value_at total t) (value_again total k) (value_again total t) total es [] rest h.1 h.2
            (all_fresh_keys (HasType k) (HasType t) (spelling k) (spelling t) (value_at total k) (value_at total t) (value_again total k) (value_again total t) es),
      ) refl
  value_again total (Tuple ts) (Parts xs) rest h = rw (parts_again total ts xs rest h) refl
  value_again total (Variant ts) (Choice n x) rest h =
      ap (value_at total (Variant ts)) (append_assoc (to_le_bytes w64 n) (spell_chosen ts n x) rest)
      ∙ rw (counted_again total n (spell_chosen ts n x ++ rest) h.0, chosen_again total ts n (place total (to_le_bytes w64 n ++ (spell_chosen ts n x ++ rest))) x rest h.1) refl
  value_again total _ _ rest h = absurd h

  parts_again : (total : ℕ) (ts : Shapes) (xs : Values) (rest : List ℕ) → PartsHaveTypes ts xs → parts_at total ts (spell_parts ts xs ++ rest) ≡ Ok (xs, rest)
  parts_again total none v.none rest h = refl
  parts_again total none (v.more x xs) rest h = absurd h
  parts_again total (more t ts) v.none rest h = absurd h
  parts_again total (more t ts) (v.more x xs) rest h =
      ap (parts_at total (more t ts)) (append_assoc (spelling t x) (spell_parts ts xs) rest)
      ∙ rw (value_again total t x (spell_parts ts xs ++ rest) h.0, parts_again total ts xs rest h.1) refl

  chosen_again : (total : ℕ) (ts : Shapes) (n index_place : ℕ) (x : Value) (rest : List ℕ) → ChosenHasType ts n x → chosen_at total ts n index_place (spell_chosen ts n x ++ rest) ≡ Ok (x, rest)
  chosen_again total none n index_place x rest h = absurd h
  chosen_again total (more t ts) zero index_place x rest h = value_again total t x rest h
  chosen_again total (more t ts) (suc n) index_place x rest h = chosen_again total ts n index_place x rest h
