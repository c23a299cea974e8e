-- What is read is spelled so: the bytes of a value that is read stood there, and it has its type.
use Rattle.std.proofs.Common.{◌≡◌, ℕ, zero, suc, ◌^◌, ◌<◌, Bool, true, false, ◌||◌, cond, List, [], ◌∷◌, ◌++◌, length, Result, Ok, Err, refl, sym, ap, subst, ◌∙◌, arith}
use Rattle.std.specs.Int.{w64, to_le_bytes}
use Rattle.std.specs.List.{list_any}
use Rattle.std.specs.Str.{bytes_eq}
use Rattle.std.proofs.lemmas.Slice.Eq.{bytes_eq-Decides}
use Rattle.gr_base.specs.declared.aux_fault.AuxFault.{AuxFault}
use Rattle.gr_base.specs.declared.aux_fault.AuxFault.TheVariants.{Duplicate, BadVariant}
use Rattle.aux_types.specs.Gives.{◌>>=◌}
use Rattle.aux_types.specs.Shape.{Shape, Plain, Sequence, Set, Mapping, Tuple, Variant, Shapes, none, more}
use Rattle.aux_codec.specs.Value.{Value, Many, Pairs, Parts, Choice, Values, Entries, no_entry, entry, count, count_entries}
use Rattle.aux_codec.specs.Value as v
use Rattle.aux_codec.specs.Spelling.{HasType, PartsHaveTypes, ChosenHasType, Each, EachEntry, IsAbsent, AreDistinct, IsNoKey, HasDistinctKeys, spelling, spell_each, spell_entries, spell_parts, spell_chosen}
use Rattle.aux_codec.specs.Reading.{Read, place, number, members, unless_seen, distinct, pairs, value_at, parts_at, chosen_at}
use Rattle.aux_codec.proofs.Units.{IsBytes, Takes, Takes-then, bind_ok, ok_is, no_fault, wide64, number_takes}
use Rattle.aux_codec.proofs.Scalars.{scalar_takes}

-- what reads values that have P, spelled so
abbrev pub IsReader : (Value → Type 0) → (Value → List ℕ) → (List ℕ → Read Value) → Type 0
IsReader P spell inner = (bytes : List ℕ) (x : Value × List ℕ) → IsBytes bytes → inner bytes ≡ Ok x → Takes bytes (spell x.0) x.1 × P x.0

nothing : (bytes : List ℕ) → IsBytes bytes → Takes bytes [] bytes
nothing bytes fits = record { parts = refl; left = fits }

or_false : (b c : Bool) → (b || c) ≡ false → (b ≡ false) × (c ≡ false)
or_false true c e = absurd cc
or_false false c e = (refl, e)

bytes_eq-refl : (bytes : List ℕ) → bytes_eq bytes bytes ≡ true
bytes_eq-refl bytes = (bytes_eq-Decides bytes bytes).1 refl

-- ---- members

module _ (P : Value → Type 0) (spell : Value → List ℕ) (inner : List ℕ → Read Value) (reads : IsReader P spell inner) where
  record TakesMembers (n : ℕ) (bytes : List ℕ) (x : Values × List ℕ) : Type 0 where
    takes : Takes bytes (spell_each spell x.0) x.1
    counted : count x.0 ≡ n
    each : Each P x.0

  members_take : (n : ℕ) (bytes : List ℕ) (x : Values × List ℕ) → IsBytes bytes → members inner n bytes ≡ Ok x → TakesMembers n bytes x
  unfolding members
  members_take zero bytes x fits e = subst (TakesMembers 0 bytes) (ok_is (v.none, bytes) x e) (record { takes = nothing bytes fits; counted = refl; each = tt })
  members_take (suc n) bytes x fits e =
      let first = bind_ok (inner bytes) (λ x. members inner n x.1 >>= λ xs. Ok (v.more x.0 xs.0, xs.1)) x e in
      let others = bind_ok (members inner n first.0.1) (λ xs. Ok (v.more first.0.0 xs.0, xs.1)) x first.2 in
      let one = reads bytes first.0 fits first.1 in
      let rest = members_take n first.0.1 others.0 one.0.left others.1 in
      subst (TakesMembers (suc n) bytes) (ok_is (v.more first.0.0 others.0.0, others.0.1) x others.2) (record {
        takes = Takes-then bytes (spell first.0.0) first.0.1 (spell_each spell others.0.0) others.0.1 one.0 rest.takes;
        counted = ap suc rest.counted;
        each = (one.1, rest.each);
      })

  -- ---- members of a set

  -- none has the bytes of one that was seen
  abbrev AreFresh : List (List ℕ) → Values → Type 0
  AreFresh seen = Each (λ y. list_any (bytes_eq (spell y)) seen ≡ false)

  fresh_behind : (seen : List (List ℕ)) (x : Value) (xs : Values) → AreFresh (spell x ∷ seen) xs → AreFresh seen xs × IsAbsent x xs
  fresh_behind seen x v.none h = (tt, tt)
  fresh_behind seen x (v.more y ys) h =
      let here = or_false (bytes_eq (spell y) (spell x)) (list_any (bytes_eq (spell y)) seen) h.0 in
      let there = fresh_behind seen x ys h.1 in
      let other : x ≡ y → ⊥ = λ e. let same : bytes_eq (spell y) (spell x) ≡ true = rw e (bytes_eq-refl (spell y)) in absurd cc in
      ((here.1, there.0), (other, there.1))

  record TakesDistinct (seen : List (List ℕ)) (n : ℕ) (bytes : List ℕ) (x : Values × List ℕ) : Type 0 where
    takes : Takes bytes (spell_each spell x.0) x.1
    counted : count x.0 ≡ n
    each : Each P x.0
    fresh : AreFresh seen x.0
    apart : AreDistinct x.0

  distinct_take : (total : ℕ) (seen : List (List ℕ)) (n : ℕ) (bytes : List ℕ) (x : Values × List ℕ) → IsBytes bytes → distinct total inner spell seen n bytes ≡ Ok x → TakesDistinct seen n bytes x
  unfolding distinct
  distinct_take total seen zero bytes x fits e = subst (TakesDistinct seen 0 bytes) (ok_is (v.none, bytes) x e) (record { takes = nothing bytes fits; counted = refl; each = tt; fresh = tt; apart = tt })
  distinct_take total seen (suc n) bytes x fits e =
      let first = bind_ok (inner bytes) (λ x. unless_seen total seen (spell x.0) bytes (distinct total inner spell (spell x.0 ∷ seen) n x.1 >>= λ xs. Ok (v.more x.0 xs.0, xs.1))) x e in
      let new = no_fault (list_any (bytes_eq (spell first.0.0)) seen) (Duplicate (place total bytes)) (distinct total inner spell (spell first.0.0 ∷ seen) n first.0.1 >>= λ xs. Ok (v.more first.0.0 xs.0, xs.1)) x first.2 in
      let others = bind_ok (distinct total inner spell (spell first.0.0 ∷ seen) n first.0.1) (λ xs. Ok (v.more first.0.0 xs.0, xs.1)) x new.1 in
      let one = reads bytes first.0 fits first.1 in
      let rest = distinct_take total (spell first.0.0 ∷ seen) n first.0.1 others.0 one.0.left others.1 in
      let behind = fresh_behind seen first.0.0 others.0.0 rest.fresh in
      subst (TakesDistinct seen (suc n) bytes) (ok_is (v.more first.0.0 others.0.0, others.0.1) x others.2) (record {
        takes = Takes-then bytes (spell first.0.0) first.0.1 (spell_each spell others.0.0) others.0.1 one.0 rest.takes;
        counted = ap suc rest.counted;
        each = (one.1, rest.each);
        fresh = (new.0, behind.0);
        apart = (behind.1, rest.apart);
      })

-- ---- entries of a mapping

module _ (P Q : Value → Type 0) (spell spell_value : Value → List ℕ) (key inner : List ℕ → Read Value) (reads_key : IsReader P spell key) (reads : IsReader Q spell_value inner) where
  -- no key has the bytes of one that was seen
  abbrev AreFreshKeys : List (List ℕ) → Entries → Type 0
  AreFreshKeys seen = EachEntry (λ k. list_any (bytes_eq (spell k)) seen ≡ false) (λ x. Unit {0})

  fresh_keys_behind : (seen : List (List ℕ)) (k : Value) (es : Entries) → AreFreshKeys (spell k ∷ seen) es → AreFreshKeys seen es × IsNoKey k es
  fresh_keys_behind seen k no_entry h = (tt, tt)
  fresh_keys_behind seen k (entry j x es) h =
      let here = or_false (bytes_eq (spell j) (spell k)) (list_any (bytes_eq (spell j)) seen) h.0 in
      let there = fresh_keys_behind seen k es h.2 in
      let other : k ≡ j → ⊥ = λ e. let same : bytes_eq (spell j) (spell k) ≡ true = rw e (bytes_eq-refl (spell j)) in absurd cc in
      ((here.1, tt, there.0), (other, there.1))

  record TakesPairs (seen : List (List ℕ)) (n : ℕ) (bytes : List ℕ) (x : Entries × List ℕ) : Type 0 where
    takes : Takes bytes (spell_entries spell spell_value x.0) x.1
    counted : count_entries x.0 ≡ n
    each : EachEntry P Q x.0
    fresh : AreFreshKeys seen x.0
    apart : HasDistinctKeys x.0

  pairs_take : (total : ℕ) (seen : List (List ℕ)) (n : ℕ) (bytes : List ℕ) (x : Entries × List ℕ) → IsBytes bytes → pairs total key spell inner seen n bytes ≡ Ok x → TakesPairs seen n bytes x
  unfolding pairs
  pairs_take total seen zero bytes x fits e = subst (TakesPairs seen 0 bytes) (ok_is (no_entry, bytes) x e) (record { takes = nothing bytes fits; counted = refl; each = tt; fresh = tt; apart = tt })
  pairs_take total seen (suc n) bytes x fits e =
      let k = bind_ok (key bytes) (λ k. unless_seen total seen (spell k.0) bytes (inner k.1 >>= λ x. pairs total key spell inner (spell k.0 ∷ seen) n x.1 >>= λ es. Ok (entry k.0 x.0 es.0, es.1))) x e in
      let new = no_fault (list_any (bytes_eq (spell k.0.0)) seen) (Duplicate (place total bytes)) (inner k.0.1 >>= λ x. pairs total key spell inner (spell k.0.0 ∷ seen) n x.1 >>= λ es. Ok (entry k.0.0 x.0 es.0, es.1)) x k.2 in
      let y = bind_ok (inner k.0.1) (λ x. pairs total key spell inner (spell k.0.0 ∷ seen) n x.1 >>= λ es. Ok (entry k.0.0 x.0 es.0, es.1)) x new.1 in
      let others = bind_ok (pairs total key spell inner (spell k.0.0 ∷ seen) n y.0.1) (λ es. Ok (entry k.0.0 y.0.0 es.0, es.1)) x y.2 in
      let one = reads_key bytes k.0 fits k.1 in
      let two = reads k.0.1 y.0 one.0.left y.1 in
      let rest = pairs_take total (spell k.0.0 ∷ seen) n y.0.1 others.0 two.0.left others.1 in
      let behind = fresh_keys_behind seen k.0.0 others.0.0 rest.fresh in
      let both = Takes-then bytes (spell k.0.0) k.0.1 (spell_value y.0.0) y.0.1 one.0 two.0 in
      subst (TakesPairs seen (suc n) bytes) (ok_is (entry k.0.0 y.0.0 others.0.0, others.0.1) x others.2) (record {
        takes = Takes-then bytes (spell k.0.0 ++ spell_value y.0.0) y.0.1 (spell_entries spell spell_value others.0.0) others.0.1 both rest.takes;
        counted = ap suc rest.counted;
        each = (one.1, two.1, rest.each);
        fresh = (new.0, tt, behind.0);
        apart = (behind.1, rest.apart);
      })

-- ---- a value of any type

-- a value that was read: its bytes stood there, and it has its type
abbrev pub TakesValue : Shape → List ℕ → Value × List ℕ → Type 0
TakesValue t bytes x = Takes bytes (spelling t x.0) x.1 × HasType t x.0

mutual
  pub value_takes : (total : ℕ) (t : Shape) (bytes : List ℕ) (x : Value × List ℕ) → IsBytes bytes → value_at total t bytes ≡ Ok x → TakesValue t bytes x
  value_takes total (Plain k) bytes x fits e = scalar_takes total k bytes x fits e
  value_takes total (Sequence t) bytes x fits e =
      let n = bind_ok (number total w64 bytes) (λ n. members (value_at total t) n.0 n.1 >>= λ xs. Ok (Many xs.0, xs.1)) x e in
      let xs = bind_ok (members (value_at total t) n.0.0 n.0.1) (λ xs. Ok (Many xs.0, xs.1)) x n.2 in
      let size = number_takes total w64 (2 ^ 64) wide64 bytes n.0 fits n.1 in
      let all = members_take (HasType t) (spelling t) (value_at total t) (value_takes total t) n.0.0 n.0.1 xs.0 size.0.left xs.1 in
      let whole = Takes-then bytes (to_le_bytes w64 n.0.0) n.0.1 (spell_each (spelling t) xs.0.0) xs.0.1 size.0 all.takes in
      subst (TakesValue (Sequence t) bytes) (ok_is (Many xs.0.0, xs.0.1) x xs.2) (rw all.counted whole, (rw all.counted size.1, all.each))
  value_takes total (Set t) bytes x fits e =
      let n = bind_ok (number total w64 bytes) (λ n. distinct total (value_at total t) (spelling t) [] n.0 n.1 >>= λ xs. Ok (Many xs.0, xs.1)) x e in
      let xs = bind_ok (distinct total (value_at total t) (spelling t) [] n.0.0 n.0.1) (λ xs. Ok (Many xs.0, xs.1)) x n.2 in
      let size = number_takes total w64 (2 ^ 64) wide64 bytes n.0 fits n.1 in
      let all = distinct_take (HasType t) (spelling t) (value_at total t) (value_takes total t) total [] n.0.0 n.0.1 xs.0 size.0.left xs.1 in
      let whole = Takes-then bytes (to_le_bytes w64 n.0.0) n.0.1 (spell_each (spelling t) xs.0.0) xs.0.1 size.0 all.takes in
      subst (TakesValue (Set t) bytes) (ok_is (Many xs.0.0, xs.0.1) x xs.2) (rw all.counted whole, (rw all.counted size.1, all.each, all.apart))
  value_takes total (Mapping k t) bytes x fits e =
      let n = bind_ok (number total w64 bytes) (λ n. pairs total (value_at total k) (spelling k) (value_at total t) [] n.0 n.1 >>= λ es. Ok (Pairs es.0, es.1)) x e in
      let es = bind_ok (pairs total (value_at total k) (spelling k) (value_at total t) [] n.0.0 n.0.1) (λ es. Ok (Pairs es.0, es.1)) x n.2 in
      let size = number_takes total w64 (2 ^ 64) wide64 bytes n.0 fits n.1 in
      let all = pairs_take (HasType k) (HasType t) (spelling k) (spelling t) (value_at total k) (value_at total t) (value_takes total k) (value_takes total t) total [] n.0.0 n.0.1 es.0 size.0.left es.1 in
      let whole = Takes-then bytes (to_le_bytes w64 n.0.0) n.0.1 (spell_entries (spelling k) (spelling t) es.0.0) es.0.1 size.0 all.takes in
      subst (TakesValue (Mapping k t) bytes) (ok_is (Pairs es.0.0, es.0.1) x es.2) (rw all.counted whole, (rw all.counted size.1, all.each, all.apart))
  value_takes total (Tuple ts) bytes x fits e =
      let xs = bind_ok (parts_at total ts bytes) (λ xs. Ok (Parts xs.0, xs.1)) x e in
      subst (TakesValue (Tuple ts) bytes) (ok_is (Parts xs.0.0, xs.0.1) x xs.2) (parts_take total ts bytes xs.0 fits xs.1)
  value_takes total (Variant ts) bytes x fits e =
      let n = bind_ok (number total w64 bytes) (λ n. chosen_at total ts n.0 (place total bytes) n.1 >>= λ y. Ok (Choice n.0 y.0, y.1)) x e in
      let y = bind_ok (chosen_at total ts n.0.0 (place total bytes) n.0.1) (λ y. Ok (Choice n.0.0 y.0, y.1)) x n.2 in
      let index = number_takes total w64 (2 ^ 64) wide64 bytes n.0 fits n.1 in
      let one = chosen_take total ts n.0.0 (place total bytes) n.0.1 y.0 index.0.left y.1 in
      let whole = Takes-then bytes (to_le_bytes w64 n.0.0) n.0.1 (spell_chosen ts n.0.0 y.0.0) y.0.1 index.0 one.0 in
      subst (TakesValue (Variant ts) bytes) (ok_is (Choice n.0.0 y.0.0, y.0.1) x y.2) (whole, (index.1, one.1))

  parts_take : (total : ℕ) (ts : Shapes) (bytes : List ℕ) (x : Values × List ℕ) → IsBytes bytes → parts_at total ts bytes ≡ Ok x → Takes bytes (spell_parts ts x.0) x.1 × PartsHaveTypes ts x.0
  parts_take total none bytes x fits e = subst (λ (y : Values × List ℕ). Takes bytes (spell_parts none y.0) y.1 × PartsHaveTypes none y.0) (ok_is (v.none, bytes) x e) (nothing bytes fits, tt)
  parts_take total (more t ts) bytes x fits e =
      let first = bind_ok (value_at total t bytes) (λ y. parts_at total ts y.1 >>= λ ys. Ok (v.more y.0 ys.0, ys.1)) x e in
      let others = bind_ok (parts_at total ts first.0.1) (λ ys. Ok (v.more first.0.0 ys.0, ys.1)) x first.2 in
      let one = value_takes total t bytes first.0 fits first.1 in
      let rest = parts_take total ts first.0.1 others.0 one.0.left others.1 in
      subst (λ (y : Values × List ℕ). Takes bytes (spell_parts (more t ts) y.0) y.1 × PartsHaveTypes (more t ts) y.0) (ok_is (v.more first.0.0 others.0.0, others.0.1) x others.2)
      (Takes-then bytes (spelling t first.0.0) first.0.1 (spell_parts ts others.0.0) others.0.1 one.0 rest.0, (one.1, rest.1))

  chosen_take : (total : ℕ) (ts : Shapes) (n index_place : ℕ) (bytes : List ℕ) (x : Value × List ℕ) → IsBytes bytes → chosen_at total ts n index_place bytes ≡ Ok x → Takes bytes (spell_chosen ts n x.0) x.1 × ChosenHasType ts n x.0
  chosen_take total none n index_place bytes x fits e = absurd cc
  chosen_take total (more t ts) zero index_place bytes x fits e = value_takes total t bytes x fits e
  chosen_take total (more t ts) (suc n) index_place bytes x fits e = chosen_take total ts n index_place bytes x fits e
