-- Where the reader of a value halts.
use Rattle.std.proofs.Common.{◌≡◌, ℕ, zero, suc, ◌-◌, ◌^◌, Bool, true, false, cond, List, [], ◌∷◌, ◌++◌, length, Result, Ok, Err, refl, sym, ap, subst, ◌∙◌, ◌⊎◌, inl, inr, append_assoc}
use Rattle.std.specs.Int.{w64, to_le_bytes}
use Rattle.std.specs.List.{list_any}
use Rattle.std.specs.Str.{bytes_eq}
use Rattle.gr_base.specs.declared.aux_fault.AuxFault.{AuxFault}
use Rattle.gr_base.specs.declared.aux_fault.AuxFault.TheVariants.{Short, BadVariant, Duplicate}
use Rattle.aux_types.specs.declared.name.Scalar.{Scalar}
use Rattle.aux_types.specs.declared.name.Scalar.TheVariants as s
use Rattle.aux_types.specs.Gives.{◌>>=◌}
use Rattle.aux_types.specs.Shape.{Shape, Plain, Sequence, Set, Mapping, Tuple, Variant, Shapes, none, more, HasParts, SomeHaveParts, AllHaveParts}
use Rattle.aux_codec.specs.Value.{Value, Many, Pairs, Parts, Choice, Values, Entries, no_entry, entry}
use Rattle.aux_codec.specs.Value as v
use Rattle.aux_codec.specs.Spelling.{HasType, spelling}
use Rattle.aux_codec.specs.Reading.{Read, place, number, string, offset, scalar_at, members, unless_seen, distinct, pairs, value_at, parts_at, chosen_at}
use Rattle.aux_codec.proofs.Units.{IsBytes, chosen, wide64, bind_err, no_value, err_is, number_takes, number_again}
use Rattle.aux_codec.proofs.Takes.{TakesValue, value_takes}
use Rattle.aux_codec.proofs.Again.{value_again}
use Rattle.aux_codec.proofs.Halts.{Halts, same_reader, first_halts, second_halts, mapped, number_halts, scalar_halts}

-- ---- nothing is left

scalar_short : (k : Scalar) (n : ℕ) → scalar_at n k [] ≡ Err (Short (place n []))
unfolding string offset
scalar_short s.Str n = refl
scalar_short s.Bool n = refl
scalar_short s.Id n = refl
scalar_short s.Addr n = refl
scalar_short s.Offset n = refl
scalar_short s.I8 n = refl
scalar_short s.I16 n = refl
scalar_short s.I32 n = refl
scalar_short s.I64 n = refl
scalar_short s.U8 n = refl
scalar_short s.U16 n = refl
scalar_short s.U32 n = refl
scalar_short s.U64 n = refl
scalar_short s.Four n = refl
scalar_short s.Eight n = refl

-- each value has a byte
value_short : (t : Shape) (n : ℕ) → HasParts t → value_at n t [] ≡ Err (Short (place n []))
value_short (Plain k) n has = scalar_short k n
value_short (Sequence t) n has = refl
value_short (Set t) n has = refl
value_short (Mapping k t) n has = refl
value_short (Tuple none) n has = absurd has
value_short (Tuple (more t ts)) n has = rw (value_short t n has.0) refl
value_short (Variant ts) n has = refl

-- ---- what was read is read again before other bytes

abbrev HaltsAt : Shape → Type 0
HaltsAt t = (total : ℕ) (bytes : List ℕ) (fault : AuxFault) → IsBytes bytes → value_at total t bytes ≡ Err fault → Halts (λ n b. value_at n t b) total bytes fault

module _ (t : Shape) (total : ℕ) (bytes : List ℕ) (fits : IsBytes bytes) (x : Value × List ℕ) (is : value_at total t bytes ≡ Ok x) where
  taken : TakesValue t bytes x
  taken = value_takes total t bytes x fits is

  again : (other : List ℕ) (n : ℕ) → value_at n t (spelling t x.0 ++ other) ≡ Ok (x.0, other)
  again other n = value_again n t x.0 other taken.1

  again_before : (behind : List ℕ) (n : ℕ) → value_at n t (bytes ++ behind) ≡ Ok (x.0, x.1 ++ behind)
  again_before behind n =
      let whole : bytes ++ behind ≡ spelling t x.0 ++ (x.1 ++ behind) = ap (λ (b : List ℕ). b ++ behind) taken.0.parts ∙ append_assoc (spelling t x.0) x.1 behind in
      ap (value_at n t) whole ∙ again (x.1 ++ behind) n

-- ---- members

module _ (t : Shape) (has : HasParts t) (halts : HaltsAt t) where
  abbrev after_member : ℕ → ℕ → List ℕ → Value × List ℕ → Read Values
  after_member k n b x = members (value_at n t) k x.1 >>= λ xs. Ok (v.more x.0 xs.0, xs.1)

  members_halt : (k total : ℕ) (bytes : List ℕ) (fault : AuxFault) → IsBytes bytes → members (value_at total t) k bytes ≡ Err fault → Halts (λ n b. members (value_at n t) k b) total bytes fault
  unfolding members
  members_halt zero total bytes fault fits e = absurd (no_value (v.none, bytes) fault e)
  members_halt (suc k) total bytes fault fits e =
      elim (bind_err (value_at total t bytes) (after_member k total bytes) fault e) [
        | inl h ↦ first_halts (λ n b. value_at n t b) (after_member k) total bytes fault (halts total bytes fault fits h)
        | inr h ↦
            let p = taken t total bytes fits h.0 h.1 in
            elim (bind_err (members (value_at total t) k h.0.1) (λ xs. Ok (v.more h.0.0 xs.0, xs.1)) fault h.2) [
              | inl j ↦
                  second_halts (λ n b. value_at n t b) (after_member k) (λ b. (h.0.0, b)) (spelling t h.0.0) h.0.1 bytes total fault p.0.parts (again t total bytes fits h.0 h.1)
                  (mapped (λ n b. members (value_at n t) k b) (λ xs. (v.more h.0.0 xs.0, xs.1)) total h.0.1 fault (members_halt k total h.0.1 fault p.0.left j))
              | inr j ↦ absurd (no_value (v.more h.0.0 j.0.0, j.0.1) fault j.2)
            ]
      ]

  -- ---- one that equals an earlier one

  module _ {B : Type 0} (next : ℕ → List ℕ → Value × List ℕ → Read B) (seen : List (List ℕ)) where
    abbrev unless_twice : ℕ → List ℕ → Value × List ℕ → Read B
    unless_twice n b x = unless_seen n seen (spelling t x.0) b (next n b x)

    distinct_value_halts : (total : ℕ) (bytes : List ℕ) (fault : AuxFault) → IsBytes bytes
        → ((x : Value × List ℕ) → TakesValue t bytes x → next total bytes x ≡ Err fault → Halts (λ n b. next n (spelling t x.0 ++ b) (x.0, b)) total x.1 fault)
        → (value_at total t bytes >>= unless_twice total bytes) ≡ Err fault → Halts (λ n b. value_at n t b >>= unless_twice n b) total bytes fault
    distinct_value_halts total bytes fault fits others e =
        elim (bind_err (value_at total t bytes) (unless_twice total bytes) fault e) [
          | inl h ↦ first_halts (λ n b. value_at n t b) unless_twice total bytes fault (halts total bytes fault fits h)
          | inr h ↦
              let p = taken t total bytes fits h.0 h.1 in
              elim (chosen (list_any (bytes_eq (spelling t h.0.0)) seen) (Err (Duplicate (place total bytes))) (next total bytes h.0) (Err fault) h.2) [
                | inl j ↦ record {
                  front = [];
                  rest = bytes;
                  parts = refl;
                  kind = Duplicate;
                  placed = λ n. refl;
                  of_value = λ n. tt;
                  at = sym (err_is {A = B × List ℕ} (Duplicate (place total bytes)) fault j.1);
                  short = λ n. rw (value_short t n has) refl;
                  stays = λ final behind n. rw (again_before t total bytes fits h.0 h.1 behind n, j.0) refl;
                }
                | inr j ↦
                    second_halts (λ n b. value_at n t b) unless_twice (λ b. (h.0.0, b)) (spelling t h.0.0) h.0.1 bytes total fault p.0.parts (again t total bytes fits h.0 h.1)
                    (same_reader (λ n b. next n (spelling t h.0.0 ++ b) (h.0.0, b)) (λ n b. unless_twice n (spelling t h.0.0 ++ b) (h.0.0, b)) total h.0.1 fault (λ n b. rw j.0 refl) (others h.0 p j.1))
              ]
        ]

  abbrev after_distinct : List (List ℕ) → ℕ → ℕ → List ℕ → Value × List ℕ → Read Values
  after_distinct seen k n b x = distinct n (value_at n t) (spelling t) (spelling t x.0 ∷ seen) k x.1 >>= λ xs. Ok (v.more x.0 xs.0, xs.1)

  distinct_halt : (k total : ℕ) (seen : List (List ℕ)) (bytes : List ℕ) (fault : AuxFault) → IsBytes bytes → distinct total (value_at total t) (spelling t) seen k bytes ≡ Err fault → Halts (λ n b. distinct n (value_at n t) (spelling t) seen k b) total bytes fault
  unfolding distinct
  distinct_halt zero total seen bytes fault fits e = absurd (no_value (v.none, bytes) fault e)
  distinct_halt (suc k) total seen bytes fault fits e =
      distinct_value_halts (after_distinct seen k) seen total bytes fault fits (λ x p f.
      elim (bind_err (distinct total (value_at total t) (spelling t) (spelling t x.0 ∷ seen) k x.1) (λ xs. Ok (v.more x.0 xs.0, xs.1)) fault f) [
        | inl h ↦ mapped (λ n b. distinct n (value_at n t) (spelling t) (spelling t x.0 ∷ seen) k b) (λ xs. (v.more x.0 xs.0, xs.1)) total x.1 fault (distinct_halt k total (spelling t x.0 ∷ seen) x.1 fault p.0.left h)
        | inr h ↦ absurd (no_value (v.more x.0 h.0.0, h.0.1) fault h.2)
      ]) e

-- ---- entries

module _ (key t : Shape) (has_key : HasParts key) (has : HasParts t) (halts_key : HaltsAt key) (halts : HaltsAt t) where
  abbrev read_pairs : List (List ℕ) → ℕ → ℕ → List ℕ → Read Entries
  read_pairs seen k n b = pairs n (value_at n key) (spelling key) (value_at n t) seen k b

  abbrev after_value : List (List ℕ) → ℕ → Value → ℕ → List ℕ → Value × List ℕ → Read Entries
  after_value seen k x n b y = read_pairs (spelling key x ∷ seen) k n y.1 >>= λ es. Ok (entry x y.0 es.0, es.1)

  abbrev after_key : List (List ℕ) → ℕ → ℕ → List ℕ → Value × List ℕ → Read Entries
  after_key seen k n b x = value_at n t x.1 >>= after_value seen k x.0 n x.1

  pairs_halt : (k total : ℕ) (seen : List (List ℕ)) (bytes : List ℕ) (fault : AuxFault) → IsBytes bytes → read_pairs seen k total bytes ≡ Err fault → Halts (read_pairs seen k) total bytes fault
  unfolding pairs
  pairs_halt zero total seen bytes fault fits e = absurd (no_value (no_entry, bytes) fault e)
  pairs_halt (suc k) total seen bytes fault fits e =
      distinct_value_halts key has_key halts_key (after_key seen k) seen total bytes fault fits (λ x p f.
      elim (bind_err (value_at total t x.1) (after_value seen k x.0 total x.1) fault f) [
        | inl h ↦ first_halts (λ n b. value_at n t b) (after_value seen k x.0) total x.1 fault (halts total x.1 fault p.0.left h)
        | inr h ↦
            let q = taken t total x.1 p.0.left h.0 h.1 in
            elim (bind_err (read_pairs (spelling key x.0 ∷ seen) k total h.0.1) (λ es. Ok (entry x.0 h.0.0 es.0, es.1)) fault h.2) [
              | inl j ↦
                  second_halts (λ n b. value_at n t b) (after_value seen k x.0) (λ b. (h.0.0, b)) (spelling t h.0.0) h.0.1 x.1 total fault q.0.parts (again t total x.1 p.0.left h.0 h.1)
                  (mapped (read_pairs (spelling key x.0 ∷ seen) k) (λ es. (entry x.0 h.0.0 es.0, es.1)) total h.0.1 fault (pairs_halt k total (spelling key x.0 ∷ seen) h.0.1 fault q.0.left j))
              | inr j ↦ absurd (no_value (entry x.0 h.0.0 j.0.0, j.0.1) fault j.2)
            ]
      ]) e

-- ---- a value of any type

module _ {A B : Type 0} (read : ℕ → ℕ → List ℕ → Read A) (made : ℕ → A → B) (total : ℕ) (bytes : List ℕ) (fault : AuxFault) (fits : IsBytes bytes) where
  abbrev after_number : ℕ → List ℕ → ℕ × List ℕ → Read B
  after_number n b m = read m.0 n m.1 >>= λ x. Ok (made m.0 x.0, x.1)

  -- a count, and what is counted
  counted_halts : ((m : ℕ) (left : List ℕ) → IsBytes left → read m total left ≡ Err fault → Halts (read m) total left fault)
      → (number total w64 bytes >>= after_number total bytes) ≡ Err fault → Halts (λ n b. number n w64 b >>= after_number n b) total bytes fault
  counted_halts halts e =
      elim (bind_err (number total w64 bytes) (after_number total bytes) fault e) [
        | inl h ↦ first_halts (λ n b. number n w64 b) after_number total bytes fault (number_halts total w64 bytes fault h)
        | inr h ↦
            let p = number_takes total w64 (2 ^ 64) wide64 bytes h.0 fits h.1 in
            elim (bind_err (read h.0.0 total h.0.1) (λ x. Ok (made h.0.0 x.0, x.1)) fault h.2) [
              | inl j ↦
                  second_halts (λ n b. number n w64 b) after_number (λ b. (h.0.0, b)) (to_le_bytes w64 h.0.0) h.0.1 bytes total fault p.0.parts (λ other n. number_again n w64 (2 ^ 64) wide64 h.0.0 other p.1)
                  (mapped (read h.0.0) (λ x. (made h.0.0 x.0, x.1)) total h.0.1 fault (halts h.0.0 h.0.1 p.0.left j))
              | inr j ↦ absurd (no_value (made h.0.0 j.0.0, j.0.1) fault j.2)
            ]
      ]

-- the part of an index halts, or there is none of this index
abbrev ChosenHalts : Shapes → ℕ → ℕ → List ℕ → AuxFault → Type 0
ChosenHalts ts i total bytes fault =
    ((t : Shape) × HaltsAt t × ((n index_place : ℕ) (b : List ℕ) → chosen_at n ts i index_place b ≡ value_at n t b)) ⊎ ((n index_place : ℕ) (b : List ℕ) → chosen_at n ts i index_place b ≡ Err (BadVariant index_place))

abbrev chosen_as : ℕ → Value × List ℕ → Read Value
chosen_as i x = Ok (Choice i x.0, x.1)

abbrev after_index : Shapes → ℕ → List ℕ → ℕ × List ℕ → Read Value
after_index ts n b i = chosen_at n ts i.0 (place n b) i.1 >>= chosen_as i.0

module _ (ts : Shapes) (total : ℕ) (bytes : List ℕ) (fault : AuxFault) (fits : IsBytes bytes) where
  variant_halts : ((i : ℕ) → ChosenHalts ts i total bytes fault) → (number total w64 bytes >>= after_index ts total bytes) ≡ Err fault → Halts (λ n b. number n w64 b >>= after_index ts n b) total bytes fault
  variant_halts part e =
      elim (bind_err (number total w64 bytes) (after_index ts total bytes) fault e) [
        | inl h ↦ first_halts (λ n b. number n w64 b) (after_index ts) total bytes fault (number_halts total w64 bytes fault h)
        | inr h ↦
            let p = number_takes total w64 (2 ^ 64) wide64 bytes h.0 fits h.1 in
            elim (part h.0.0) [
              | inl c ↦
                  elim (bind_err (value_at total c.0 h.0.1) (chosen_as h.0.0) fault (rw (← c.2 total (place total bytes) h.0.1) h.2)) [
                    | inl j ↦
                        second_halts (λ n b. number n w64 b) (after_index ts) (λ b. (h.0.0, b)) (to_le_bytes w64 h.0.0) h.0.1 bytes total fault p.0.parts (λ other n. number_again n w64 (2 ^ 64) wide64 h.0.0 other p.1)
                        (same_reader (λ n b. value_at n c.0 b >>= chosen_as h.0.0) (λ n b. after_index ts n (to_le_bytes w64 h.0.0 ++ b) (h.0.0, b)) total h.0.1 fault (λ n b. rw (c.2 n (place n (to_le_bytes w64 h.0.0 ++ b)) b) refl)
                        (first_halts (λ n b. value_at n c.0 b) (λ n b x. chosen_as h.0.0 x) total h.0.1 fault (c.1 total h.0.1 fault p.0.left j)))
                    | inr j ↦ absurd (no_value (Choice h.0.0 j.0.0, j.0.1) fault j.2)
                  ]
              | inr c ↦
                  let missing = c total (place total bytes) h.0.1 in record {
                    front = [];
                    rest = bytes;
                    parts = refl;
                    kind = BadVariant;
                    placed = λ n. refl;
                    of_value = λ n. tt;
                    at = sym (err_is {A = Value × List ℕ} (BadVariant (place total bytes)) fault (rw missing at h.2));
                    short = λ n. refl;
                    stays = λ final behind n.
                        let whole : bytes ++ behind ≡ to_le_bytes w64 h.0.0 ++ (h.0.1 ++ behind) = ap (λ (b : List ℕ). b ++ behind) p.0.parts ∙ append_assoc (to_le_bytes w64 h.0.0) h.0.1 behind in
                        let again : number n w64 (bytes ++ behind) ≡ Ok (h.0.0, h.0.1 ++ behind) = ap (number n w64) whole ∙ number_again n w64 (2 ^ 64) wide64 h.0.0 (h.0.1 ++ behind) p.1 in
                        rw (again, c n (place n (bytes ++ behind)) (h.0.1 ++ behind)) refl;
                  }
            ]
      ]

abbrev after_part_of : Shapes → ℕ → List ℕ → Value × List ℕ → Read Values
after_part_of ts n b x = parts_at n ts x.1 >>= λ xs. Ok (v.more x.0 xs.0, xs.1)

some_have : (ts : Shapes) → SomeHaveParts ts → AllHaveParts ts
some_have none h = absurd h
some_have (more t ts) h = h

mutual
  pub value_halts : (t : Shape) → HasParts t → HaltsAt t
  value_halts (Plain k) has total bytes fault fits e = scalar_halts total k bytes fault fits e
  value_halts (Sequence t) has total bytes fault fits e =
      counted_halts (λ m n b. members (value_at n t) m b) (λ m xs. Many xs) total bytes fault fits (λ m left fits_left f. members_halt t has (value_halts t has) m total left fault fits_left f) e
  value_halts (Set t) has total bytes fault fits e =
      counted_halts (λ m n b. distinct n (value_at n t) (spelling t) [] m b) (λ m xs. Many xs) total bytes fault fits (λ m left fits_left f. distinct_halt t has (value_halts t has) m total [] left fault fits_left f) e
  value_halts (Mapping k t) has total bytes fault fits e =
      counted_halts (λ m n b. pairs n (value_at n k) (spelling k) (value_at n t) [] m b) (λ m es. Pairs es) total bytes fault fits
      (λ m left fits_left f. pairs_halt k t has.0 has.1 (value_halts k has.0) (value_halts t has.1) m total [] left fault fits_left f) e
  value_halts (Tuple ts) has total bytes fault fits e =
      elim (bind_err (parts_at total ts bytes) (λ xs. Ok (Parts xs.0, xs.1)) fault e) [
        | inl h ↦ mapped (λ n b. parts_at n ts b) (λ xs. (Parts xs.0, xs.1)) total bytes fault (parts_halt ts (some_have ts has) total bytes fault fits h)
        | inr h ↦ absurd (no_value (Parts h.0.0, h.0.1) fault h.2)
      ]
  value_halts (Variant ts) has total bytes fault fits e = variant_halts ts total bytes fault fits (λ i. chosen_halt ts (some_have ts has) i total bytes fault) e

  parts_halt : (ts : Shapes) → AllHaveParts ts → (total : ℕ) (bytes : List ℕ) (fault : AuxFault) → IsBytes bytes → parts_at total ts bytes ≡ Err fault → Halts (λ n b. parts_at n ts b) total bytes fault
  parts_halt none has total bytes fault fits e = absurd (no_value (v.none, bytes) fault e)
  parts_halt (more t ts) has total bytes fault fits e =
      elim (bind_err (value_at total t bytes) (after_part_of ts total bytes) fault e) [
        | inl h ↦ first_halts (λ n b. value_at n t b) (after_part_of ts) total bytes fault (value_halts t has.0 total bytes fault fits h)
        | inr h ↦
            let p = taken t total bytes fits h.0 h.1 in
            elim (bind_err (parts_at total ts h.0.1) (λ xs. Ok (v.more h.0.0 xs.0, xs.1)) fault h.2) [
              | inl j ↦
                  second_halts (λ n b. value_at n t b) (after_part_of ts) (λ b. (h.0.0, b)) (spelling t h.0.0) h.0.1 bytes total fault p.0.parts (again t total bytes fits h.0 h.1)
                  (mapped (λ n b. parts_at n ts b) (λ xs. (v.more h.0.0 xs.0, xs.1)) total h.0.1 fault (parts_halt ts has.1 total h.0.1 fault p.0.left j))
              | inr j ↦ absurd (no_value (v.more h.0.0 j.0.0, j.0.1) fault j.2)
            ]
      ]

  chosen_halt : (ts : Shapes) → AllHaveParts ts → (i total : ℕ) (bytes : List ℕ) (fault : AuxFault) → ChosenHalts ts i total bytes fault
  chosen_halt none has i total bytes fault = inr (λ n index_place b. refl)
  chosen_halt (more t ts) has zero total bytes fault = inl (t, value_halts t has.0, λ n index_place b. refl)
  chosen_halt (more t ts) has (suc i) total bytes fault = chosen_halt ts has.1 i total bytes fault
