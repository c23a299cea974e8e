-- Reading members, entries or parts one after another, as a loop does.
use Rattle.std.proofs.Common.{◌≡◌, ℕ, zero, suc, ◌+◌, ◌-◌, ◌≤◌, ◌<◌, Bool, true, false, ◌||◌, cond, List, [], ◌∷◌, ◌++◌, length, take, drop, map, Result, Ok, Err, refl, sym, ap, subst, ◌∙◌, ◌⊎◌, inl, inr, arith}
use Rattle.std.specs.Prelude.{not}
use Rattle.std.specs.List.{list_any}
use Rattle.std.specs.Str.{bytes_eq}
use Rattle.gr_base.specs.declared.end.End.{End}
use Rattle.gr_base.specs.declared.end.End.TheVariants as ends
use Rattle.gr_base.specs.declared.aux_fault.AuxFault.{AuxFault}
use Rattle.gr_base.specs.declared.aux_fault.AuxFault.TheVariants.{Duplicate}
use Rattle.aux_types.specs.declared.aux_type.AuxType.{AuxType}
use Rattle.aux_types.specs.Gives.{◌>>=◌, Fails}
use Rattle.aux_types.specs.Shape.{Shape, Shapes, none, more, shapes, shape_of}
use Rattle.aux_codec.specs.Value.{Value, Values, values, Entries, no_entry, entry, entries}
use Rattle.aux_codec.specs.Value as v
use Rattle.aux_codec.specs.Reading.{Read, place, members, unless_seen, fresh_at, distinct, pairs, value_at, parts_at}
use Rattle.aux_codec.proofs.Units.{IsBytes, err_is, no_value}

pub not_false : (b : Bool) → not b ≡ false → b ≡ true
not_false true e = refl
not_false false e = absurd cc

pub not_true : (b : Bool) → not b ≡ true → b ≡ false
not_true true e = absurd cc
not_true false e = refl

-- a step that fails fails what goes on from it
pub fails_on : {A B : Type 0} (e : End AuxFault) (r : Result A AuxFault) (f : A → Result B AuxFault) → Fails e r → Fails e (r >>= f)
fails_on ends.Memory r f h = tt
fails_on (ends.Fault d) r f h = rw h refl

-- ---- what was read before

-- values before others
abbrev pub prepend : List Value → Values → Values
prepend [] ys = ys
prepend (x ∷ xs) ys = v.more x (prepend xs ys)

-- what was read before, and what is still read
abbrev pub with_front : List Value → Read Values → Read Values
with_front front read = read >>= λ x. Ok (prepend front x.0, x.1)

prepend-none : (xs : List Value) → prepend xs v.none ≡ values xs
prepend-none [] = refl
prepend-none (x ∷ xs) = ap (v.more x) (prepend-none xs)

prepend-push : (xs : List Value) (y : Value) (ys : Values) → prepend xs (v.more y ys) ≡ prepend (xs ++ y ∷ []) ys
prepend-push [] y ys = refl
prepend-push (x ∷ xs) y ys = ap (v.more x) (prepend-push xs y ys)

with_front-more : (front : List Value) (y : Value) (read : Read Values) → with_front front (read >>= λ ys. Ok (v.more y ys.0, ys.1)) ≡ with_front (front ++ y ∷ []) read
with_front-more front y (Ok x) = ap (λ (ys : Values). Ok (ys, x.1)) (prepend-push front y x.0)
with_front-more front y (Err e) = refl

with_front-done : (front : List Value) (rest : List ℕ) → with_front front (Ok (v.none, rest)) ≡ Ok (values front, rest)
with_front-done front rest = ap (λ (ys : Values). Ok (ys, rest)) (prepend-none front)

pub with_front-nil : (read : Read Values) → with_front [] read ≡ read
with_front-nil (Ok x) = refl
with_front-nil (Err e) = refl

-- entries before others
abbrev pub prepend_entries : List (Value × Value) → Entries → Entries
prepend_entries [] es = es
prepend_entries (x ∷ xs) es = entry x.0 x.1 (prepend_entries xs es)

abbrev pub with_entries : List (Value × Value) → Read Entries → Read Entries
with_entries front read = read >>= λ x. Ok (prepend_entries front x.0, x.1)

prepend_entries-none : (xs : List (Value × Value)) → prepend_entries xs no_entry ≡ entries xs
prepend_entries-none [] = refl
prepend_entries-none (x ∷ xs) = ap (entry x.0 x.1) (prepend_entries-none xs)

prepend_entries-push : (xs : List (Value × Value)) (k y : Value) (es : Entries) → prepend_entries xs (entry k y es) ≡ prepend_entries (xs ++ (k, y) ∷ []) es
prepend_entries-push [] k y es = refl
prepend_entries-push (x ∷ xs) k y es = ap (entry x.0 x.1) (prepend_entries-push xs k y es)

with_entries-more : (front : List (Value × Value)) (k y : Value) (read : Read Entries) → with_entries front (read >>= λ es. Ok (entry k y es.0, es.1)) ≡ with_entries (front ++ (k, y) ∷ []) read
with_entries-more front k y (Ok x) = ap (λ (es : Entries). Ok (es, x.1)) (prepend_entries-push front k y x.0)
with_entries-more front k y (Err e) = refl

pub with_entries-nil : (read : Read Entries) → with_entries [] read ≡ read
with_entries-nil (Ok x) = refl
with_entries-nil (Err e) = refl

-- ---- members

module _ (inner : List ℕ → Read Value) (front : List Value) (count i : ℕ) (rest : List ℕ) (known : Read Values) (so_far : with_front front (members inner (count - i) rest) ≡ known) where
  pub members_fail : (e : End AuxFault) → i < count → Fails e (inner rest) → Fails e known
  unfolding members
  members_fail ends.Memory lt h = tt
  members_fail (ends.Fault f) lt h =
      let k : count - i ≡ suc (count - (i + 1)) = omega arith in
      let one : with_front front (members inner (count - i) rest) ≡ Err f = rw (k, h) refl in
      sym so_far ∙ one

  pub members_go_on : (x : Value) (after : List ℕ) → i < count → inner rest ≡ Ok (x, after) → with_front (front ++ x ∷ []) (members inner (count - (i + 1)) after) ≡ known
  unfolding members
  members_go_on x after lt h =
      let k : count - i ≡ suc (count - (i + 1)) = omega arith in
      let one : with_front front (members inner (count - i) rest) ≡ with_front (front ++ x ∷ []) (members inner (count - (i + 1)) after) = rw (k, h) (with_front-more front x (members inner (count - (i + 1)) after)) in
      sym one ∙ so_far

  pub members_done : count ≤ i → known ≡ Ok (values front, rest)
  unfolding members
  members_done le =
      let k : count - i ≡ 0 = omega arith in
      let one : with_front front (members inner (count - i) rest) ≡ Ok (values front, rest) = rw k (with_front-done front rest) in
      sym so_far ∙ one

-- ---- values that weren't seen

module _ (total : ℕ) (inner : List ℕ → Read Value) (spell : Value → List ℕ) (seen : List (List ℕ)) (bytes : List ℕ) where
  abbrev Fresh : Value × List ℕ → Type 0
  Fresh x = (inner bytes ≡ Ok x) × (list_any (bytes_eq (spell x.0)) seen ≡ false)

  fresh_test : (x : Value × List ℕ) (b : Bool) → inner bytes ≡ Ok x → list_any (bytes_eq (spell x.0)) seen ≡ b → (y : Value × List ℕ) → cond b (Err (Duplicate (place total bytes))) (Ok x) ≡ Ok y → Fresh y
  fresh_test x true is there y e = absurd cc
  fresh_test x false is there y e = let same : x ≡ y = cc in subst Fresh same (is, there)

  fresh_from : (r : Read Value) → inner bytes ≡ r → (y : Value × List ℕ) → (r >>= λ x. unless_seen total seen (spell x.0) bytes (Ok x)) ≡ Ok y → Fresh y
  fresh_from (Ok x) is y e = fresh_test x (list_any (bytes_eq (spell x.0)) seen) is refl y e
  fresh_from (Err f) is y e = absurd cc

  pub fresh_ok : (y : Value × List ℕ) → fresh_at total inner spell seen bytes ≡ Ok y → Fresh y
  fresh_ok y e = fresh_from (inner bytes) refl y e

  -- the fault of the value, or that of one that was seen
  abbrev Refused : AuxFault → Type 0
  Refused f = (inner bytes ≡ Err f) ⊎ ((x : Value × List ℕ) × (inner bytes ≡ Ok x) × (list_any (bytes_eq (spell x.0)) seen ≡ true) × (Duplicate (place total bytes) ≡ f))

  twice_test : (x : Value × List ℕ) (b : Bool) → inner bytes ≡ Ok x → list_any (bytes_eq (spell x.0)) seen ≡ b → (f : AuxFault) → cond b (Err (Duplicate (place total bytes))) (Ok x) ≡ Err f → Refused f
  twice_test x true is there f e = inr (x, is, there, err_is {A = Value × List ℕ} (Duplicate (place total bytes)) f e)
  twice_test x false is there f e = absurd (no_value x f e)

  twice_from : (r : Read Value) → inner bytes ≡ r → (f : AuxFault) → (r >>= λ x. unless_seen total seen (spell x.0) bytes (Ok x)) ≡ Err f → Refused f
  twice_from (Ok x) is f e = twice_test x (list_any (bytes_eq (spell x.0)) seen) is refl f e
  twice_from (Err g) is f e = inl (is ∙ e)

  pub fresh_err : (f : AuxFault) → fresh_at total inner spell seen bytes ≡ Err f → Refused f
  fresh_err f e = twice_from (inner bytes) refl f e

-- ---- members of a set, with an index of their bytes

-- the index has what the list has
abbrev pub HasSame : List (List ℕ) → List (List ℕ) → Type 0
HasSame index seen = (q : List ℕ) → list_any (bytes_eq q) index ≡ list_any (bytes_eq q) seen

pub HasSame-add : (index new seen : List (List ℕ)) (bytes : List ℕ) → ((q : List ℕ) → list_any (bytes_eq q) new ≡ (bytes_eq q bytes || list_any (bytes_eq q) index)) → HasSame index seen → HasSame new (bytes ∷ seen)
HasSame-add index new seen bytes has same q = has q ∙ ap (λ (b : Bool). bytes_eq q bytes || b) (same q)

module _ (total : ℕ) (inner : List ℕ → Read Value) (spell : Value → List ℕ) where
  -- with the members that are left, those so far are all, and the index has their bytes
  pub record IsLeft (index : List (List ℕ)) (front : List Value) (n : ℕ) (rest : List ℕ) (known : Read Values) : Type 0 where
    pub fits : IsBytes rest
    pub seen : List (List ℕ)
    pub same : HasSame index seen
    pub so_far : with_front front (distinct total inner spell seen n rest) ≡ known

  pub distinct_starts : (n : ℕ) (bytes : List ℕ) → IsBytes bytes → IsLeft [] [] n bytes (distinct total inner spell [] n bytes)
  distinct_starts n bytes fits = record { fits = fits; seen = []; same = λ q. refl; so_far = with_front-nil (distinct total inner spell [] n bytes) }

  module _ (index : List (List ℕ)) (front : List Value) (count i : ℕ) (rest : List ℕ) (known : Read Values) (left : IsLeft index front (count - i) rest known) where
    pub distinct_fail : (e : End AuxFault) → i < count → Fails e (inner rest) → Fails e known
    unfolding distinct
    distinct_fail ends.Memory lt h = tt
    distinct_fail (ends.Fault f) lt h =
        let k : count - i ≡ suc (count - (i + 1)) = omega arith in
        let one : with_front front (distinct total inner spell left.seen (count - i) rest) ≡ Err f = rw (k, h) refl in
        sym left.so_far ∙ one

    pub distinct_twice : (x : Value) (after : List ℕ) → i < count → inner rest ≡ Ok (x, after) → list_any (bytes_eq (spell x)) index ≡ true → known ≡ Err (Duplicate (place total rest))
    unfolding distinct
    distinct_twice x after lt h there =
        let k : count - i ≡ suc (count - (i + 1)) = omega arith in
        let again : list_any (bytes_eq (spell x)) left.seen ≡ true = sym (left.same (spell x)) ∙ there in
        let one : with_front front (distinct total inner spell left.seen (count - i) rest) ≡ Err (Duplicate (place total rest)) = rw (k, h, again) refl in
        sym left.so_far ∙ one

    pub distinct_go_on : (x : Value) (after : List ℕ) (new : List (List ℕ)) → i < count → IsBytes after → inner rest ≡ Ok (x, after) → list_any (bytes_eq (spell x)) index ≡ false
        → ((q : List ℕ) → list_any (bytes_eq q) new ≡ (bytes_eq q (spell x) || list_any (bytes_eq q) index)) → IsLeft new (front ++ x ∷ []) (count - (i + 1)) after known
    unfolding distinct
    distinct_go_on x after new lt fits h there has =
        let k : count - i ≡ suc (count - (i + 1)) = omega arith in
        let fresh : list_any (bytes_eq (spell x)) left.seen ≡ false = sym (left.same (spell x)) ∙ there in
        let one : with_front front (distinct total inner spell left.seen (count - i) rest) ≡ with_front (front ++ x ∷ []) (distinct total inner spell (spell x ∷ left.seen) (count - (i + 1)) after) =
        rw (k, h, fresh) (with_front-more front x (distinct total inner spell (spell x ∷ left.seen) (count - (i + 1)) after)) in
        record { fits = fits; seen = spell x ∷ left.seen; same = HasSame-add index new left.seen (spell x) has left.same; so_far = sym one ∙ left.so_far }

    pub distinct_refused : (e : End AuxFault) → i < count → Fails e (fresh_at total inner spell index rest) → Fails e known
    distinct_refused ends.Memory lt h = tt
    distinct_refused (ends.Fault f) lt h =
        elim (fresh_err total inner spell index rest f h) [
          | inl e ↦ distinct_fail (ends.Fault f) lt e
          | inr e ↦ distinct_twice e.0.0 e.0.1 lt e.1 e.2 ∙ ap (λ (g : AuxFault). Err g) e.3
        ]

    pub distinct_done : count ≤ i → known ≡ Ok (values front, rest)
    unfolding distinct
    distinct_done le =
        let k : count - i ≡ 0 = omega arith in
        let one : with_front front (distinct total inner spell left.seen (count - i) rest) ≡ Ok (values front, rest) = rw k (with_front-done front rest) in
        sym left.so_far ∙ one

-- ---- entries of a mapping, with an index of their keys' bytes

module _ (total : ℕ) (key : List ℕ → Read Value) (spell : Value → List ℕ) (inner : List ℕ → Read Value) where
  -- with the entries that are left, those so far are all, and the index has their keys' bytes
  pub record AreLeft (index : List (List ℕ)) (front : List (Value × Value)) (n : ℕ) (rest : List ℕ) (known : Read Entries) : Type 0 where
    pub fits : IsBytes rest
    pub seen : List (List ℕ)
    pub same : HasSame index seen
    pub so_far : with_entries front (pairs total key spell inner seen n rest) ≡ known

  pub pairs_start : (n : ℕ) (bytes : List ℕ) → IsBytes bytes → AreLeft [] [] n bytes (pairs total key spell inner [] n bytes)
  pairs_start n bytes fits = record { fits = fits; seen = []; same = λ q. refl; so_far = with_entries-nil (pairs total key spell inner [] n bytes) }

  module _ (index : List (List ℕ)) (front : List (Value × Value)) (count i : ℕ) (rest : List ℕ) (known : Read Entries) (left : AreLeft index front (count - i) rest known) where
    pub pairs_fail : (e : End AuxFault) → i < count → Fails e (key rest) → Fails e known
    unfolding pairs
    pairs_fail ends.Memory lt h = tt
    pairs_fail (ends.Fault f) lt h =
        let k : count - i ≡ suc (count - (i + 1)) = omega arith in
        let one : with_entries front (pairs total key spell inner left.seen (count - i) rest) ≡ Err f = rw (k, h) refl in
        sym left.so_far ∙ one

    pub pairs_twice : (x : Value) (after : List ℕ) → i < count → key rest ≡ Ok (x, after) → list_any (bytes_eq (spell x)) index ≡ true → known ≡ Err (Duplicate (place total rest))
    unfolding pairs
    pairs_twice x after lt h there =
        let k : count - i ≡ suc (count - (i + 1)) = omega arith in
        let again : list_any (bytes_eq (spell x)) left.seen ≡ true = sym (left.same (spell x)) ∙ there in
        let one : with_entries front (pairs total key spell inner left.seen (count - i) rest) ≡ Err (Duplicate (place total rest)) = rw (k, h, again) refl in
        sym left.so_far ∙ one

    pub pairs_refused : (e : End AuxFault) → i < count → Fails e (fresh_at total key spell index rest) → Fails e known
    pairs_refused ends.Memory lt h = tt
    pairs_refused (ends.Fault f) lt h =
        elim (fresh_err total key spell index rest f h) [
          | inl e ↦ pairs_fail (ends.Fault f) lt e
          | inr e ↦ pairs_twice e.0.0 e.0.1 lt e.1 e.2 ∙ ap (λ (g : AuxFault). Err g) e.3
        ]

    pub pairs_value_fail : (x : Value) (after : List ℕ) (e : End AuxFault) → i < count → key rest ≡ Ok (x, after) → list_any (bytes_eq (spell x)) index ≡ false → Fails e (inner after) → Fails e known
    unfolding pairs
    pairs_value_fail x after ends.Memory lt h there j = tt
    pairs_value_fail x after (ends.Fault f) lt h there j =
        let k : count - i ≡ suc (count - (i + 1)) = omega arith in
        let fresh : list_any (bytes_eq (spell x)) left.seen ≡ false = sym (left.same (spell x)) ∙ there in
        let one : with_entries front (pairs total key spell inner left.seen (count - i) rest) ≡ Err f = rw (k, h, fresh, j) refl in
        sym left.so_far ∙ one

    pub pairs_go_on : (x : Value) (after : List ℕ) (y : Value) (then : List ℕ) (new : List (List ℕ)) → i < count → IsBytes then → key rest ≡ Ok (x, after) → list_any (bytes_eq (spell x)) index ≡ false
        → inner after ≡ Ok (y, then) → ((q : List ℕ) → list_any (bytes_eq q) new ≡ (bytes_eq q (spell x) || list_any (bytes_eq q) index)) → AreLeft new (front ++ (x, y) ∷ []) (count - (i + 1)) then known
    unfolding pairs
    pairs_go_on x after y then new lt fits h there j has =
        let k : count - i ≡ suc (count - (i + 1)) = omega arith in
        let fresh : list_any (bytes_eq (spell x)) left.seen ≡ false = sym (left.same (spell x)) ∙ there in
        let one : with_entries front (pairs total key spell inner left.seen (count - i) rest) ≡ with_entries (front ++ (x, y) ∷ []) (pairs total key spell inner (spell x ∷ left.seen) (count - (i + 1)) then) =
        rw (k, h, fresh, j) (with_entries-more front x y (pairs total key spell inner (spell x ∷ left.seen) (count - (i + 1)) then)) in
        record { fits = fits; seen = spell x ∷ left.seen; same = HasSame-add index new left.seen (spell x) has left.same; so_far = sym one ∙ left.so_far }

    pub pairs_done : count ≤ i → known ≡ Ok (entries front, rest)
    unfolding pairs
    pairs_done le =
        let k : count - i ≡ 0 = omega arith in
        let one : with_entries front (pairs total key spell inner left.seen (count - i) rest) ≡ Ok (entries front, rest) = rw k (ap (λ (es : Entries). Ok (es, rest)) (prepend_entries-none front)) in
        sym left.so_far ∙ one

-- ---- parts

module _ (total : ℕ) (front : List Value) (types : List AuxType) (i : ℕ) (rest : List ℕ) (known : Read Values) (so_far : with_front front (parts_at total (shapes (map shape_of (drop i types))) rest) ≡ known) where
  module _ (t : AuxType) (next : drop i types ≡ t ∷ drop (i + 1) types) where
    pub parts_fail : (e : End AuxFault) → Fails e (value_at total (shape_of t) rest) → Fails e known
    parts_fail ends.Memory h = tt
    parts_fail (ends.Fault f) h =
        let one : with_front front (parts_at total (shapes (map shape_of (drop i types))) rest) ≡ Err f = rw (next, h) refl in
        sym so_far ∙ one

    pub parts_go_on : (x : Value) (after : List ℕ) → value_at total (shape_of t) rest ≡ Ok (x, after) → with_front (front ++ x ∷ []) (parts_at total (shapes (map shape_of (drop (i + 1) types))) after) ≡ known
    parts_go_on x after h =
        let one : with_front front (parts_at total (shapes (map shape_of (drop i types))) rest) ≡ with_front (front ++ x ∷ []) (parts_at total (shapes (map shape_of (drop (i + 1) types))) after) =
        rw (next, h) (with_front-more front x (parts_at total (shapes (map shape_of (drop (i + 1) types))) after)) in
        sym one ∙ so_far

  pub parts_done : drop i types ≡ [] → known ≡ Ok (values front, rest)
  parts_done nothing =
      let one : with_front front (parts_at total (shapes (map shape_of (drop i types))) rest) ≡ Ok (values front, rest) = rw nothing (with_front-done front rest) in
      sym so_far ∙ one
