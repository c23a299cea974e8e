-- What memory holds, byte by byte, and the bytes of segments that share no address.
use Rattle.std.proofs.Common.{◌≡◌, ℕ, suc, ◌+◌, ◌-◌, ◌<◌, ◌≤◌, Bool, true, false, Some, List, [], ◌∷◌, ◌++◌, length, refl, sym, ap, subst, ◌∙◌, ◌⊎◌, inl, inr, arith}
use Rattle.std.specs.Prelude.{◌&&◌, nat_le, nat_lt, if◌then◌else◌, slice_index, filter, map}
use Rattle.std.specs.List.{AllByRecursion as Every}
use Rattle.std.proofs.lemmas.Bool.{and_from, cond-true, cond-false, false≢true, le-leb, lt-ltb, le-ltb, lt-leb}
use Rattle.bare_image.specs.declared.image.Segment.{Segment}
use Rattle.bare_image.specs.Valid.{end_of}
use Rattle.paged_memory.specs.Mapping.{Mapping, byte_in}
use Rattle.sym_expr.specs.Images.{put_by_address, by_address}

-- ---- bytes from an address on

-- memory has these bytes from an address on
abbrev pub Holds : Mapping → ℕ → List ℕ → Type 0
Holds m at [] = Unit {0}
Holds m at (b ∷ bs) = (m at ≡ Some b) × Holds m (at + 1) bs

pub holds_at : (m : Mapping) (at other : ℕ) (bs : List ℕ) → at ≡ other → Holds m at bs → Holds m other bs
holds_at m at other bs e h = let P : ℕ → Type 0 = λ a. Holds m a bs in subst P e h

pub holds_each : (m : Mapping) (bs : List ℕ) (at : ℕ) → ((k : ℕ) → k < length bs → m (at + k) ≡ Some (slice_index bs k)) → Holds m at bs
holds_each m [] at h = tt
holds_each m (b ∷ bs) at h =
    let here : at + 0 ≡ at = omega arith in
    let P : ℕ → Type 0 = λ a. m a ≡ Some b in (
      subst P here (h 0 (omega arith)),
      holds_each m bs (at + 1) (λ k lt.
          let next : at + suc k ≡ at + 1 + k = omega arith in
          let Q : ℕ → Type 0 = λ a. m a ≡ Some (slice_index bs k) in
          subst Q next (h (suc k) (omega arith))),
    )

pub holds_front : (m : Mapping) (xs ys : List ℕ) (at : ℕ) → Holds m at (xs ++ ys) → Holds m at xs
holds_front m [] ys at h = tt
holds_front m (x ∷ xs) ys at h = (h.0, holds_front m xs ys (at + 1) h.1)

pub holds_back : (m : Mapping) (xs ys : List ℕ) (at : ℕ) → Holds m at (xs ++ ys) → Holds m (at + length xs) ys
holds_back m [] ys at h = holds_at m at (at + 0) ys (omega arith) h
holds_back m (x ∷ xs) ys at h = holds_at m (at + 1 + length xs) (at + suc (length xs)) ys (omega arith) (holds_back m xs ys (at + 1) h.1)

-- ---- the segment that has an address

-- one of a list
abbrev pub Has : {X : Type 0} → X → List X → Type 0
Has x [] = ⊥
Has x (y ∷ ys) = (y ≡ x) ⊎ Has x ys

has_first : {X : Type 0} (x : X) (xs ys : List X) → Every (λ y. Has y xs) ys → Every (λ y. Has y (x ∷ xs)) ys
has_first x xs [] h = tt
has_first x xs (y ∷ ys) h = (inr h.0, has_first x xs ys h.1)

pub has_each : {X : Type 0} (xs : List X) → Every (λ x. Has x xs) xs
has_each [] = tt
has_each (x ∷ xs) = (inl refl, has_first x xs xs (has_each xs))

pub has_mapped : {X Y : Type 0} (f : X → Y) (x : X) (xs : List X) → Has x xs → Has (f x) (map f xs)
has_mapped f x [] h = absurd h
has_mapped f x (y ∷ ys) (inl e) = inl (ap f e)
has_mapped f x (y ∷ ys) (inr h) = inr (has_mapped f x ys h)

kept : {X : Type 0} (test : X → Bool) (x y : X) (ys : List X) (b : Bool) → test y ≡ b → test x ≡ true → (Has x ys → Has x (filter test ys)) → (y ≡ x) ⊎ Has x ys → Has x (if b then y ∷ filter test ys else filter test ys)
kept test x y ys true is passes rest (inl e) = inl e
kept test x y ys true is passes rest (inr h) = inr (rest h)
kept test x y ys false is passes rest (inl e) = absurd (false≢true (sym is ∙ ap test e ∙ passes))
kept test x y ys false is passes rest (inr h) = rest h

pub has_kept : {X : Type 0} (test : X → Bool) (x : X) (xs : List X) → test x ≡ true → Has x xs → Has x (filter test xs)
has_kept test x [] passes h = absurd h
has_kept test x (y ∷ ys) passes h = kept test x y ys (test y) refl passes (has_kept test x ys passes) h

put_either : (c d x : Segment) (ds : List Segment) (b : Bool) → ((c ≡ x) ⊎ Has x ds → Has x (put_by_address c ds)) → (c ≡ x) ⊎ ((d ≡ x) ⊎ Has x ds) → Has x (if b then d ∷ put_by_address c ds else c ∷ d ∷ ds)
put_either c d x ds true rest (inl e) = inr (rest (inl e))
put_either c d x ds true rest (inr (inl e)) = inl e
put_either c d x ds true rest (inr (inr h)) = inr (rest (inr h))
put_either c d x ds false rest h = h

has_put : (c x : Segment) (ds : List Segment) → (c ≡ x) ⊎ Has x ds → Has x (put_by_address c ds)
has_put c x [] h = h
has_put c x (d ∷ ds) h = put_either c d x ds (nat_lt d.at c.at) (has_put c x ds) h

sorted_either : (c x : Segment) (cs : List Segment) → (Has x cs → Has x (by_address cs)) → (c ≡ x) ⊎ Has x cs → (c ≡ x) ⊎ Has x (by_address cs)
sorted_either c x cs rest (inl e) = inl e
sorted_either c x cs rest (inr h) = inr (rest h)

pub has_sorted : (x : Segment) (cs : List Segment) → Has x cs → Has x (by_address cs)
has_sorted x [] h = h
has_sorted x (c ∷ cs) h = has_put c x (by_address cs) (sorted_either c x cs (has_sorted x cs) h)

every_either : (P : Segment → Type 0) (c d : Segment) (ds : List Segment) (b : Bool) → P c → P d → Every P ds → Every P (put_by_address c ds) → Every P (if b then d ∷ put_by_address c ds else c ∷ d ∷ ds)
every_either P c d ds true h k rest more = (k, more)
every_either P c d ds false h k rest more = (h, (k, rest))

every_put : (P : Segment → Type 0) (c : Segment) (ds : List Segment) → P c → Every P ds → Every P (put_by_address c ds)
every_put P c [] h k = (h, tt)
every_put P c (d ∷ ds) h k = every_either P c d ds (nat_lt d.at c.at) h k.0 k.1 (every_put P c ds h k.1)

pub every_sorted : (P : Segment → Type 0) (cs : List Segment) → Every P cs → Every P (by_address cs)
every_sorted P [] h = tt
every_sorted P (c ∷ cs) h = every_put P c (by_address cs) h.0 (every_sorted P cs h.1)

-- the segment has the address
abbrev pub covers : ℕ → Segment → Bool
covers a s = nat_le s.at a && nat_lt a (end_of s)

and_first : (x y : Bool) → x ≡ false → (x && y) ≡ false
and_first true y e = absurd (false≢true (sym e))
and_first false y e = refl

and_second : (x y : Bool) → y ≡ false → (x && y) ≡ false
and_second true y e = e
and_second false y e = refl

pub covers_inside : (a : ℕ) (s : Segment) → s.at ≤ a → a < end_of s → covers a s ≡ true
covers_inside a s low high = and_from (nat_le s.at a) (nat_lt a (end_of s)) (le-leb s.at a low) (lt-ltb a (end_of s) high)

pub covers_below : (a : ℕ) (s : Segment) → a < s.at → covers a s ≡ false
covers_below a s low = and_first (nat_le s.at a) (nat_lt a (end_of s)) (lt-leb s.at a low)

pub covers_above : (a : ℕ) (s : Segment) → end_of s ≤ a → covers a s ≡ false
covers_above a s high = and_second (nat_le s.at a) (nat_lt a (end_of s)) (le-ltb a (end_of s) high)

-- it is one segment, or does not have the address
abbrev pub IsOr : ℕ → Segment → Segment → Type 0
IsOr a s t = (t ≡ s) ⊎ (covers a t ≡ false)

-- the byte at an address that one segment alone has
module _ (a : ℕ) (s : Segment) (covered : covers a s ≡ true) where
  first_byte : (t : Segment) (ts : List Segment) → t ≡ s → byte_in (t ∷ ts) a ≡ Some (slice_index s.bytes (a - s.at))
  first_byte t ts e =
      let P : Segment → Type 0 = λ u. byte_in (u ∷ ts) a ≡ Some (slice_index s.bytes (a - s.at)) in
      subst P (sym e) (cond-true (covers a s) (Some (slice_index s.bytes (a - s.at))) (byte_in ts a) covered)

  later_byte : (t : Segment) (ts : List Segment) → covers a t ≡ false → byte_in (t ∷ ts) a ≡ byte_in ts a
  later_byte t ts e = cond-false (covers a t) (Some (slice_index t.bytes (a - t.at))) (byte_in ts a) e

  not_here : (t : Segment) → t ≡ s → covers a t ≡ false → ⊥
  not_here t e f = false≢true (sym f ∙ ap (covers a) e ∙ covered)

  one_byte : (t : Segment) (ts : List Segment) → IsOr a s t → (t ≡ s) ⊎ Has s ts → (Has s ts → byte_in ts a ≡ Some (slice_index s.bytes (a - s.at))) → byte_in (t ∷ ts) a ≡ Some (slice_index s.bytes (a - s.at))
  one_byte t ts (inl same) has rest = first_byte t ts same
  one_byte t ts (inr not_it) (inl e) rest = absurd (not_here t e not_it)
  one_byte t ts (inr not_it) (inr has) rest = later_byte t ts not_it ∙ rest has

  pub only_byte : (ts : List Segment) → Every (IsOr a s) ts → Has s ts → byte_in ts a ≡ Some (slice_index s.bytes (a - s.at))
  only_byte [] h has = absurd has
  only_byte (t ∷ ts) h has = one_byte t ts h.0 has (only_byte ts h.1)

  -- where a first segment does not have it
  pub other_byte : (t : Segment) (ts : List Segment) → covers a t ≡ false → Every (IsOr a s) ts → Has s ts → byte_in (t ∷ ts) a ≡ Some (slice_index s.bytes (a - s.at))
  other_byte t ts not_it h has = later_byte t ts not_it ∙ only_byte ts h has
