-- Where the bytes of addresses stand, by parts that lie one behind the other.
use Rattle.std.proofs.Common.{◌≡◌, ℕ, zero, suc, ◌+◌, ◌-◌, ◌^◌, ◌<◌, ◌≤◌, Bool, true, false, ◌&&◌, leb, ltb, List, [], ◌∷◌, ◌++◌, length, get_or, Option, Some, None, All, refl, sym, ap, ◌∙◌, ◌⊎◌, inl, inr, arith}
use Rattle.std.specs.Prelude.{AllPairs, ◌↔◌, if◌then◌else◌}
use Rattle.std.specs.Option.{option_or}
use Rattle.std.specs.List.Sorted.{IsPartitionPoint, IsNonDecreasingBy}
use Rattle.std.proofs.lemmas.Bool.{le-leb, lt-leb, lt-ltb, le-ltb, cases_lt, true≢false}
use Rattle.std.proofs.lemmas.List.Elements.{All-head, All-tail}
use Rattle.std.proofs.lemmas.List.{get_or_read}
use Rattle.paged_memory.specs.declared.part.Part.{Part}
use Rattle.paged_memory.specs.Mapped.{place_of, end_of, Has, IsIndex, Shows}

abbrev Apart : List Part → Type 0
Apart parts = AllPairs (λ part later. end_of part ≤ later.at) parts

-- where each part of a list begins at most where the next ends
pub starts_rise : (parts : List Part) → Apart parts → IsNonDecreasingBy (λ part. part.at) parts
starts_rise parts apart i j d le within =
    elim (cases_lt i j) [
      | inl lt ↦ omega (arith, apart i j d lt within)
      | inr ge ↦ let same : i ≡ j = omega arith in rw same (omega arith)
    ]

pub IsIndex-tail : (part : Part) (parts : List Part) (size : ℕ) → IsIndex (part ∷ parts) size → IsIndex parts size
IsIndex-tail part parts size index = record {
  apart = λ i j d lt within. index.apart (suc i) (suc j) d (omega arith) (omega arith);
  packed = λ i j d lt within. index.packed (suc i) (suc j) d (omega arith) (omega arith);
  within = All-tail (λ p. p.start + p.count ≤ size) part parts index.within;
  high = All-tail (λ p. end_of p < 2 ^ 64) part parts index.high;
}

-- the place in the part that has the address
pub place_of-has : (parts : List Part) (index at : ℕ) (d : Part) → Apart parts → index < length parts → Has at (get_or parts index d) → place_of parts at ≡ Some ((get_or parts index d).start + (at - (get_or parts index d).at))
place_of-has [] index at d apart within has = absurd (omega arith)
place_of-has (part ∷ parts) zero at d apart within has = rw (le-leb part.at at has.low, lt-ltb at (end_of part) has.high) refl
place_of-has (part ∷ parts) (suc index) at d apart within has =
    let before = apart 0 (suc index) d (omega arith) within in
    let beyond : ltb at (end_of part) ≡ false = le-ltb _ _ (omega (arith, has.low)) in
    let low : leb part.at at ≡ true = le-leb _ _ (omega (arith, has.low)) in
    rw (low, beyond) (place_of-has parts index at d (λ i j d lt inside. apart (suc i) (suc j) d (omega arith) (omega arith)) (omega arith) has)

-- no place where no part has the address
pub place_of-none : (parts : List Part) (at : ℕ) → All (λ part. (at < part.at) ⊎ (end_of part ≤ at)) parts → place_of parts at ≡ None
place_of-none [] at out = refl
place_of-none (part ∷ parts) at out =
    let others = place_of-none parts at (All-tail (λ p. (at < p.at) ⊎ (end_of p ≤ at)) part parts out) in
    elim (All-head (λ p. (at < p.at) ⊎ (end_of p ≤ at)) part parts out) [
      | inl below ↦ rw (lt-leb part.at at below) others
      | inr beyond ↦
          elim (cases_lt at part.at) [
            | inl below ↦ rw (lt-leb part.at at below) others
            | inr low ↦ rw (le-leb part.at at low, le-ltb at (end_of part) beyond) others
          ]
    ]

-- the part behind which a search ends is the only one that can have the address
pub none_but_last : (parts : List Part) (at count : ℕ) → Apart parts → count ≤ length parts → IsPartitionPoint (λ part. part.at ≤ at) (λ part. at < part.at) parts count
    → ((d : Part) → 0 < count → end_of (get_or parts (count - 1) d) ≤ at) → place_of parts at ≡ None
none_but_last parts at count apart within point last =
    place_of-none parts at (λ k d lt.
    elim (cases_lt k count) [
      | inl before ↦
          elim (cases_lt k (count - 1)) [
            | inl earlier ↦ inr (omega (arith, apart k (count - 1) d earlier (omega arith), point.0 (count - 1) d (omega arith) (omega arith)))
            | inr here ↦ let same : k ≡ count - 1 = omega arith in inr (rw same (last d (omega arith)))
          ]
      | inr behind ↦ inl (point.1 k d behind lt)
    ])

-- a part that is read and lacks the address, but begins at it or below
pub lacks_read : (parts : List Part) (index at : ℕ) (part : Part) (has : Bool) (d : Part) → index < length parts → (get_or parts index d).at ≤ at → part ≡ get_or parts index part → ((has ≡ true) ↔ Has at part) → has ≡ false → end_of (get_or parts index d) ≤ at
lacks_read parts index at part has d within low is tells lacks =
    let same : part ≡ get_or parts index d = get_or_read parts index part within is d in
    elim (cases_lt at (end_of (get_or parts index d))) [
      | inl high ↦ absurd (true≢false (sym (tells.1 (rw same (record { low = low; high = high }))) ∙ lacks))
      | inr beyond ↦ beyond
    ]

-- a part of the list stands as it says
pub Shows-read : (parts : List Part) (size index : ℕ) (part : Part) → IsIndex parts size → index < length parts → part ≡ get_or parts index part → Shows parts size part
Shows-read parts size index part whole within is = record {
  places = λ k lt.
      let here : Has (part.at + k) (get_or parts index part) = rw (← is) (record { low = omega arith; high = omega arith }) in
      let offset : part.at + k - part.at ≡ k = omega arith in
      place_of-has parts index (part.at + k) part whole.apart within here ∙ ap (λ (p : Part). Some (p.start + (part.at + k - p.at))) (sym is) ∙ ap (λ (n : ℕ). Some (part.start + n)) offset;
  within = rw is (whole.within index part within);
  high = rw is (whole.high index part within);
}

-- a stretch of it does too
pub Shows-inner : (parts : List Part) (size : ℕ) (part inner : Part) → Shows parts size part → part.at ≤ inner.at → end_of inner ≤ end_of part → inner.start + part.at ≡ part.start + inner.at → Shows parts size inner
Shows-inner parts size part inner shows low high same = record {
  places = λ k lt.
      let place : part.at + (inner.at - part.at + k) ≡ inner.at + k = omega arith in
      let there : part.start + (inner.at - part.at + k) ≡ inner.start + k = omega arith in
      ap (place_of parts) (sym place) ∙ shows.places (inner.at - part.at + k) (omega arith) ∙ ap (λ (n : ℕ). Some n) there;
  within = omega (arith, shows.within);
  high = omega (arith, shows.high);
}

tests : (low high : ℕ) (at : ℕ) → (leb low at && ltb at high) ≡ true → (low ≤ at) × (at < high)
tests low high at is =
    elim (cases_lt at low) [
      | inl below ↦ absurd (true≢false (sym is ∙ rw (lt-leb low at below) refl))
      | inr le ↦
          elim (cases_lt at high) [
            | inl lt ↦ (le, lt)
            | inr beyond ↦ absurd (true≢false (sym is ∙ rw (le-leb low at le, le-ltb at high beyond) refl))
          ]
    ]

-- what a place tells of one that is looked for in two steps
first_or_rest : (b : Bool) (x place : ℕ) (rest : Option ℕ) → (if b then Some x else rest) ≡ Some place → ((b ≡ true) × (x ≡ place)) ⊎ (rest ≡ Some place)
first_or_rest true x place rest is = inl (refl, cc)
first_or_rest false x place rest is = inr is

-- a place is one of some part
pub place_is : (parts : List Part) (at place : ℕ) → place_of parts at ≡ Some place → (index : ℕ) × (index < length parts) × ((d : Part) → Has at (get_or parts index d) × (place ≡ (get_or parts index d).start + (at - (get_or parts index d).at)))
place_is [] at place is = absurd cc
place_is (part ∷ parts) at place is =
    elim (first_or_rest (leb part.at at && ltb at (end_of part)) (part.start + (at - part.at)) place (place_of parts at) is) [
      | inl here ↦ let inside = tests part.at (end_of part) at here.0 in (0, omega arith, λ d. (record { low = inside.0; high = inside.1 }, sym here.1))
      | inr later ↦ let found = place_is parts at place later in (suc found.0, omega (arith, found.1), λ d. found.2 d)
    ]

-- places lie in the list
pub place_within : (parts : List Part) (size at place : ℕ) → IsIndex parts size → place_of parts at ≡ Some place → place < size
place_within parts size at place whole is =
    let d : Part = record { at = 0; count = 0; start = 0 } in
    let found = place_is parts at place is in
    let there = found.2 d in
    omega (arith, whole.within found.0 d found.1, there.0.low, there.0.high, there.1)

-- two addresses have two places
pub places_apart : (parts : List Part) (size a b place : ℕ) → IsIndex parts size → place_of parts a ≡ Some place → place_of parts b ≡ Some place → a ≡ b
places_apart parts size a b place whole is_a is_b =
    let d : Part = record { at = 0; count = 0; start = 0 } in
    let at_a = place_is parts a place is_a in
    let at_b = place_is parts b place is_b in
    let i = at_a.0 in
    let j = at_b.0 in
    let p = at_a.2 d in
    let q = at_b.2 d in
    elim (cases_lt i j) [
      | inl lt ↦ absurd (omega (arith, whole.packed i j d lt at_b.1, p.0.low, p.0.high, p.1, q.0.low, q.1))
      | inr le ↦
          elim (cases_lt j i) [
            | inl lt ↦ absurd (omega (arith, whole.packed j i d lt at_a.1, q.0.low, q.0.high, q.1, p.0.low, p.1))
            | inr ge ↦ let same : j ≡ i = omega arith in let r = rw same at q in omega (arith, p.0.low, p.1, r.0.low, r.1)
          ]
    ]

-- the same where the rest is
pub choose-or : (b : Bool) (x : ℕ) (o q r : Option ℕ) → o ≡ option_or q r → (if b then Some x else o) ≡ option_or (if b then Some x else q) r
choose-or true x o q r e = refl
choose-or false x o q r e = e

-- parts behind others
pub place_of-append : (parts more : List Part) (at : ℕ) → place_of (parts ++ more) at ≡ option_or (place_of parts at) (place_of more at)
place_of-append [] more at = refl
place_of-append (part ∷ parts) more at = choose-or (leb part.at at && ltb at (end_of part)) (part.start + (at - part.at)) _ _ _ (place_of-append parts more at)

-- no address from 2 ^ 64 on is mapped
pub none_beyond : (parts : List Part) (size at : ℕ) → IsIndex parts size → 2 ^ 64 ≤ at → place_of parts at ≡ None
none_beyond parts size at whole beyond = place_of-none parts at (λ k d lt. inr (omega (arith, whole.high k d lt)))
