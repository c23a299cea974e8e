-- Bytes that stand one behind the other in the list and by address.
use Rattle.std.proofs.Common.{◌≡◌, ℕ, ◌+◌, ◌-◌, ◌<◌, ◌≤◌, true, List, ◌++◌, length, get_or, take, drop, Option, Some, None, refl, sym, ap, ◌∙◌, ◌⊎◌, inl, inr, arith}
use Rattle.std.specs.Prelude.{is_some, unwrap_or}
use Rattle.std.specs.Option.{option_map}
use Rattle.std.proofs.Math.Path.{fun_ext}
use Rattle.std.proofs.lemmas.Bool.{le-leb, lt-leb, lt-ltb, le-ltb, cases_lt}
use Rattle.std.proofs.lemmas.List.{ext_get_or, length-append, length-drop, length-take-le, get_or_read, get_or_append_left, get_or-append_right, get_or-take, get_or-drop}
use Rattle.std.proofs.lemmas.List.FromFn.{length-map-range_with_len, get_or-map-range_with_len}
use Rattle.paged_memory.specs.declared.part.Part.{Part}
use Rattle.paged_memory.specs.Mapping.{is_mapped, bytes_from, with_bytes, number_of, number_at}
use Rattle.paged_memory.specs.Mapped.{place_of, mapped_by, Has, IsIndex, Shows, stretch, with_part}
use Rattle.paged_memory.proofs.Spans.{is_mapped-each}
use Rattle.paged_memory.proofs.Places.{places_apart}

-- the byte at a place
pub mapped_at : (parts : List Part) (bytes : List ℕ) (at place : ℕ) → place_of parts at ≡ Some place → mapped_by parts bytes at ≡ Some (get_or bytes place 0)
mapped_at parts bytes at place is = ap (λ (o : Option ℕ). option_map (λ n. get_or bytes n 0) o) is

pub unmapped : (parts : List Part) (bytes : List ℕ) (at : ℕ) → place_of parts at ≡ None → mapped_by parts bytes at ≡ None
unmapped parts bytes at is = ap (λ (o : Option ℕ). option_map (λ n. get_or bytes n 0) o) is

module _ (parts : List Part) (bytes : List ℕ) (part : Part) (shows : Shows parts (length bytes) part) where
  pub byte_shown : (k : ℕ) → k < part.count → mapped_by parts bytes (part.at + k) ≡ Some (get_or bytes (part.start + k) 0)
  byte_shown k lt = mapped_at parts bytes (part.at + k) (part.start + k) (shows.places k lt)

  pub all_shown : is_mapped (mapped_by parts bytes) part.at part.count ≡ true
  all_shown = is_mapped-each (mapped_by parts bytes) part.at part.count (λ k lt. ap is_some (byte_shown k lt))

  pub bytes_shown : take part.count (drop part.start bytes) ≡ bytes_from (mapped_by parts bytes) part.at part.count
  bytes_shown =
      let m = mapped_by parts bytes in
      let within = shows.within in
      let room : part.count ≤ length (drop part.start bytes) = omega (arith, length-drop part.start bytes) in
      let len : length (take part.count (drop part.start bytes)) ≡ part.count = length-take-le part.count (drop part.start bytes) room in
      ext_get_or 0 (take part.count (drop part.start bytes)) (bytes_from m part.at part.count) (len ∙ sym (length-map-range_with_len (λ a. unwrap_or (m a) 0) part.at part.count)) (λ k lt.
      let below : k < part.count = omega arith in
      get_or-take part.count (drop part.start bytes) k 0 below ∙ get_or-drop part.start bytes k 0
      ∙ sym (get_or-map-range_with_len (λ a. unwrap_or (m a) 0) part.at part.count k (part.at + k) 0 below refl ∙ ap (λ (o : Option ℕ). unwrap_or o 0) (byte_shown k below)))

  pub number_shown : (n : ℕ) → n ≡ number_of (take part.count (drop part.start bytes)) → Some n ≡ number_at (mapped_by parts bytes) part.at part.count
  number_shown n value = rw (value ∙ ap number_of bytes_shown, all_shown) refl

module _ (old : List ℕ) (place : ℕ) (new : List ℕ) (within : place + length new ≤ length old) where
  front_len : length (take place old) ≡ place
  front_len = length-take-le place old (omega arith)

  both_len : length (take place old ++ new) ≡ place + length new
  both_len = omega (arith, length-append (take place old) new, front_len)

  pub with_part-len : length (with_part old place new) ≡ length old
  with_part-len = length-append (take place old ++ new) (drop (place + length new) old) ∙ omega (arith, both_len, length-drop (place + length new) old)

  pub with_part-inside : (k : ℕ) → k < length new → get_or (with_part old place new) (place + k) 0 ≡ get_or new k 0
  with_part-inside k lt =
      get_or_append_left (take place old ++ new) (drop (place + length new) old) 0 (place + k) (omega (arith, both_len)) ∙ get_or-append_right (take place old) new place (place + k) 0 front_len (omega arith)
      ∙ ap (λ (n : ℕ). get_or new n 0) (let e : place + k - place ≡ k = omega arith in e)

  pub with_part-outside : (k : ℕ) → (k < place) ⊎ (place + length new ≤ k) → get_or (with_part old place new) k 0 ≡ get_or old k 0
  with_part-outside k side =
      elim side [
        | inl before ↦
            get_or_append_left (take place old ++ new) (drop (place + length new) old) 0 k (omega (arith, both_len)) ∙ get_or_append_left (take place old) new 0 k (omega (arith, front_len)) ∙ get_or-take place old k 0 before
        | inr behind ↦
            get_or-append_right (take place old ++ new) (drop (place + length new) old) (place + length new) k 0 both_len behind ∙ get_or-drop (place + length new) old (k - (place + length new)) 0
            ∙ ap (λ (n : ℕ). get_or old n 0) (let e : place + length new + (k - (place + length new)) ≡ k = omega arith in e)
      ]

none_or_some : {A : Type 0} (o : Option A) → (o ≡ None) ⊎ ((x : A) × (o ≡ Some x))
none_or_some None = inl refl
none_or_some (Some x) = inr (x, refl)

-- bytes that are put in a stretch are those of its addresses, and no others
pub put_shown : (parts : List Part) (bytes : List ℕ) (at place : ℕ) (new : List ℕ) → IsIndex parts (length bytes) → Shows parts (length bytes) (stretch at (length new) place) → mapped_by parts (with_part bytes place new) ≡ with_bytes (mapped_by parts bytes) at new
put_shown parts bytes at place new whole shows =
    let within = shows.within in
    let other : (a : ℕ) → (a < at) ⊎ (at + length new ≤ a) → mapped_by parts (with_part bytes place new) a ≡ mapped_by parts bytes a = λ a side.
    elim (none_or_some (place_of parts a)) [
      | inl none ↦ unmapped parts (with_part bytes place new) a none ∙ sym (unmapped parts bytes a none)
      | inr some ↦
          let j = some.0 in
          let apart : (k : ℕ) → k < length new → j ≡ place + k → ⊥ = λ k lt same.
          let here : a ≡ at + k = places_apart parts (length bytes) a (at + k) j whole some.1 (shows.places k lt ∙ ap (λ (n : ℕ). Some n) (sym same)) in
          elim side [ inl before ↦ omega arith | inr behind ↦ omega arith ] in
          let out : (j < place) ⊎ (place + length new ≤ j) = elim (cases_lt j place) [
            | inl below ↦ inl below
            | inr le ↦
                elim (cases_lt j (place + length new)) [
                  | inl inside ↦ absurd (apart (j - place) (omega arith) (omega arith))
                  | inr beyond ↦ inr beyond
                ]
          ] in
          mapped_at parts (with_part bytes place new) a j some.1 ∙ ap (λ (n : ℕ). Some n) (with_part-outside bytes place new within j out) ∙ sym (mapped_at parts bytes a j some.1)
    ] in
    fun_ext (λ a. elim (cases_lt a at) [
      | inl below ↦ other a (inl below) ∙ rw (lt-leb at a below) refl
      | inr low ↦
          elim (cases_lt a (at + length new)) [
            | inl inside ↦
                let k = a - at in
                let lt : k < length new = omega arith in
                let is : at + k ≡ a = omega arith in
                mapped_at parts (with_part bytes place new) a (place + k) (ap (place_of parts) (sym is) ∙ shows.places k lt) ∙ ap (λ (n : ℕ). Some n) (with_part-inside bytes place new within k lt)
                ∙ rw (le-leb at a low, lt-ltb a (at + length new) inside) refl
            | inr behind ↦ other a (inr behind) ∙ rw (le-leb at a low, le-ltb a (at + length new) behind) refl
          ]
    ])

-- the byte that is read in a part
pub byte_read : (parts : List Part) (bytes : List ℕ) (at byte : ℕ) (part : Part) → Shows parts (length bytes) part → Has at part → byte ≡ get_or bytes (part.start + (at - part.at)) byte → Some byte ≡ mapped_by parts bytes at
byte_read parts bytes at byte part shows has read =
    let low = has.low in
    let high = has.high in
    let here : part.at + (at - part.at) ≡ at = omega arith in
    let value : byte ≡ get_or bytes (part.start + (at - part.at)) 0 = get_or_read bytes (part.start + (at - part.at)) byte (omega (arith, shows.within)) read 0 in
    ap (λ (b : ℕ). Some b) value ∙ sym (byte_shown parts bytes part shows (at - part.at) (omega arith)) ∙ ap (mapped_by parts bytes) here
