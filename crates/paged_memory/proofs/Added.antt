-- Bytes and segments behind all others.
use Rattle.std.proofs.Common.{◌≡◌, ℕ, ◌+◌, ◌-◌, ◌<◌, ◌≤◌, ◌&&◌, leb, ltb, List, [], ◌∷◌, ◌++◌, length, get_or, take, drop, Option, Some, None, All, refl, sym, ap, ap₂, ◌∙◌, ◌⊎◌, inl, inr, arith}
use Rattle.std.specs.Option.{option_or}
use Rattle.std.proofs.Math.Path.{fun_ext}
use Rattle.std.proofs.lemmas.Bool.{le-leb, lt-leb, lt-ltb, le-ltb, cases_lt}
use Rattle.std.proofs.lemmas.List.{take-take, drop-take, take-append-drop, get_or_append_left, get_or-append_right}
use Rattle.std.proofs.lemmas.List.Elements.{All-head, All-tail}
use Rattle.bare_image.specs.declared.image.Segment.{Segment}
use Rattle.bare_image.specs.Valid as valid
use Rattle.paged_memory.specs.declared.part.Part.{Part}
use Rattle.paged_memory.specs.Mapping.{Mapping, byte_in, with_bytes}
use Rattle.paged_memory.specs.Mapped.{place_of, mapped_by, end_of, IsIndex, beside}
use Rattle.paged_memory.proofs.Places.{choose-or, place_of-none, place_of-append, place_within}
use Rattle.paged_memory.proofs.Stretches.{mapped_at, unmapped}

none_or_some : {A : Type 0} (o : Option A) → (o ≡ None) ⊎ ((x : A) × (o ≡ Some x))
none_or_some None = inl refl
none_or_some (Some x) = inr (x, refl)

-- one part more, of bytes behind all others
pub part_added : (parts : List Part) (bytes : List ℕ) (at : ℕ) (new : List ℕ) (part : Part) → IsIndex parts (length bytes) → All (λ p. end_of p ≤ at) parts
    → part.at ≡ at → part.count ≡ length new → part.start ≡ length bytes → mapped_by (parts ++ part ∷ []) (bytes ++ new) ≡ with_bytes (mapped_by parts bytes) at new
part_added parts bytes at new part whole ends is_at is_count is_start =
    let all = parts ++ part ∷ [] in
    let earlier : (a : ℕ) → place_of (part ∷ []) a ≡ None → mapped_by all (bytes ++ new) a ≡ mapped_by parts bytes a = λ a out.
    elim (none_or_some (place_of parts a)) [
      | inl none ↦ unmapped all (bytes ++ new) a (place_of-append parts (part ∷ []) a ∙ rw (none, out) refl) ∙ sym (unmapped parts bytes a none)
      | inr some ↦
          mapped_at all (bytes ++ new) a some.0 (place_of-append parts (part ∷ []) a ∙ rw (some.1) refl)
          ∙ ap (λ (n : ℕ). Some n) (get_or_append_left bytes new 0 some.0 (place_within parts (length bytes) a some.0 whole some.1)) ∙ sym (mapped_at parts bytes a some.0 some.1)
    ] in
    fun_ext (λ a. elim (cases_lt a at) [
      | inl below ↦ earlier a (rw (lt-leb part.at a (omega arith)) refl) ∙ rw (lt-leb at a below) refl
      | inr low ↦
          elim (cases_lt a (at + length new)) [
            | inl inside ↦
                let none : place_of parts a ≡ None = place_of-none parts a (λ k d lt. inr (omega (arith, ends k d lt))) in
                let here : place_of (part ∷ []) a ≡ Some (part.start + (a - part.at)) = rw (le-leb part.at a (omega arith), lt-ltb a (end_of part) (omega arith)) refl in
                let place : part.start + (a - part.at) ≡ length bytes + (a - at) = omega arith in
                let offset : length bytes + (a - at) - length bytes ≡ a - at = omega arith in
                mapped_at all (bytes ++ new) a (length bytes + (a - at)) (place_of-append parts (part ∷ []) a ∙ rw none (here ∙ ap (λ (n : ℕ). Some n) place))
                ∙ ap (λ (n : ℕ). Some n) (get_or-append_right bytes new (length bytes) (length bytes + (a - at)) 0 refl (omega arith) ∙ ap (λ (n : ℕ). get_or new n 0) offset)
                ∙ rw (le-leb at a low, lt-ltb a (at + length new) inside) refl
            | inr beyond ↦ earlier a (rw (le-leb part.at a (omega arith), le-ltb a (end_of part) (omega arith)) refl) ∙ rw (le-leb at a low, le-ltb a (at + length new) beyond) refl
          ]
    ])

-- the front of a list, and the piece behind it
pub front_and_piece : (xs : List ℕ) (done end : ℕ) → done ≤ end → take done xs ++ take (end - done) (drop done xs) ≡ take end xs
front_and_piece xs done end le =
    let whole : done + (end - done) ≡ end = omega arith in
    ap₂ (λ (a b : List ℕ). a ++ b) (sym (take-take done end xs le)) (sym (drop-take done (end - done) xs) ∙ ap (λ (n : ℕ). drop done (take n xs)) whole) ∙ take-append-drop done (take end xs)

pub option_or-none : {A : Type 0} (o : Option A) → option_or o None ≡ o
option_or-none None = refl
option_or-none (Some x) = refl

pub byte_in-append : (segments more : List Segment) (a : ℕ) → byte_in (segments ++ more) a ≡ option_or (byte_in segments a) (byte_in more a)
byte_in-append [] more a = refl
byte_in-append (s ∷ segments) more a = choose-or (leb s.at a && ltb a (valid.end_of s)) (get_or s.bytes (a - s.at) 0) _ _ _ (byte_in-append segments more a)

pub byte_in-none : (segments : List Segment) (a : ℕ) → All (λ s. (a < s.at) ⊎ (valid.end_of s ≤ a)) segments → byte_in segments a ≡ None
byte_in-none [] a out = refl
byte_in-none (s ∷ segments) a out =
    let others = byte_in-none segments a (All-tail (λ t. (a < t.at) ⊎ (valid.end_of t ≤ a)) s segments out) in
    elim (All-head (λ t. (a < t.at) ⊎ (valid.end_of t ≤ a)) s segments out) [
      | inl below ↦ rw (lt-leb s.at a below) others
      | inr beyond ↦
          elim (cases_lt a s.at) [
            | inl below ↦ rw (lt-leb s.at a below) others
            | inr low ↦ rw (le-leb s.at a low, le-ltb a (valid.end_of s) beyond) others
          ]
    ]

-- one segment more, of bytes behind those of the others
pub segment_added : (segments : List Segment) (m : Mapping) (s : Segment) → All (λ t. valid.end_of t ≤ s.at) segments → with_bytes (beside (byte_in segments) m) s.at s.bytes ≡ beside (byte_in (segments ++ s ∷ [])) m
segment_added segments m s ends =
    let earlier : (a : ℕ) → byte_in (s ∷ []) a ≡ None → beside (byte_in (segments ++ s ∷ [])) m a ≡ beside (byte_in segments) m a = λ a out.
    ap (λ (o : Option ℕ). option_or o (m a)) (byte_in-append segments (s ∷ []) a ∙ ap (option_or (byte_in segments a)) out ∙ option_or-none (byte_in segments a)) in
    fun_ext (λ a. elim (cases_lt a s.at) [
      | inl below ↦ rw (lt-leb s.at a below) (sym (earlier a (rw (lt-leb s.at a below) refl)))
      | inr low ↦
          elim (cases_lt a (valid.end_of s)) [
            | inl inside ↦
                let none : byte_in segments a ≡ None = byte_in-none segments a (λ k d lt. inr (omega (arith, ends k d lt))) in
                let alone : byte_in (s ∷ []) a ≡ Some (get_or s.bytes (a - s.at) 0) = rw (le-leb s.at a low, lt-ltb a (valid.end_of s) inside) refl in
                let here : byte_in (segments ++ s ∷ []) a ≡ Some (get_or s.bytes (a - s.at) 0) = byte_in-append segments (s ∷ []) a ∙ rw none alone in
                rw (le-leb s.at a low, lt-ltb a (valid.end_of s) inside) (sym (ap (λ (o : Option ℕ). option_or o (m a)) here))
            | inr beyond ↦ rw (le-leb s.at a low, le-ltb a (valid.end_of s) beyond) (sym (earlier a (rw (le-leb s.at a low, le-ltb a (valid.end_of s) beyond) refl)))
          ]
    ])
