-- What is a type's name is read as that type.
use Rattle.std.proofs.Common.{◌≡◌, ℕ, zero, suc, ◌≤◌, ◌<◌, List, [], ◌∷◌, ◌++◌, length, Ok, refl, sym, ap, ◌∙◌, append_assoc, arith}
use Rattle.std.proofs.lemmas.List.{length-append, append-nil}
use Rattle.aux_types.specs.declared.name.Scalar.{Scalar}
use Rattle.aux_types.specs.declared.name.Container.{Container}
use Rattle.aux_types.specs.declared.name.Container.TheVariants as c
use Rattle.aux_types.specs.Names.{scalar_text, container_text, scalar_named, container_named}
use Rattle.aux_types.specs.Shape.{Shape, Plain, Sequence, Set, Mapping, Tuple, Variant, Shapes, none, more, name, names, names_behind, nesting, nesting_of_parts, HasParts, SomeHaveParts, AllHaveParts, IsNamed}
use Rattle.aux_types.specs.Reading.{Read, after_word, one, two, parts, all_parts, inside, type_at, read_type}
use Rattle.aux_types.proofs.Words.{scalar_again, container_again, container_no_scalar, scalar_word, container_word, EndsWord, word_again, after_word_again}
use Rattle.aux_types.proofs.Names.{at_room, type_is_scalar, type_is_container}
use Rattle.aux_types.proofs.Takes.{Ends, ends_before}

-- what reads each type in which so many brackets nest at most, whatever stands behind its name and doesn't go on with it
abbrev pub Reads : ℕ → (List ℕ → Read Shape) → Type 0
Reads room inner = (t : Shape) (rest : List ℕ) → HasParts t → nesting t ≤ room → Ends t rest → inner (name t ++ rest) ≡ Ok (t, rest)

-- ---- the parts

count : Shapes → ℕ
count none = 0
count (more t ts) = suc (count ts)

count_behind : (ts : Shapes) → count ts ≤ length (names_behind ts)
unfolding count
count_behind none = omega arith
count_behind (more t ts) = omega (arith, count_behind ts, length-append (44 ∷ name t) (names_behind ts))

count_names : (ts : Shapes) (rest : List ℕ) → SomeHaveParts ts → count ts < suc (length (names ts ++ 62 ∷ rest))
unfolding count
count_names none rest h = absurd h
count_names (more t ts) rest h =
    omega (arith, count_behind ts, length-append (name t ++ names_behind ts) (62 ∷ rest), length-append (name t) (names_behind ts))

module _ (room : ℕ) (inner : List ℕ → Read Shape) (reads : Reads room inner) (total : ℕ) where
  -- a part before others
  parts_again : (t : Shape) (ts : Shapes) (n : ℕ) (rest : List ℕ) → HasParts t → AllHaveParts ts → nesting t ≤ room → nesting_of_parts ts ≤ room → count ts < n → parts inner total n (name t ++ (names_behind ts ++ 62 ∷ rest)) ≡ Ok (more t ts, rest)
  unfolding count
  parts_again t ts zero rest has all nests nest lt = absurd (omega arith)
  parts_again t none (suc n) rest has all nests nest lt = rw (reads t (62 ∷ rest) has nests (ends_before t (62 ∷ rest) refl)) refl
  parts_again t (more u us) (suc n) rest has all nests nest lt =
      let first : inner (name t ++ (names_behind (more u us) ++ 62 ∷ rest)) ≡ Ok (t, names_behind (more u us) ++ 62 ∷ rest) = reads t (names_behind (more u us) ++ 62 ∷ rest) has nests (ends_before t (names_behind (more u us) ++ 62 ∷ rest) refl) in
      let next : parts inner total n (name u ++ (names_behind us ++ 62 ∷ rest)) ≡ Ok (more u us, rest) = parts_again u us n rest all.0 all.1 (omega arith) (omega arith) (omega arith) in
      rw (first, append_assoc (name u) (names_behind us) (62 ∷ rest), next) refl

  all_parts_again : (ts : Shapes) (rest : List ℕ) → SomeHaveParts ts → nesting_of_parts ts ≤ room → all_parts inner total (names ts ++ 62 ∷ rest) ≡ Ok (ts, rest)
  unfolding all_parts count
  all_parts_again none rest h nests = absurd h
  all_parts_again (more t ts) rest h nests =
      let enough = count_names (more t ts) rest h in
      let regrouped : (name t ++ names_behind ts) ++ 62 ∷ rest ≡ name t ++ (names_behind ts ++ 62 ∷ rest) = append_assoc (name t) (names_behind ts) (62 ∷ rest) in
      ap (parts inner total (suc (length (names (more t ts) ++ 62 ∷ rest)))) regrouped ∙ parts_again t ts (suc (length (names (more t ts) ++ 62 ∷ rest))) rest h.0 h.1 (omega arith) (omega arith) (omega (arith, enough))

  one_again : (t : Shape) (rest : List ℕ) → HasParts t → nesting t ≤ room → one inner total (name t ++ 62 ∷ rest) ≡ Ok (t, rest)
  unfolding one
  one_again t rest has nests = rw (reads t (62 ∷ rest) has nests (ends_before t (62 ∷ rest) refl)) refl

  two_again : (k v : Shape) (rest : List ℕ) → HasParts k → HasParts v → nesting k ≤ room → nesting v ≤ room → two inner total (name k ++ 44 ∷ (name v ++ 62 ∷ rest)) ≡ Ok ((k, v), rest)
  unfolding two
  two_again k v rest has_k has_v nests_k nests_v =
      rw (reads k (44 ∷ (name v ++ 62 ∷ rest)) has_k nests_k (ends_before k (44 ∷ (name v ++ 62 ∷ rest)) refl), one_again v rest has_v nests_v) refl

-- ---- a whole type

-- a container's word, its open bracket and what stands behind that
container_reads : (total room : ℕ) (k : Container) (behind : List ℕ) → type_at total (suc room) (container_text k ++ 60 ∷ behind) ≡ inside (type_at total room) total k behind
container_reads total room k behind =
    let w = word_again (container_text k) (60 ∷ behind) (container_word k) refl in
    let a = after_word_again (container_text k) (60 ∷ behind) (container_word k) refl in
    type_is_container total (suc room) (container_text k ++ 60 ∷ behind) k (ap scalar_named w ∙ container_no_scalar k) (ap container_named w ∙ container_again k)
    ∙ at_room total (suc room) room k (after_word (container_text k ++ 60 ∷ behind)) behind refl (rw a refl)

bracketed : (head inner rest : List ℕ) → (head ++ 60 ∷ [] ++ inner ++ 62 ∷ []) ++ rest ≡ head ++ 60 ∷ (inner ++ 62 ∷ rest)
bracketed head inner rest = simp append_assoc

scalar_reads : (total room : ℕ) (k : Scalar) (rest : List ℕ) → EndsWord rest → type_at total room (scalar_text k ++ rest) ≡ Ok (Plain k, rest)
scalar_reads total room k rest ends =
    let w = word_again (scalar_text k) rest (scalar_word k) ends in
    type_is_scalar total room (scalar_text k ++ rest) k (ap scalar_named w ∙ scalar_again k) ∙ rw (after_word_again (scalar_text k) rest (scalar_word k) ends) refl

pub type_again : (total room : ℕ) → Reads room (type_at total room)
unfolding inside
type_again total room (Plain k) rest has nests ends = scalar_reads total room k rest ends
type_again total zero (Sequence t) rest has nests ends = absurd (omega arith)
type_again total zero (Set t) rest has nests ends = absurd (omega arith)
type_again total zero (Mapping k v) rest has nests ends = absurd (omega arith)
type_again total zero (Tuple ts) rest has nests ends = absurd (omega arith)
type_again total zero (Variant ts) rest has nests ends = absurd (omega arith)
type_again total (suc room) (Sequence t) rest has nests ends =
    ap (type_at total (suc room)) (bracketed (container_text c.Sequence) (name t) rest) ∙ container_reads total room c.Sequence (name t ++ 62 ∷ rest)
    ∙ rw (one_again room (type_at total room) (type_again total room) total t rest has (omega arith)) refl
type_again total (suc room) (Set t) rest has nests ends =
    ap (type_at total (suc room)) (bracketed (container_text c.Set) (name t) rest) ∙ container_reads total room c.Set (name t ++ 62 ∷ rest)
    ∙ rw (one_again room (type_at total room) (type_again total room) total t rest has (omega arith)) refl
type_again total (suc room) (Mapping k v) rest has nests ends =
    let regrouped : name (Mapping k v) ++ rest ≡ container_text c.Mapping ++ 60 ∷ (name k ++ 44 ∷ (name v ++ 62 ∷ rest)) = simp append_assoc in
    ap (type_at total (suc room)) regrouped ∙ container_reads total room c.Mapping (name k ++ 44 ∷ (name v ++ 62 ∷ rest))
    ∙ rw (two_again room (type_at total room) (type_again total room) total k v rest has.0 has.1 (omega arith) (omega arith)) refl
type_again total (suc room) (Tuple ts) rest has nests ends =
    ap (type_at total (suc room)) (bracketed (container_text c.Tuple) (names ts) rest) ∙ container_reads total room c.Tuple (names ts ++ 62 ∷ rest)
    ∙ rw (all_parts_again room (type_at total room) (type_again total room) total ts rest has (omega arith)) refl
type_again total (suc room) (Variant ts) rest has nests ends =
    ap (type_at total (suc room)) (bracketed (container_text c.Variant) (names ts) rest) ∙ container_reads total room c.Variant (names ts ++ 62 ∷ rest)
    ∙ rw (all_parts_again room (type_at total room) (type_again total room) total ts rest has (omega arith)) refl

-- the whole name is read
pub name_again : (t : Shape) → IsNamed t → read_type (name t) ≡ Ok t
unfolding read_type
name_again t named =
    let whole : type_at (length (name t)) 32 (name t) ≡ Ok (t, []) = ap (type_at (length (name t)) 32) (sym (append-nil (name t))) ∙ type_again (length (name t)) 32 t [] named.parts named.nests (ends_before t [] refl) in
    rw whole refl
