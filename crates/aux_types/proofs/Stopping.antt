-- Where the reader of a type stops.
use Rattle.std.proofs.Common.{◌≡◌, ℕ, zero, suc, ◌+◌, ◌-◌, ◌≤◌, ◌<◌, Bool, true, false, cond, eqb, List, [], ◌∷◌, ◌++◌, length, Option, Some, None, Result, Ok, Err, refl, sym, ap, subst, ◌∙◌, inl, inr, append_assoc, arith}
use Rattle.std.proofs.lemmas.List.{length-append, append-nil}
use Rattle.aux_types.specs.declared.fault.TypeFault.{TypeFault}
use Rattle.aux_types.specs.declared.fault.TypeFault.TheVariants.{NotAType, Deep}
use Rattle.aux_types.specs.declared.name.Scalar.{Scalar}
use Rattle.aux_types.specs.declared.name.Scalar.TheVariants as s
use Rattle.aux_types.specs.declared.name.Container.{Container}
use Rattle.aux_types.specs.declared.name.Container.TheVariants as c
use Rattle.aux_types.specs.Faults.{SameToken}
use Rattle.aux_types.specs.Gives.{◌>>=◌}
use Rattle.aux_types.specs.Names.{scalar_text, container_text, scalar_named, container_named}
use Rattle.aux_types.specs.Shape.{Shape, Plain, Sequence, Set, Mapping, Tuple, Variant, Shapes, none, more, name, names, names_behind, nesting, nesting_of_parts, HasParts, SomeHaveParts, AllHaveParts}
use Rattle.aux_types.specs.Reading.{Read, expect, word, after_word, one, two, separator, others, parts, all_parts, inside, opened, refused, container_at, type_at}
use Rattle.aux_types.proofs.Steps.{expect_takes, bind_err, no_fault, err_is}
use Rattle.aux_types.proofs.Words.{EndsWord, after_ends, word_parts, word_again, after_word_again, container_again, container_no_scalar, container_word, container_is}
use Rattle.aux_types.proofs.Names.{type_is_scalar, type_is_container, type_is_none}
use Rattle.aux_types.proofs.Takes.{Takes, IsReader, ends_on, separator_takes, type_takes, names_then, all_from_some}
use Rattle.aux_types.proofs.Again.{Reads, type_again}
use Rattle.aux_types.proofs.Stops.{Stops, first_stops, second_stops, mapped, same_reader, expect_stops, separator_stops, ends_alike, same_word}

-- ---- what a reader stops on the way to

-- a type's name, with at most so many brackets nested
pub record IsName (room : ℕ) (text : List ℕ) : Type 0 where
  pub type : Shape
  pub parts : HasParts type
  pub nests : nesting type ≤ room
  pub spelled : text ≡ name type

-- a type's name and the bracket that closes
record IsClosed (room : ℕ) (text : List ℕ) : Type 0 where
  type : Shape
  parts : HasParts type
  nests : nesting type ≤ room
  spelled : text ≡ name type ++ 62 ∷ []

-- the same behind a comma
record IsSecond (room : ℕ) (text : List ℕ) : Type 0 where
  type : Shape
  parts : HasParts type
  nests : nesting type ≤ room
  spelled : text ≡ 44 ∷ (name type ++ 62 ∷ [])

-- two types' names with a comma between them, and the bracket that closes
record IsPair (room : ℕ) (text : List ℕ) : Type 0 where
  key : Shape
  value : Shape
  parts : HasParts key × HasParts value
  nests : (nesting key ≤ room) × (nesting value ≤ room)
  spelled : text ≡ name key ++ 44 ∷ (name value ++ 62 ∷ [])

-- the names of parts, and the bracket that closes
record IsParts (room : ℕ) (text : List ℕ) : Type 0 where
  types : Shapes
  parts : SomeHaveParts types
  nests : nesting_of_parts types ≤ room
  spelled : text ≡ names types ++ 62 ∷ []

-- the names of the parts behind another, and the bracket that closes
record IsOthers (room : ℕ) (text : List ℕ) : Type 0 where
  types : Shapes
  parts : AllHaveParts types
  nests : nesting_of_parts types ≤ room
  spelled : text ≡ names_behind types ++ 62 ∷ []

-- what stands behind the word of a container
record IsBehind (k : Container) (room : ℕ) (text : List ℕ) : Type 0 where
  type : Shape
  parts : HasParts type
  nests : nesting type ≤ room
  spelled : container_text k ++ text ≡ name type

-- what stands behind its open bracket
record IsInside (k : Container) (room : ℕ) (text : List ℕ) : Type 0 where
  type : Shape
  parts : HasParts type
  nests : nesting type ≤ room
  spelled : container_text k ++ 60 ∷ text ≡ name type

abbrev boolean : Shape
boolean = Plain s.Bool

-- any container of booleans
some_inside : (k : Container) (room : ℕ) → (text : List ℕ) × IsInside k (suc room) text
some_inside c.Sequence room = (name boolean ++ 62 ∷ [], record { type = Sequence boolean; parts = tt; nests = omega arith; spelled = refl })
some_inside c.Set room = (name boolean ++ 62 ∷ [], record { type = Set boolean; parts = tt; nests = omega arith; spelled = refl })
some_inside c.Mapping room = (name boolean ++ 44 ∷ (name boolean ++ 62 ∷ []), record { type = Mapping boolean boolean; parts = (tt, tt); nests = omega arith; spelled = refl })
some_inside c.Tuple room = (name boolean ++ 62 ∷ [], record { type = Tuple (more boolean none); parts = (tt, tt); nests = omega arith; spelled = refl })
some_inside c.Variant room = (name boolean ++ 62 ∷ [], record { type = Variant (more boolean none); parts = (tt, tt); nests = omega arith; spelled = refl })

inside_then : (k : Container) (room : ℕ) (text : List ℕ) → IsInside k room text → IsBehind k room (60 ∷ text)
inside_then k room text p = record { type = p.type; parts = p.parts; nests = p.nests; spelled = p.spelled }

-- the open bracket is missing
no_bracket : (k : Container) (room : ℕ) (text : List ℕ) → text ≡ 60 ∷ [] → (tail : List ℕ) × IsBehind k (suc room) (text ++ tail)
no_bracket k room text is =
    let some = some_inside k room in (some.0, subst (λ (t : List ℕ). IsBehind k (suc room) (t ++ some.0)) (sym is) (inside_then k (suc room) some.0 some.1))

-- ---- the brackets

module _ (room : ℕ) (inner : ℕ → List ℕ → Read Shape) (takes : (n : ℕ) → IsReader room (inner n)) (again : (n : ℕ) → Reads room (inner n)) (stops : (n : ℕ) (bytes : List ℕ) (fault : TypeFault) → inner n bytes ≡ Err fault → Stops (IsName (suc room)) inner n bytes fault) where
  reads_on : (n : ℕ) (bytes : List ℕ) (x : Shape × List ℕ) → inner n bytes ≡ Ok x → (other : List ℕ) (m : ℕ) → (EndsWord x.1 → EndsWord other) → inner m (name x.0 ++ other) ≡ Ok (x.0, other)
  reads_on n bytes x e other m h =
      let p = takes n bytes x e in again m x.0 other p.parts p.nests (ends_on x.0 x.1 other p.ends h)

  shorter : (n : ℕ) (bytes : List ℕ) (x : Shape × List ℕ) → inner n bytes ≡ Ok x → length x.1 ≤ length bytes
  shorter n bytes x e = let p = takes n bytes x e in omega (arith, ap length p.spelled, length-append (name x.0) x.1)

  abbrev after_one : ℕ → Shape × List ℕ → Read Shape
  after_one n t = expect n 62 t.1 >>= λ rest. Ok (t.0, rest)

  close_stops : (t : Shape) (n : ℕ) (bytes : List ℕ) (fault : TypeFault) → after_one n (t, bytes) ≡ Err fault → Stops (λ text. text ≡ 62 ∷ []) (λ m b. after_one m (t, b)) n bytes fault
  close_stops t n bytes fault e =
      elim (bind_err (expect n 62 bytes) (λ rest. Ok (t, rest)) fault e) [
        | inl h ↦ mapped (λ text. text ≡ 62 ∷ []) (λ m b. expect m 62 b) (λ rest. (t, rest)) n bytes fault (expect_stops 62 n bytes fault h)
        | inr h ↦ absurd (no_fault (t, h.0) fault h.2)
      ]

  one_stops : (n : ℕ) (bytes : List ℕ) (fault : TypeFault) → one (inner n) n bytes ≡ Err fault → Stops (IsClosed (suc room)) (λ m b. one (inner m) m b) n bytes fault
  unfolding one
  one_stops n bytes fault e =
      elim (bind_err (inner n bytes) (after_one n) fault e) [
        | inl h ↦ first_stops (IsName (suc room)) (IsClosed (suc room)) inner after_one n bytes fault (stops n bytes fault h) (λ text p. (62 ∷ [], record { type = p.type; parts = p.parts; nests = p.nests; spelled = ap (λ (t : List ℕ). t ++ 62 ∷ []) p.spelled }))
        | inr h ↦
            let p = takes n bytes h.0 h.1 in
            second_stops (λ text. text ≡ 62 ∷ []) (IsClosed (suc room)) inner after_one (λ b. (h.0.0, b)) (name h.0.0) h.0.1 bytes n fault p.spelled (reads_on n bytes h.0 h.1) (close_stops h.0.0 n h.0.1 fault h.2)
            (λ text is. ([], record { type = h.0.0; parts = p.parts; nests = omega (arith, p.nests); spelled = rw is refl }))
      ]

  abbrev after_comma : Shape → ℕ → List ℕ → Read (Shape × Shape)
  after_comma k n middle = one (inner n) n middle >>= λ v. Ok ((k, v.0), v.1)

  abbrev after_key : ℕ → Shape × List ℕ → Read (Shape × Shape)
  after_key n k = expect n 44 k.1 >>= after_comma k.0 n

  second_type_stops : (k : Shape) (n : ℕ) (bytes : List ℕ) (fault : TypeFault) → after_key n (k, bytes) ≡ Err fault → Stops (IsSecond (suc room)) (λ m b. after_key m (k, b)) n bytes fault
  second_type_stops k n bytes fault e =
      elim (bind_err (expect n 44 bytes) (after_comma k n) fault e) [
        | inl h ↦
            first_stops (λ text. text ≡ 44 ∷ []) (IsSecond (suc room)) (λ m b. expect m 44 b) (after_comma k) n bytes fault (expect_stops 44 n bytes fault h)
            (λ text is. (name boolean ++ 62 ∷ [], record { type = boolean; parts = tt; nests = omega arith; spelled = rw is refl }))
        | inr h ↦
            elim (bind_err (one (inner n) n h.0) (λ v. Ok ((k, v.0), v.1)) fault h.2) [
              | inl j ↦
                  second_stops (IsClosed (suc room)) (IsSecond (suc room)) (λ m b. expect m 44 b) (after_comma k) (λ b. b) (44 ∷ []) h.0 bytes n fault (expect_takes n 44 bytes h.0 h.1) (λ other m ends. refl)
                  (mapped (IsClosed (suc room)) (λ m b. one (inner m) m b) (λ v. ((k, v.0), v.1)) n h.0 fault (one_stops n h.0 fault j))
                  (λ text p. ([], record { type = p.type; parts = p.parts; nests = p.nests; spelled = ap (λ (t : List ℕ). 44 ∷ t) (append-nil text ∙ p.spelled) }))
              | inr j ↦ absurd (no_fault ((k, j.0.0), j.0.1) fault j.2)
            ]
      ]

  two_stops : (n : ℕ) (bytes : List ℕ) (fault : TypeFault) → two (inner n) n bytes ≡ Err fault → Stops (IsPair (suc room)) (λ m b. two (inner m) m b) n bytes fault
  unfolding two
  two_stops n bytes fault e =
      elim (bind_err (inner n bytes) (after_key n) fault e) [
        | inl h ↦
            first_stops (IsName (suc room)) (IsPair (suc room)) inner after_key n bytes fault (stops n bytes fault h)
            (λ text p. (44 ∷ (name boolean ++ 62 ∷ []), record { key = p.type; value = boolean; parts = (p.parts, tt); nests = (p.nests, omega arith); spelled = ap (λ (t : List ℕ). t ++ 44 ∷ (name boolean ++ 62 ∷ [])) p.spelled }))
        | inr h ↦
            let p = takes n bytes h.0 h.1 in
            second_stops (IsSecond (suc room)) (IsPair (suc room)) inner after_key (λ b. (h.0.0, b)) (name h.0.0) h.0.1 bytes n fault p.spelled (reads_on n bytes h.0 h.1) (second_type_stops h.0.0 n h.0.1 fault h.2)
            (λ text q. ([], record { key = h.0.0; value = q.type; parts = (p.parts, q.parts); nests = (omega (arith, p.nests), q.nests); spelled = ap (λ (t : List ℕ). name h.0.0 ++ t) (append-nil text ∙ q.spelled) }))
      ]

  -- ---- the parts

  abbrev after_part : (List ℕ → Read Shapes) → ℕ → Shape × List ℕ → Read Shapes
  after_part following n t = separator n t.1 >>= others following t.0

  -- it is the same whatever reads the parts behind the comma, if that does the same to what is left there
  same_behind : (f g : List ℕ → Read Shapes) (t : Shape) (r : Read Bool) → ((rest : List ℕ) → r ≡ Ok (true, rest) → f rest ≡ g rest) → (r >>= others f t) ≡ (r >>= others g t)
  same_behind f g t (Err e) same = refl
  same_behind f g t (Ok (true, rest)) same = rw (same rest refl) refl
  same_behind f g t (Ok (false, rest)) same = refl

  same_steps : (f g : List ℕ → Read Shapes) (n : ℕ) (bytes : List ℕ) → ((rest : List ℕ) → length rest < length bytes → f rest ≡ g rest) → (r : Read Shape) → inner n bytes ≡ r → (r >>= after_part f n) ≡ (r >>= after_part g n)
  same_steps f g n bytes same (Err e) is = refl
  same_steps f g n bytes same (Ok t) is =
      same_behind f g t.0 (separator n t.1) (λ rest e. same rest (omega (arith, shorter n bytes t is, ap length (separator_takes n t.1 (true, rest) e))))

  enough : (n k j : ℕ) (bytes : List ℕ) → length bytes < k → length bytes < j → parts (inner n) n k bytes ≡ parts (inner n) n j bytes
  enough n zero j bytes h i = absurd (omega arith)
  enough n (suc k) zero bytes h i = absurd (omega arith)
  enough n (suc k) (suc j) bytes h i =
      same_steps (parts (inner n) n k) (parts (inner n) n j) n bytes (λ rest lt. enough n k j rest (omega arith) (omega arith)) (inner n bytes) refl

  abbrev all : ℕ → List ℕ → Read Shapes
  all n bytes = all_parts (inner n) n bytes

  in_turn : (n : ℕ) (bytes : List ℕ) → (inner n bytes >>= after_part (all n) n) ≡ all n bytes
  unfolding all_parts
  in_turn n bytes =
      same_steps (all n) (parts (inner n) n (length bytes)) n bytes (λ rest lt. enough n (suc (length rest)) (length bytes) rest (omega arith) lt) (inner n bytes) refl

  module _ (t : Shape) (n : ℕ) (bytes : List ℕ) (fault : TypeFault) (following : (rest : List ℕ) → length rest < length bytes → all n rest ≡ Err fault → Stops (IsParts (suc room)) all n rest fault) where
    next_stops : (r : Bool × List ℕ) → separator n bytes ≡ Ok r → others (all n) t r ≡ Err fault → Stops (IsOthers (suc room)) (λ m b. after_part (all m) m (t, b)) n bytes fault
    next_stops (true, rest) is e =
        elim (bind_err (all n rest) (λ ts. Ok (more t ts.0, ts.1)) fault e) [
          | inl h ↦
              let comma = separator_takes n bytes (true, rest) is in
              second_stops (IsParts (suc room)) (IsOthers (suc room)) separator (λ m r. others (all m) t r) (λ b. (true, b)) (44 ∷ []) rest bytes n fault comma (λ other m ends. refl)
              (mapped (IsParts (suc room)) all (λ ts. (more t ts.0, ts.1)) n rest fault (following rest (omega (arith, ap length comma)) h))
              (λ text p. ([], record { types = p.types; parts = all_from_some p.types p.parts; nests = p.nests; spelled = ap (λ (b : List ℕ). 44 ∷ b) (append-nil text ∙ p.spelled) ∙ names_then p.types (62 ∷ []) p.parts }))
          | inr h ↦ absurd (no_fault (more t h.0.0, h.0.1) fault h.2)
        ]
    next_stops (false, rest) is e = absurd (no_fault (more t none, rest) fault e)

    after_part_stops : after_part (all n) n (t, bytes) ≡ Err fault → Stops (IsOthers (suc room)) (λ m b. after_part (all m) m (t, b)) n bytes fault
    after_part_stops e =
        elim (bind_err (separator n bytes) (others (all n) t) fault e) [
          | inl h ↦
              first_stops (λ text. text ≡ 62 ∷ []) (IsOthers (suc room)) separator (λ m r. others (all m) t r) n bytes fault (separator_stops n bytes fault h)
              (λ text is. ([], record { types = none; parts = tt; nests = omega arith; spelled = rw is refl }))
          | inr h ↦ next_stops h.0 h.1 h.2
        ]

  parts_stop : (k n : ℕ) (bytes : List ℕ) (fault : TypeFault) → length bytes < k → all n bytes ≡ Err fault → Stops (IsParts (suc room)) all n bytes fault
  parts_stop zero n bytes fault lt e = absurd (omega arith)
  parts_stop (suc k) n bytes fault lt e =
      same_reader (IsParts (suc room)) (λ m b. inner m b >>= after_part (all m) m) all n bytes fault in_turn
      (elim (bind_err (inner n bytes) (after_part (all n) n) fault (in_turn n bytes ∙ e)) [
        | inl h ↦
            first_stops (IsName (suc room)) (IsParts (suc room)) inner (λ m t. after_part (all m) m t) n bytes fault (stops n bytes fault h)
            (λ text p. (62 ∷ [], record { types = more p.type none; parts = (p.parts, tt); nests = omega (arith, p.nests); spelled = ap (λ (b : List ℕ). b ++ 62 ∷ []) (p.spelled ∙ sym (append-nil (name p.type))) }))
        | inr h ↦
            let p = takes n bytes h.0 h.1 in
            let less = shorter n bytes h.0 h.1 in
            second_stops (IsOthers (suc room)) (IsParts (suc room)) inner (λ m t. after_part (all m) m t) (λ b. (h.0.0, b)) (name h.0.0) h.0.1 bytes n fault p.spelled (reads_on n bytes h.0 h.1)
            (after_part_stops h.0.0 n h.0.1 fault (λ rest shorter_rest f. parts_stop k n rest fault (omega (arith, less)) f) h.2)
            (λ text q. (
              [],
              record {
                types = more h.0.0 q.types;
                parts = (p.parts, q.parts);
                nests = omega (arith, p.nests, q.nests);
                spelled = ap (λ (b : List ℕ). name h.0.0 ++ b) (append-nil text ∙ q.spelled) ∙ sym (append_assoc (name h.0.0) (names_behind q.types) (62 ∷ []));
              },
            ))
      ])

  all_stop : (n : ℕ) (bytes : List ℕ) (fault : TypeFault) → all n bytes ≡ Err fault → Stops (IsParts (suc room)) all n bytes fault
  all_stop n bytes fault e = parts_stop (suc (length bytes)) n bytes fault (omega arith) e

  -- ---- a container

  around : (word text inner : List ℕ) → text ≡ inner ++ 62 ∷ [] → word ++ 60 ∷ (text ++ []) ≡ word ++ 60 ∷ [] ++ inner ++ 62 ∷ []
  around word text inner is = rw (append-nil text, is) (simp append_assoc)

  inside_stops : (k : Container) (n : ℕ) (bytes : List ℕ) (fault : TypeFault) → inside (inner n) n k bytes ≡ Err fault → Stops (IsInside k (suc (suc room))) (λ m b. inside (inner m) m k b) n bytes fault
  unfolding inside
  inside_stops c.Sequence n bytes fault e =
      elim (bind_err (one (inner n) n bytes) (λ t. Ok (Sequence t.0, t.1)) fault e) [
        | inl h ↦
            first_stops (IsClosed (suc room)) (IsInside c.Sequence (suc (suc room))) (λ m b. one (inner m) m b) (λ m t. Ok (Sequence t.0, t.1)) n bytes fault (one_stops n bytes fault h)
            (λ text p. ([], record { type = Sequence p.type; parts = p.parts; nests = omega (arith, p.nests); spelled = around (container_text c.Sequence) text (name p.type) p.spelled }))
        | inr h ↦ absurd (no_fault (Sequence h.0.0, h.0.1) fault h.2)
      ]
  inside_stops c.Set n bytes fault e =
      elim (bind_err (one (inner n) n bytes) (λ t. Ok (Set t.0, t.1)) fault e) [
        | inl h ↦
            first_stops (IsClosed (suc room)) (IsInside c.Set (suc (suc room))) (λ m b. one (inner m) m b) (λ m t. Ok (Set t.0, t.1)) n bytes fault (one_stops n bytes fault h)
            (λ text p. ([], record { type = Set p.type; parts = p.parts; nests = omega (arith, p.nests); spelled = around (container_text c.Set) text (name p.type) p.spelled }))
        | inr h ↦ absurd (no_fault (Set h.0.0, h.0.1) fault h.2)
      ]
  inside_stops c.Mapping n bytes fault e =
      elim (bind_err (two (inner n) n bytes) (λ t. Ok (Mapping t.0.0 t.0.1, t.1)) fault e) [
        | inl h ↦
            first_stops (IsPair (suc room)) (IsInside c.Mapping (suc (suc room))) (λ m b. two (inner m) m b) (λ m t. Ok (Mapping t.0.0 t.0.1, t.1)) n bytes fault (two_stops n bytes fault h)
            (λ text p. (
              [],
              record {
                type = Mapping p.key p.value;
                parts = p.parts;
                nests = omega (arith, p.nests.0, p.nests.1);
                spelled = around (container_text c.Mapping) text (name p.key ++ 44 ∷ [] ++ name p.value) (p.spelled ∙ simp append_assoc) ∙ simp append_assoc;
              },
            ))
        | inr h ↦ absurd (no_fault (Mapping h.0.0.0 h.0.0.1, h.0.1) fault h.2)
      ]
  inside_stops c.Tuple n bytes fault e =
      elim (bind_err (all n bytes) (λ t. Ok (Tuple t.0, t.1)) fault e) [
        | inl h ↦
            first_stops (IsParts (suc room)) (IsInside c.Tuple (suc (suc room))) all (λ m t. Ok (Tuple t.0, t.1)) n bytes fault (all_stop n bytes fault h)
            (λ text p. ([], record { type = Tuple p.types; parts = p.parts; nests = omega (arith, p.nests); spelled = around (container_text c.Tuple) text (names p.types) p.spelled }))
        | inr h ↦ absurd (no_fault (Tuple h.0.0, h.0.1) fault h.2)
      ]
  inside_stops c.Variant n bytes fault e =
      elim (bind_err (all n bytes) (λ t. Ok (Variant t.0, t.1)) fault e) [
        | inl h ↦
            first_stops (IsParts (suc room)) (IsInside c.Variant (suc (suc room))) all (λ m t. Ok (Variant t.0, t.1)) n bytes fault (all_stop n bytes fault h)
            (λ text p. ([], record { type = Variant p.types; parts = p.parts; nests = omega (arith, p.nests); spelled = around (container_text c.Variant) text (names p.types) p.spelled }))
        | inr h ↦ absurd (no_fault (Variant h.0.0, h.0.1) fault h.2)
      ]

  opened_stops : (k : Container) (n : ℕ) (bytes : List ℕ) (fault : TypeFault) → opened (inner n) n k bytes ≡ Err fault → Stops (IsBehind k (suc (suc room))) (λ m b. opened (inner m) m k b) n bytes fault
  unfolding opened
  opened_stops k n bytes fault e =
      elim (bind_err (expect n 60 bytes) (inside (inner n) n k) fault e) [
        | inl h ↦
            first_stops (λ text. text ≡ 60 ∷ []) (IsBehind k (suc (suc room))) (λ m b. expect m 60 b) (λ m b. inside (inner m) m k b) n bytes fault (expect_stops 60 n bytes fault h) (no_bracket k (suc room))
        | inr h ↦
            second_stops (IsInside k (suc (suc room))) (IsBehind k (suc (suc room))) (λ m b. expect m 60 b) (λ m b. inside (inner m) m k b) (λ b. b) (60 ∷ []) h.0 bytes n fault (expect_takes n 60 bytes h.0 h.1) (λ other m ends. refl) (inside_stops k n h.0 fault h.2)
            (λ text p. ([], subst (λ (t : List ℕ). IsBehind k (suc (suc room)) (60 ∷ t)) (sym (append-nil text)) (inside_then k (suc (suc room)) text p)))
      ]

-- ---- where no bracket may open

same_bracket : (bytes rest other : List ℕ) → bytes ≡ 60 ∷ rest → SameToken bytes other → (behind : List ℕ) × (other ≡ 60 ∷ behind)
same_bracket [] rest other is same = absurd cc
same_bracket (b ∷ bytes) rest [] is same = absurd same
same_bracket (b ∷ bytes) rest (d ∷ other) is same = (other, let first : b ≡ 60 = cc in ap (λ (n : ℕ). n ∷ other) (same.0 ∙ first))

refused_stops : (k : Container) (n : ℕ) (bytes : List ℕ) (fault : TypeFault) → refused n k bytes ≡ Err fault → Stops (IsBehind k 1) (λ m b. refused m k b) n bytes fault
unfolding refused
refused_stops k n bytes fault e =
    elim (bind_err (expect n 60 bytes) (λ rest. Err (Deep (n - length bytes))) fault e) [
      | inl h ↦
          let p = expect_stops 60 n bytes fault h in
          let t = no_bracket k 0 (p.front ++ p.more) p.whole in record {
            front = p.front;
            rest = p.rest;
            parts = p.parts;
            kind = p.kind;
            placed = p.placed;
            at = p.at;
            more = p.more ++ t.0;
            whole = subst (IsBehind k 1) (append_assoc p.front p.more t.0) t.1;
            stays = λ other m same. rw (p.stays other m same) refl;
          }
      | inr h ↦
          let some = some_inside k 0 in
          let starts = expect_takes n 60 bytes h.0 h.1 in record {
            front = [];
            rest = bytes;
            parts = refl;
            kind = Deep;
            placed = λ m. refl;
            at = sym (err_is {A = Shape × List ℕ} (Deep (n - length bytes)) fault h.2);
            more = 60 ∷ some.0;
            whole = inside_then k 1 some.0 some.1;
            stays = λ other m same. let p = same_bracket bytes h.0 other starts same in rw p.1 refl;
          }
    ]

-- ---- a whole type

module _ (room limit : ℕ) (brackets : (k : Container) (n : ℕ) (bytes : List ℕ) (fault : TypeFault) → container_at n room k bytes ≡ Err fault → Stops (IsBehind k limit) (λ m b. container_at m room k b) n bytes fault) where
  by_name_stops : (n : ℕ) (bytes : List ℕ) (fault : TypeFault) (scalar : Option Scalar) (container : Option Container) → scalar_named (word bytes) ≡ scalar → container_named (word bytes) ≡ container → type_at n room bytes ≡ Err fault → Stops (IsName limit) (λ m b. type_at m room b) n bytes fault
  by_name_stops n bytes fault (Some k) container is other e = absurd (no_fault (Plain k, after_word bytes) fault (sym (type_is_scalar n room bytes k is) ∙ e))
  by_name_stops n bytes fault None (Some k) no_scalar is e =
      let p = brackets k n (after_word bytes) fault (sym (type_is_container n room bytes k no_scalar is) ∙ e) in
      let head : bytes ≡ container_text k ++ after_word bytes = word_parts bytes ∙ ap (λ (w : List ℕ). w ++ after_word bytes) (sym (container_is (word bytes) k is)) in
      record {
        front = container_text k ++ p.front;
        rest = p.rest;
        parts = head ∙ ap (λ (b : List ℕ). container_text k ++ b) p.parts ∙ sym (append_assoc (container_text k) p.front p.rest);
        kind = p.kind;
        placed = p.placed;
        at = p.at;
        more = p.more;
        whole = record { type = p.whole.type; parts = p.whole.parts; nests = p.whole.nests; spelled = append_assoc (container_text k) p.front p.more ∙ p.whole.spelled };
        stays = λ other m same.
            let behind = p.front ++ other in
            let ends : EndsWord behind = ends_alike p.front p.rest other same (subst EndsWord p.parts (after_ends bytes)) in
            let w = word_again (container_text k) behind (container_word k) ends in
            let a = after_word_again (container_text k) behind (container_word k) ends in
            ap (type_at m room) (append_assoc (container_text k) p.front other)
            ∙ type_is_container m room (container_text k ++ behind) k (ap scalar_named w ∙ container_no_scalar k) (ap container_named w ∙ container_again k)
            ∙ ap (container_at m room k) a ∙ p.stays other m same;
      }
  by_name_stops n bytes fault None None no_scalar no_container e =
      record {
        front = [];
        rest = bytes;
        parts = refl;
        kind = NotAType;
        placed = λ m. refl;
        at = sym (err_is {A = Shape × List ℕ} (NotAType (n - length bytes)) fault (sym (type_is_none n room bytes no_scalar no_container) ∙ e));
        more = name boolean;
        whole = record { type = boolean; parts = tt; nests = omega arith; spelled = refl };
        stays = λ other m same.
            let w = same_word bytes other same in type_is_none m room other (ap scalar_named w ∙ no_scalar) (ap container_named w ∙ no_container);
      }

abbrev StopsAt : ℕ → Type 0
StopsAt room = (n : ℕ) (bytes : List ℕ) (fault : TypeFault) → type_at n room bytes ≡ Err fault → Stops (IsName (suc room)) (λ m b. type_at m room b) n bytes fault

no_room : (k : Container) (n : ℕ) (bytes : List ℕ) (fault : TypeFault) → container_at n zero k bytes ≡ Err fault → Stops (IsBehind k 1) (λ m b. container_at m zero k b) n bytes fault
unfolding container_at
no_room k n bytes fault e = refused_stops k n bytes fault e

some_room : (room : ℕ) → StopsAt room → (k : Container) (n : ℕ) (bytes : List ℕ) (fault : TypeFault) → container_at n (suc room) k bytes ≡ Err fault → Stops (IsBehind k (suc (suc room))) (λ m b. container_at m (suc room) k b) n bytes fault
unfolding container_at
some_room room stops k n bytes fault e = opened_stops room (λ m b. type_at m room b) (λ m. type_takes m room) (λ m. type_again m room) stops k n bytes fault e

pub type_stops : (room : ℕ) → StopsAt room
type_stops zero n bytes fault e = by_name_stops zero 1 no_room n bytes fault (scalar_named (word bytes)) (container_named (word bytes)) refl refl e
type_stops (suc room) n bytes fault e = by_name_stops (suc room) (suc (suc room)) (some_room room (type_stops room)) n bytes fault (scalar_named (word bytes)) (container_named (word bytes)) refl refl e
