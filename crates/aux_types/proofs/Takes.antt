-- What is read is spelled so: a type that is read has its name in front of the bytes that are left.
use Rattle.std.proofs.Common.{◌≡◌, ℕ, zero, suc, ◌-◌, ◌≤◌, Bool, true, false, cond, eqb, List, [], ◌∷◌, ◌++◌, length, Option, Some, None, Ok, Err, refl, sym, ap, subst, ◌∙◌, inl, inr, append_assoc, arith}
use Rattle.std.proofs.lemmas.Bool.{eqb-true}
use Rattle.std.proofs.lemmas.List.{length-append}
use Rattle.aux_types.specs.declared.fault.TypeFault.{TypeFault}
use Rattle.aux_types.specs.declared.fault.TypeFault.TheVariants.{Deep}
use Rattle.aux_types.specs.declared.name.Scalar.{Scalar}
use Rattle.aux_types.specs.declared.name.Container.{Container}
use Rattle.aux_types.specs.declared.name.Container.TheVariants as c
use Rattle.aux_types.specs.Gives.{◌>>=◌}
use Rattle.aux_types.specs.Names.{scalar_text, container_text, scalar_named, container_named}
use Rattle.aux_types.specs.Shape.{Shape, Plain, Sequence, Set, Mapping, Tuple, Variant, Shapes, none, more, name, names, names_behind, nesting, nesting_of_parts, HasParts, SomeHaveParts, AllHaveParts}
use Rattle.aux_types.specs.Reading.{Read, unexpected, expect, word, after_word, one, two, separator, others, parts, all_parts, inside, opened, refused, by_name, type_at}
use Rattle.aux_types.proofs.Steps.{bind_ok, ok_is, chosen, expect_takes}
use Rattle.aux_types.proofs.Words.{EndsWord, after_ends, scalar_is, container_is, word_parts}

-- a type's name ends here: no word goes on where it ends in a word
abbrev pub Ends : Shape → List ℕ → Type 0
Ends (Plain k) rest = EndsWord rest
Ends _ rest = Unit {0}

-- where no word goes on each name ends
pub ends_before : (t : Shape) (rest : List ℕ) → EndsWord rest → Ends t rest
ends_before (Plain k) rest e = e
ends_before _ rest e = tt

-- what ends before one text ends before another in which a word goes on no more than there
pub ends_on : (t : Shape) (rest other : List ℕ) → Ends t rest → (EndsWord rest → EndsWord other) → Ends t other
ends_on (Plain k) rest other e h = h e
ends_on _ rest other e h = tt

-- a type that was read: its name stood there and ends, it has its parts, and so many brackets nest at most
pub record Takes (room : ℕ) (bytes : List ℕ) (t : Shape) (rest : List ℕ) : Type 0 where
  pub spelled : bytes ≡ name t ++ rest
  pub parts : HasParts t
  pub nests : nesting t ≤ room
  pub ends : Ends t rest

abbrev pub IsReader : ℕ → (List ℕ → Read Shape) → Type 0
IsReader room inner = (bytes : List ℕ) (x : Shape × List ℕ) → inner bytes ≡ Ok x → Takes room bytes x.0 x.1

-- ---- the brackets

one_takes : (room : ℕ) (inner : List ℕ → Read Shape) → IsReader room inner → (total : ℕ) (bytes : List ℕ) (x : Shape × List ℕ) → one inner total bytes ≡ Ok x → Takes room bytes x.0 (62 ∷ x.1)
unfolding one
one_takes room inner reads total bytes x e =
    let t = bind_ok (inner bytes) (λ t. expect total 62 t.1 >>= λ rest. Ok (t.0, rest)) x e in
    let r = bind_ok (expect total 62 t.0.1) (λ rest. Ok (t.0.0, rest)) x t.2 in
    let is : ◌≡◌ {A = Shape × List ℕ} (t.0.0, r.0) x = ok_is {F = TypeFault} (t.0.0, r.0) x r.2 in
    let whole = reads bytes t.0 t.1 in
    let closes = expect_takes total 62 t.0.1 r.0 r.1 in
    subst (λ (y : Shape × List ℕ). Takes room bytes y.0 (62 ∷ y.1)) is (subst (Takes room bytes t.0.0) closes whole)

two_takes : (room : ℕ) (inner : List ℕ → Read Shape) → IsReader room inner → (total : ℕ) (bytes : List ℕ) (x : (Shape × Shape) × List ℕ) → two inner total bytes ≡ Ok x
    → (middle : List ℕ) × Takes room bytes x.0.0 (44 ∷ middle) × Takes room middle x.0.1 (62 ∷ x.1)
unfolding two
two_takes room inner reads total bytes x e =
    let k = bind_ok (inner bytes) (λ k. expect total 44 k.1 >>= λ middle. one inner total middle >>= λ v. Ok ((k.0, v.0), v.1)) x e in
    let m = bind_ok (expect total 44 k.0.1) (λ middle. one inner total middle >>= λ v. Ok ((k.0.0, v.0), v.1)) x k.2 in
    let v = bind_ok (one inner total m.0) (λ v. Ok ((k.0.0, v.0), v.1)) x m.2 in
    let is : ◌≡◌ {A = (Shape × Shape) × List ℕ} ((k.0.0, v.0.0), v.0.1) x = ok_is {F = TypeFault} ((k.0.0, v.0.0), v.0.1) x v.2 in
    let first = subst (Takes room bytes k.0.0) (expect_takes total 44 k.0.1 m.0 m.1) (reads bytes k.0 k.1) in
    let second = one_takes room inner reads total m.0 v.0 v.1 in
    subst (λ (y : (Shape × Shape) × List ℕ). (middle : List ℕ) × Takes room bytes y.0.0 (44 ∷ middle) × Takes room middle y.0.1 (62 ∷ y.1)) is (m.0, first, second)

-- ---- the parts

pub separator_takes : (total : ℕ) (bytes : List ℕ) (x : Bool × List ℕ) → separator total bytes ≡ Ok x → bytes ≡ cond x.0 44 62 ∷ x.1
separator_takes total [] x e = absurd cc
separator_takes total (b ∷ bytes) x e =
    elim (chosen (eqb b 44) (Ok (true, bytes)) (cond (eqb b 62) (Ok (false, bytes)) (unexpected total (b ∷ bytes))) (Ok x) e) [
      | inl h ↦
          let is : ◌≡◌ {A = Bool × List ℕ} (true, bytes) x = ok_is {F = TypeFault} (true, bytes) x h.1 in
          subst (λ (y : Bool × List ℕ). b ∷ bytes ≡ cond y.0 44 62 ∷ y.1) is (ap (λ (n : ℕ). n ∷ bytes) (eqb-true b 44 h.0))
      | inr h ↦
          elim (chosen (eqb b 62) (Ok (false, bytes)) (unexpected total (b ∷ bytes)) (Ok x) h.1) [
            | inl k ↦
                let is : ◌≡◌ {A = Bool × List ℕ} (false, bytes) x = ok_is {F = TypeFault} (false, bytes) x k.1 in
                subst (λ (y : Bool × List ℕ). b ∷ bytes ≡ cond y.0 44 62 ∷ y.1) is (ap (λ (n : ℕ). n ∷ bytes) (eqb-true b 62 k.0))
            | inr k ↦ absurd cc
          ]
    ]

-- parts that were read
record TakesParts (room : ℕ) (bytes : List ℕ) (ts : Shapes) (rest : List ℕ) : Type 0 where
  spelled : bytes ≡ names ts ++ rest
  parts : SomeHaveParts ts
  nests : nesting_of_parts ts ≤ room

last_part : (room : ℕ) (bytes : List ℕ) (t : Shape) (rest : List ℕ) → Takes room bytes t rest → TakesParts room bytes (more t none) rest
last_part room bytes t rest p = record { spelled = p.spelled ∙ simp append_assoc; parts = (p.parts, tt); nests = omega (arith, p.nests) }

pub all_from_some : (ts : Shapes) → SomeHaveParts ts → AllHaveParts ts
all_from_some none h = tt
all_from_some (more t ts) h = h

pub names_then : (ts : Shapes) (rest : List ℕ) → SomeHaveParts ts → 44 ∷ (names ts ++ rest) ≡ names_behind ts ++ rest
names_then none rest h = absurd h
names_then (more t ts) rest h = simp append_assoc

next_part : (room : ℕ) (bytes : List ℕ) (t : Shape) (following : List ℕ) (ts : Shapes) (rest : List ℕ) → Takes room bytes t (44 ∷ following) → TakesParts room following ts rest → TakesParts room bytes (more t ts) rest
next_part room bytes t following ts rest p q =
    let behind : 44 ∷ following ≡ names_behind ts ++ rest = ap (λ (bs : List ℕ). 44 ∷ bs) q.spelled ∙ names_then ts rest q.parts in
    record {
      spelled = p.spelled ∙ ap (λ (bs : List ℕ). name t ++ bs) behind ∙ sym (append_assoc (name t) (names_behind ts) rest);
      parts = (p.parts, all_from_some ts q.parts);
      nests = omega (arith, p.nests, q.nests);
    }

module _ (room : ℕ) (inner : List ℕ → Read Shape) (reads : IsReader room inner) (total : ℕ) where
  others_take : (following : List ℕ → Read Shapes)
      → ((bytes : List ℕ) (x : Shapes × List ℕ) → following bytes ≡ Ok x → TakesParts room bytes x.0 (62 ∷ x.1))
      → (bytes : List ℕ) (t : Shape) (s : Bool × List ℕ) (x : Shapes × List ℕ) → Takes room bytes t (cond s.0 44 62 ∷ s.1) → others following t s ≡ Ok x → TakesParts room bytes x.0 (62 ∷ x.1)
  others_take following follow bytes t (true, rest) x p e =
      let ts = bind_ok (following rest) (λ ts. Ok (more t ts.0, ts.1)) x e in
      let is : ◌≡◌ {A = Shapes × List ℕ} (more t ts.0.0, ts.0.1) x = ok_is {F = TypeFault} (more t ts.0.0, ts.0.1) x ts.2 in
      subst (λ (y : Shapes × List ℕ). TakesParts room bytes y.0 (62 ∷ y.1)) is (next_part room bytes t rest ts.0.0 (62 ∷ ts.0.1) p (follow rest ts.0 ts.1))
  others_take following follow bytes t (false, rest) x p e =
      let is : ◌≡◌ {A = Shapes × List ℕ} (more t none, rest) x = ok_is {F = TypeFault} (more t none, rest) x e in
      subst (λ (y : Shapes × List ℕ). TakesParts room bytes y.0 (62 ∷ y.1)) is (last_part room bytes t (62 ∷ rest) p)

  parts_take : (n : ℕ) (bytes : List ℕ) (x : Shapes × List ℕ) → parts inner total n bytes ≡ Ok x → TakesParts room bytes x.0 (62 ∷ x.1)
  parts_take zero bytes x e = absurd cc
  parts_take (suc n) bytes x e =
      let t = bind_ok (inner bytes) (λ t. separator total t.1 >>= λ s. others (parts inner total n) t.0 s) x e in
      let s = bind_ok (separator total t.0.1) (λ s. others (parts inner total n) t.0.0 s) x t.2 in
      let first = subst (Takes room bytes t.0.0) (separator_takes total t.0.1 s.0 s.1) (reads bytes t.0 t.1) in
      others_take (parts inner total n) (parts_take n) bytes t.0.0 s.0 x first s.2

  all_parts_take : (bytes : List ℕ) (x : Shapes × List ℕ) → all_parts inner total bytes ≡ Ok x → TakesParts room bytes x.0 (62 ∷ x.1)
  unfolding all_parts
  all_parts_take bytes x e = parts_take (suc (length bytes)) bytes x e

-- ---- a whole type

-- a container that was read behind its word
abbrev IsContainerReader : ℕ → (Container → List ℕ → Read Shape) → Type 0
IsContainerReader room brackets = (k : Container) (bytes : List ℕ) (x : Shape × List ℕ) → brackets k bytes ≡ Ok x → Takes room (container_text k ++ bytes) x.0 x.1

bracket : (word inner rest bytes : List ℕ) → bytes ≡ inner ++ 62 ∷ rest → word ++ 60 ∷ bytes ≡ (word ++ 60 ∷ [] ++ inner ++ 62 ∷ []) ++ rest
bracket word inner rest bytes e = rw e (simp append_assoc)

module _ (room : ℕ) (inner : List ℕ → Read Shape) (reads : IsReader room inner) (total : ℕ) where
  inside_takes : (k : Container) (bytes : List ℕ) (x : Shape × List ℕ) → inside inner total k bytes ≡ Ok x → Takes (suc room) (container_text k ++ 60 ∷ bytes) x.0 x.1
  unfolding inside
  inside_takes c.Sequence bytes x e =
      let t = bind_ok (one inner total bytes) (λ t. Ok (Sequence t.0, t.1)) x e in
      let is : ◌≡◌ {A = Shape × List ℕ} (Sequence t.0.0, t.0.1) x = ok_is {F = TypeFault} (Sequence t.0.0, t.0.1) x t.2 in
      let p = one_takes room inner reads total bytes t.0 t.1 in
      subst (λ (y : Shape × List ℕ). Takes (suc room) (container_text c.Sequence ++ 60 ∷ bytes) y.0 y.1) is (record { spelled = bracket (container_text c.Sequence) (name t.0.0) t.0.1 bytes p.spelled; parts = p.parts; nests = omega (arith, p.nests); ends = tt })
  inside_takes c.Set bytes x e =
      let t = bind_ok (one inner total bytes) (λ t. Ok (Set t.0, t.1)) x e in
      let is : ◌≡◌ {A = Shape × List ℕ} (Set t.0.0, t.0.1) x = ok_is {F = TypeFault} (Set t.0.0, t.0.1) x t.2 in
      let p = one_takes room inner reads total bytes t.0 t.1 in
      subst (λ (y : Shape × List ℕ). Takes (suc room) (container_text c.Set ++ 60 ∷ bytes) y.0 y.1) is (record { spelled = bracket (container_text c.Set) (name t.0.0) t.0.1 bytes p.spelled; parts = p.parts; nests = omega (arith, p.nests); ends = tt })
  inside_takes c.Mapping bytes x e =
      let t = bind_ok (two inner total bytes) (λ t. Ok (Mapping t.0.0 t.0.1, t.1)) x e in
      let is : ◌≡◌ {A = Shape × List ℕ} (Mapping t.0.0.0 t.0.0.1, t.0.1) x = ok_is {F = TypeFault} (Mapping t.0.0.0 t.0.0.1, t.0.1) x t.2 in
      let p = two_takes room inner reads total bytes t.0 t.1 in
      let both : bytes ≡ (name t.0.0.0 ++ 44 ∷ [] ++ name t.0.0.1) ++ 62 ∷ t.0.1 = p.1.spelled ∙ rw p.2.spelled (simp append_assoc) in
      let whole : container_text c.Mapping ++ 60 ∷ bytes ≡ name (Mapping t.0.0.0 t.0.0.1) ++ t.0.1 = bracket (container_text c.Mapping) (name t.0.0.0 ++ 44 ∷ [] ++ name t.0.0.1) t.0.1 bytes both ∙ simp append_assoc in
      subst (λ (y : Shape × List ℕ). Takes (suc room) (container_text c.Mapping ++ 60 ∷ bytes) y.0 y.1) is (record { spelled = whole; parts = (p.1.parts, p.2.parts); nests = omega (arith, p.1.nests, p.2.nests); ends = tt })
  inside_takes c.Tuple bytes x e =
      let t = bind_ok (all_parts inner total bytes) (λ t. Ok (Tuple t.0, t.1)) x e in
      let is : ◌≡◌ {A = Shape × List ℕ} (Tuple t.0.0, t.0.1) x = ok_is {F = TypeFault} (Tuple t.0.0, t.0.1) x t.2 in
      let p = all_parts_take room inner reads total bytes t.0 t.1 in
      subst (λ (y : Shape × List ℕ). Takes (suc room) (container_text c.Tuple ++ 60 ∷ bytes) y.0 y.1) is (record { spelled = bracket (container_text c.Tuple) (names t.0.0) t.0.1 bytes p.spelled; parts = p.parts; nests = omega (arith, p.nests); ends = tt })
  inside_takes c.Variant bytes x e =
      let t = bind_ok (all_parts inner total bytes) (λ t. Ok (Variant t.0, t.1)) x e in
      let is : ◌≡◌ {A = Shape × List ℕ} (Variant t.0.0, t.0.1) x = ok_is {F = TypeFault} (Variant t.0.0, t.0.1) x t.2 in
      let p = all_parts_take room inner reads total bytes t.0 t.1 in
      subst (λ (y : Shape × List ℕ). Takes (suc room) (container_text c.Variant ++ 60 ∷ bytes) y.0 y.1) is (record { spelled = bracket (container_text c.Variant) (names t.0.0) t.0.1 bytes p.spelled; parts = p.parts; nests = omega (arith, p.nests); ends = tt })

  opened_takes : IsContainerReader (suc room) (opened inner total)
  unfolding opened
  opened_takes k bytes x e =
      let r = bind_ok (expect total 60 bytes) (λ rest. inside inner total k rest) x e in
      subst (λ (bs : List ℕ). Takes (suc room) (container_text k ++ bs) x.0 x.1) (sym (expect_takes total 60 bytes r.0 r.1)) (inside_takes k r.0 x r.2)

refused_takes : (total : ℕ) → IsContainerReader 0 (refused total)
unfolding refused
refused_takes total k bytes x e =
    let r = bind_ok (expect total 60 bytes) (λ rest. Err (Deep (total - length bytes))) x e in absurd cc

by_name_takes : (room : ℕ) (brackets : Container → List ℕ → Read Shape) → IsContainerReader room brackets → (total : ℕ) (bytes : List ℕ) (s : Option Scalar) (k : Option Container)
    → scalar_named (word bytes) ≡ s → container_named (word bytes) ≡ k → (x : Shape × List ℕ) → by_name brackets total bytes s k ≡ Ok x → Takes room bytes x.0 x.1
by_name_takes room brackets reads total bytes (Some s) k s_is k_is x e =
    let is : ◌≡◌ {A = Shape × List ℕ} (Plain s, after_word bytes) x = ok_is {F = TypeFault} (Plain s, after_word bytes) x e in
    let spelled : bytes ≡ scalar_text s ++ after_word bytes = word_parts bytes ∙ ap (λ (w : List ℕ). w ++ after_word bytes) (sym (scalar_is (word bytes) s s_is)) in
    subst (λ (y : Shape × List ℕ). Takes room bytes y.0 y.1) is (record { spelled = spelled; parts = tt; nests = omega arith; ends = after_ends bytes })
by_name_takes room brackets reads total bytes None (Some k) s_is k_is x e =
    let spelled : container_text k ++ after_word bytes ≡ bytes = ap (λ (w : List ℕ). w ++ after_word bytes) (container_is (word bytes) k k_is) ∙ sym (word_parts bytes) in
    subst (λ (bs : List ℕ). Takes room bs x.0 x.1) spelled (reads k (after_word bytes) x e)
by_name_takes room brackets reads total bytes None None s_is k_is x e = absurd cc

pub type_takes : (total room : ℕ) → IsReader room (type_at total room)
unfolding type_at
type_takes total zero bytes x e = by_name_takes 0 (refused total) (refused_takes total) total bytes _ _ refl refl x e
type_takes total (suc room) bytes x e =
    by_name_takes (suc room) (opened (type_at total room) total) (opened_takes room (type_at total room) (type_takes total room) total) total bytes _ _ refl refl x e

-- what is left is no longer than what there was
pub type_shorter : (total room : ℕ) (bytes : List ℕ) (x : Shape × List ℕ) → type_at total room bytes ≡ Ok x → length x.1 ≤ length bytes
type_shorter total room bytes x e = let p = type_takes total room bytes x e in omega (arith, ap length p.spelled, length-append (name x.0) x.1)
