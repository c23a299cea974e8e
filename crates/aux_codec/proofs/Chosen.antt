-- The part of an index, and how deep the parts nest.
use Rattle.std.proofs.Common.{◌≡◌, ℕ, zero, suc, ◌+◌, ◌-◌, ◌≤◌, ◌<◌, max, List, [], ◌∷◌, ◌++◌, length, take, drop, get_or, map, Option, Some, None, Result, Ok, Err, refl, sym, ap, subst, ◌∙◌, arith}
use Rattle.std.specs.Prelude.{slice_get}
use Rattle.std.proofs.Math.Seq.{drop-cons}
use Rattle.std.proofs.lemmas.List.{take_at, length-append}
use Rattle.gr_base.specs.declared.aux_fault.AuxFault.TheVariants.{BadVariant}
use Rattle.aux_types.specs.declared.aux_type.AuxType.{AuxType}
use Rattle.aux_types.specs.Shape.{Shape, Shapes, none, more, shapes, shape_of, nesting, nesting_of_parts}
use Rattle.aux_codec.specs.Value.{Value}
use Rattle.aux_codec.specs.Spelling.{HasType, ChosenHasType, spelling, spell_chosen}
use Rattle.aux_codec.specs.Reading.{Read, value_at, chosen_at}

pub chosen_is : (total : ℕ) (types : List AuxType) (n index_place : ℕ) (bytes : List ℕ) (t : AuxType) → slice_get types n ≡ Some t → chosen_at total (shapes (map shape_of types)) n index_place bytes ≡ value_at total (shape_of t) bytes
chosen_is total [] n index_place bytes t e = absurd cc
chosen_is total (x ∷ xs) zero index_place bytes t e = let same : x ≡ t = cc in ap (λ (y : AuxType). value_at total (shape_of y) bytes) same
chosen_is total (x ∷ xs) (suc n) index_place bytes t e = chosen_is total xs n index_place bytes t e

pub chosen_none : (total : ℕ) (types : List AuxType) (n index_place : ℕ) (bytes : List ℕ) → slice_get types n ≡ None → chosen_at total (shapes (map shape_of types)) n index_place bytes ≡ Err (BadVariant index_place)
chosen_none total [] n index_place bytes e = refl
chosen_none total (x ∷ xs) zero index_place bytes e = absurd cc
chosen_none total (x ∷ xs) (suc n) index_place bytes e = chosen_none total xs n index_place bytes e

pub nesting_of_part : (types : List AuxType) (n : ℕ) (t : AuxType) → slice_get types n ≡ Some t → nesting (shape_of t) ≤ nesting_of_parts (shapes (map shape_of types))
nesting_of_part [] n t e = absurd cc
nesting_of_part (x ∷ xs) zero t e = let same : x ≡ t = cc in let deep : nesting (shape_of x) ≡ nesting (shape_of t) = ap (λ (y : AuxType). nesting (shape_of y)) same in omega arith
nesting_of_part (x ∷ xs) (suc n) t e = let behind = nesting_of_part xs n t e in omega (arith, behind)

-- what is left from a place on begins with what stands there
pub next_is : {A : Type 0} (xs : List A) (i : ℕ) (x : A) → i < length xs → x ≡ get_or xs i x → drop i xs ≡ x ∷ drop (i + 1) xs
next_is xs i x lt e =
    let k : i + 1 ≡ suc i = omega arith in
    drop-cons xs i x lt ∙ rw (← e, k) refl

-- the bytes before those that are left
pub taken_is : (bytes front rest : List ℕ) → bytes ≡ front ++ rest → take (length bytes - length rest) bytes ≡ front
taken_is bytes front rest e =
    let len : length bytes - length rest ≡ length front = omega (arith, ap length e, length-append front rest) in
    rw (len, e) (take_at front rest (length front) refl)

pub chosen_has_type : (types : List AuxType) (n : ℕ) (t : AuxType) (x : Value) → slice_get types n ≡ Some t → ChosenHasType (shapes (map shape_of types)) n x → HasType (shape_of t) x
chosen_has_type [] n t x e h = absurd h
chosen_has_type (u ∷ us) zero t x e h = let same : u ≡ t = cc in subst (λ (y : AuxType). HasType (shape_of y) x) same h
chosen_has_type (u ∷ us) (suc n) t x e h = chosen_has_type us n t x e h

pub chosen_spelling : (types : List AuxType) (n : ℕ) (t : AuxType) (x : Value) → slice_get types n ≡ Some t → spell_chosen (shapes (map shape_of types)) n x ≡ spelling (shape_of t) x
chosen_spelling [] n t x e = absurd cc
chosen_spelling (u ∷ us) zero t x e = let same : u ≡ t = cc in ap (λ (y : AuxType). spelling (shape_of y) x) same
chosen_spelling (u ∷ us) (suc n) t x e = chosen_spelling us n t x e

pub chosen_absent : (types : List AuxType) (n : ℕ) (x : Value) → slice_get types n ≡ None → ChosenHasType (shapes (map shape_of types)) n x → ⊥
chosen_absent [] n x e h = h
chosen_absent (u ∷ us) zero x e h = absurd cc
chosen_absent (u ∷ us) (suc n) x e h = chosen_absent us n x e h
