-- Writing members, entries or parts one after another, as a loop does.
use Rattle.std.proofs.Common.{◌≡◌, ℕ, zero, suc, ◌+◌, ◌<◌, List, [], ◌∷◌, ◌++◌, length, get_or, drop, map, refl, sym, ap, subst, ◌∙◌, append_assoc, arith}
use Rattle.aux_types.specs.declared.aux_type.AuxType.{AuxType}
use Rattle.aux_types.specs.Shape.{shapes, shape_of}
use Rattle.aux_codec.specs.declared.value.AuxValue.{AuxValue}
use Rattle.aux_codec.specs.declared.value.AuxPair.{AuxPair}
use Rattle.aux_codec.specs.Value.{Value, values, entries, value_of, entry_of, count, count_entries}
use Rattle.aux_codec.specs.Spelling.{HasType, PartsHaveTypes, Each, EachEntry, spelling, spell_entries, spell_parts}
use Rattle.aux_codec.proofs.Chosen.{next_is}
use Rattle.aux_codec.proofs.Views.{entry_parts}

pub count_values : (xs : List AuxValue) → count (values (map value_of xs)) ≡ length xs
count_values [] = refl
count_values (x ∷ xs) = ap suc (count_values xs)

pub count_pairs : (es : List AuxPair) → count_entries (entries (map entry_of es)) ≡ length es
count_pairs [] = refl
count_pairs (e ∷ es) = ap suc (count_pairs es)

-- what holds of each value holds of the one at a place
pub each_at : (P : Value → Type 0) (xs : List AuxValue) (i : ℕ) (x : AuxValue) → i < length xs → x ≡ get_or xs i x → Each P (values (map value_of xs)) → P (value_of x)
each_at P [] i x lt e h = absurd (omega arith)
each_at P (y ∷ ys) zero x lt e h = subst (λ (z : AuxValue). P (value_of z)) (sym e) h.0
each_at P (y ∷ ys) (suc i) x lt e h = each_at P ys i x (omega arith) e h.1

-- what holds of each entry holds of the one at a place
pub entry_at : (P Q : Value → Type 0) (es : List AuxPair) (i : ℕ) (e : AuxPair) → i < length es → e ≡ get_or es i e → EachEntry P Q (entries (map entry_of es)) → P (value_of e.key) × Q (value_of e.value)
entry_at P Q [] i e lt k h = absurd (omega arith)
entry_at P Q (f ∷ fs) zero e lt k h =
    let whole : P (entry_of f).0 × Q (entry_of f).1 = (h.0, h.1) in
    subst (λ (z : Value × Value). P z.0 × Q z.1) (entry_parts e) (subst (λ (z : AuxPair). P (entry_of z).0 × Q (entry_of z).1) (sym k) whole)
entry_at P Q (f ∷ fs) (suc i) e lt k h = entry_at P Q fs i e (omega arith) k h.2

-- there is a value for each part, and the one at a place is of the type there
pub parts_long : (types : List AuxType) (xs : List AuxValue) → PartsHaveTypes (shapes (map shape_of types)) (values (map value_of xs)) → length types ≡ length xs
parts_long [] [] h = refl
parts_long [] (x ∷ xs) h = absurd h
parts_long (t ∷ ts) [] h = absurd h
parts_long (t ∷ ts) (x ∷ xs) h = ap suc (parts_long ts xs h.1)

pub part_at : (types : List AuxType) (xs : List AuxValue) (i : ℕ) (t : AuxType) (x : AuxValue) → i < length types → t ≡ get_or types i t → x ≡ get_or xs i x → PartsHaveTypes (shapes (map shape_of types)) (values (map value_of xs)) → HasType (shape_of t) (value_of x)
part_at [] xs i t x lt e k h = absurd (omega arith)
part_at (u ∷ us) [] i t x lt e k h = absurd h
part_at (u ∷ us) (y ∷ ys) zero t x lt e k h = subst (λ (z : AuxValue). HasType (shape_of t) (value_of z)) (sym k) (subst (λ (z : AuxType). HasType (shape_of z) (value_of y)) (sym e) h.0)
part_at (u ∷ us) (y ∷ ys) (suc i) t x lt e k h = part_at us ys i t x (omega arith) e k h.1

-- one more entry was written
pub entries_go_on : (f g : Value → List ℕ) (es : List AuxPair) (i : ℕ) (e : AuxPair) (old total : List ℕ) → i < length es → e ≡ get_or es i e
    → old ++ spell_entries f g (entries (map entry_of (drop i es))) ≡ total → ((old ++ f (value_of e.key)) ++ g (value_of e.value)) ++ spell_entries f g (entries (map entry_of (drop (i + 1) es))) ≡ total
entries_go_on f g es i e old total lt k so_far =
    let next = next_is es i e lt k in
    let one : old ++ spell_entries f g (entries (map entry_of (drop i es))) ≡ ((old ++ f (value_of e.key)) ++ g (value_of e.value)) ++ spell_entries f g (entries (map entry_of (drop (i + 1) es))) = rw (next, entry_parts e) (simp append_assoc) in
    sym one ∙ so_far

-- one more part was written
pub parts_go_on : (types : List AuxType) (xs : List AuxValue) (i : ℕ) (t : AuxType) (x : AuxValue) (old total : List ℕ) → i < length types → i < length xs → t ≡ get_or types i t → x ≡ get_or xs i x
    → old ++ spell_parts (shapes (map shape_of (drop i types))) (values (map value_of (drop i xs))) ≡ total
    → (old ++ spelling (shape_of t) (value_of x)) ++ spell_parts (shapes (map shape_of (drop (i + 1) types))) (values (map value_of (drop (i + 1) xs))) ≡ total
parts_go_on types xs i t x old total lt lt' e k so_far =
    let next_type = next_is types i t lt e in
    let next = next_is xs i x lt' k in
    let one : old ++ spell_parts (shapes (map shape_of (drop i types))) (values (map value_of (drop i xs)))
    ≡ (old ++ spelling (shape_of t) (value_of x)) ++ spell_parts (shapes (map shape_of (drop (i + 1) types))) (values (map value_of (drop (i + 1) xs))) = rw (next_type, next) (simp append_assoc) in
    sym one ∙ so_far
