-- The cells of data with what stands in them for expressions.
use Rattle.std.proofs.Common.{◌≡◌, ℕ, zero, suc, ◌+◌, ◌-◌, ◌/◌, ◌<◌, ◌≤◌, true, false, not, cond, eqb, ◌&&◌, Option, Some, None, IsSome, List, [], ◌∷◌, ◌++◌, length, get_or, take, drop, find, replicate, refl, sym, ap, subst, ◌∙◌, inl, inr, arith, lit≤}
use Rattle.std.specs.List.{AllByRecursion}
use Rattle.std.specs.Option.{option_map_or}
use Rattle.std.proofs.Math.Seq.{drop-cons}
use Rattle.std.proofs.lemmas.Bool.{and_parts, cases_Bool, cond-false, cond-true, eqb-true}
use Rattle.std.proofs.lemmas.List.{length-append, length-drop, length-map, length-replicate, length-take}
use Rattle.cell_memory.specs.Blocks.{Fits}
use Rattle.sym_expr.specs.declared.difference.DifferenceForm.{DifferenceForm}
use Rattle.sym_expr.specs.declared.difference.TheConstants.{DIFFERENCE_FORMS}
use Rattle.sym_expr.specs.declared.program.Filling.{Filling}
use Rattle.sym_expr.specs.declared.program.Filling.TheVariants.{Pointer, Difference, Entry}
use Rattle.sym_expr.specs.declared.program.Program.{Program}
use Rattle.sym_expr.specs.declared.target.Target.{Target}
use Rattle.sym_expr.specs.declared.target.Target.TheVariants.{Number, Address, Code, Undefined}
use Rattle.sym_expr.specs.declared.value.Value.TheVariants.{Diff}
use Rattle.sym_expr.specs.Differences.{has}
use Rattle.sym_expr.specs.Images.{filling_size}
use Rattle.sym_expr.specs.States.{difference_cells, difference_number, entry_cells, far_cells, filling_cells, first_cells, is_defined, number_cells, parts_from, placed_cells, pointer_cells, value_cells}
use Rattle.sym_expr.specs.Values.{Cell, Byte, Blank, Quarter}
use Rattle.sym_expr.specs.WellMade.{IsFilling}

-- ---- lists

module _ {X : Type 0} (P : X → Type 0) where
  pub at_item : (xs : List X) (i : ℕ) (x : X) → i < length xs → x ≡ get_or xs i x → AllByRecursion P xs → P x
  at_item [] i x lt is all = absurd (omega arith)
  at_item (y ∷ ys) zero x lt is all = subst P (sym is) all.0
  at_item (y ∷ ys) (suc i) x lt is all = at_item ys i x (omega arith) is all.1

pub split_before : {X : Type 0} (xs : List X) (i : ℕ) (x : X) → 0 < i → i ≤ length xs → x ≡ get_or xs (i - 1) x → drop (i - 1) xs ≡ x ∷ drop i xs
split_before xs i x some within is =
    let next : suc (i - 1) ≡ i = omega arith in
    drop-cons xs (i - 1) x (omega arith) ∙ ap (λ y. y ∷ drop (suc (i - 1)) xs) (sym is) ∙ ap (λ n. x ∷ drop n xs) next

-- ---- how many cells there are

length-number_cells : (count n : ℕ) → length (number_cells count n) ≡ count
length-number_cells zero n = refl
length-number_cells (suc count) n = ap suc (length-number_cells count (n / 256))

length-parts_from : (count k : ℕ) (part : ℕ → Cell) → length (parts_from count k part) ≡ count
length-parts_from zero k part = refl
length-parts_from (suc count) k part = ap suc (length-parts_from count (suc k) part)

length-blanks : (size : ℕ) → length (replicate size Blank) ≡ size
length-blanks size = length-replicate size Blank

length-far_cells : (size : ℕ) (p q : Target) → length (far_cells size p q) ≡ size
length-far_cells size p q =
    elim (not (is_defined p && is_defined q)) as (λ t. length (cond t (replicate size Blank) (cond (eqb size 8) (value_cells (Diff p q)) (parts_from size 0 (λ k. Quarter k p q)))) ≡ size) [
      | true ↦ length-blanks size
      | false ↦ elim (cases_Bool (eqb size 8)) [
        | inl eight ↦ ap length (cond-true (eqb size 8) (value_cells (Diff p q)) (parts_from size 0 (λ k. Quarter k p q)) eight) ∙ sym (eqb-true size 8 eight)
        | inr other ↦ ap length (cond-false (eqb size 8) (value_cells (Diff p q)) (parts_from size 0 (λ k. Quarter k p q)) other) ∙ length-parts_from size 0 (λ k. Quarter k p q)
      ]
    ]

length-difference_cells : (size : ℕ) (p q : Target) → length (difference_cells size p q) ≡ size
length-difference_cells size p q =
    elim (difference_number p q) as (λ (o : Option ℕ). length (option_map_or (number_cells size) o (far_cells size p q)) ≡ size) [
      | None ↦ length-far_cells size p q
      | Some n ↦ length-number_cells size n
    ]

length-pointer_cells : (t : Target) → length (pointer_cells t) ≡ 8
length-pointer_cells (Number n) = refl
length-pointer_cells (Address block offset) = refl
length-pointer_cells (Code p) = refl
length-pointer_cells (Undefined symbol) = refl

length-entry_cells : (size scale : ℕ) (p q : Target) → length (entry_cells size scale p q) ≡ size
length-entry_cells size scale (Code p) (Code q) = length-parts_from size 0 _
length-entry_cells size scale (Code p) (Number n) = length-blanks size
length-entry_cells size scale (Code p) (Address block offset) = length-blanks size
length-entry_cells size scale (Code p) (Undefined symbol) = length-blanks size
length-entry_cells size scale (Number n) q = length-blanks size
length-entry_cells size scale (Address block offset) q = length-blanks size
length-entry_cells size scale (Undefined symbol) q = length-blanks size

length-filling_cells : (f : Filling) → length (filling_cells f) ≡ filling_size f
length-filling_cells (Pointer t) = length-pointer_cells t
length-filling_cells (Difference size p q) = length-difference_cells size p q
length-filling_cells (Entry size scale p q) = length-entry_cells size scale p q

length-placed : (offset : ℕ) (new old : List Cell) → offset + length new ≤ length old → length (placed_cells offset new old) ≡ length old
length-placed offset new old le =
    omega (arith, length-append (take offset old ++ new) (drop (offset + length new) old), length-append (take offset old) new, length-take offset old, length-drop (offset + length new) old)

pub length-first_cells : (fs : List (ℕ × Filling)) (bytes : List ℕ) → AllByRecursion (Fits (length bytes)) fs → length (first_cells fs bytes) ≡ length bytes
length-first_cells [] bytes all = length-map bytes Byte
length-first_cells (f ∷ fs) bytes all =
    let rest = length-first_cells fs bytes all.1 in
    let size = length-filling_cells f.1 in
    length-placed f.0 (filling_cells f.1) (first_cells fs bytes) (omega (arith, all.0.1)) ∙ rest

pub all_dropped : {X : Type 0} (P : X → Type 0) (n : ℕ) (xs : List X) → AllByRecursion P xs → AllByRecursion P (drop n xs)
all_dropped P zero xs all = all
all_dropped P (suc n) [] all = tt
all_dropped P (suc n) (x ∷ xs) all = all_dropped P n xs all.1

-- ---- the sizes of fillings

form_most : (size scale : ℕ) (forms : List DifferenceForm) → AllByRecursion (λ (f : DifferenceForm). f.size ≤ 8) forms → IsSome (find (has size scale) forms) → size ≤ 8
form_most size scale [] all some = cc
form_most size scale (f ∷ fs) all some =
    elim (cases_Bool (has size scale f)) [
      | inl is ↦ subst (λ n. n ≤ 8) (eqb-true f.size size (and_parts (eqb f.size size) (eqb f.scale scale) is).0) all.0
      | inr not_is ↦ form_most size scale fs all.1 (subst IsSome (cond-false (has size scale f) (Some f) (find (has size scale) fs) not_is) some)
    ]

forms_most : AllByRecursion (λ (f : DifferenceForm). f.size ≤ 8) DIFFERENCE_FORMS
forms_most = (lit≤ tt, (lit≤ tt, (lit≤ tt, (lit≤ tt, (lit≤ tt, (lit≤ tt, (lit≤ tt, tt)))))))

pub filling_most : (g : Program) (f : Filling) → IsFilling g f → filling_size f ≤ 8
filling_most g (Pointer target) is = lit≤ tt
filling_most g (Difference size p q) is = form_most size 1 DIFFERENCE_FORMS forms_most is.0
filling_most g (Entry size scale p q) is = form_most size scale DIFFERENCE_FORMS forms_most is.0
