-- Expressions near a place, among those between two offsets.
use Rattle.std.proofs.Common.{◌≡◌, ℕ, ◌≤◌, ◌<◌, Bool, true, false, ◌&&◌, nat_lt, nat_le, cond, List, [], ◌∷◌, map, Option, Some, refl, sym, ap, subst, ◌∙◌, arith, inl, inr}
use Rattle.std.specs.Prelude.{filter, find}
use Rattle.std.specs.Ordering.{nat_cmp}
use Rattle.std.specs.List.Sorted.{IsStrictlySortedBy}
use Rattle.std.proofs.lemmas.Bool.{cases_Bool, cond-false}
use Rattle.std.proofs.lemmas.Bool.Decides.{nat_tests}
use Rattle.std.proofs.lemmas.List.Kept.{IsStrictlySortedBy-filter}
use Rattle.gt_model.specs.declared.exprs.Expr.{Expr}
use Rattle.gt_model.specs.Ordered.{ordered_exprs}
use Rattle.module_program.specs.Between.{is_between, is_at}

elsewhere : (from to at : ℕ) (e : Expr) → from ≤ at → at < to → is_between from to e ≡ false → is_at at e ≡ false
elsewhere from to at e low high isnt = grind (arith, nat_tests)

-- the expression at a place is among those between offsets around it
found_near : (from to at : ℕ) → from ≤ at → at < to → (es : List Expr) → find (is_at at) (filter (is_between from to) es) ≡ find (is_at at) es
found_near from to at low high [] = refl
found_near from to at low high (e ∷ es) = elim (cases_Bool (is_between from to e)) [
  | inl h ↦ rw h (ap (λ (o : Option Expr). cond (is_at at e) (Some e) o) (found_near from to at low high es))
  | inr h ↦ rw h (found_near from to at low high es ∙ sym (cond-false (is_at at e) (Some e) (find (is_at at) es) (elsewhere from to at e low high h)))
]

cond_map : {A B : Type 0} (f : A → B) (t : Bool) (x : A) (xs : List A) → map f (cond t (x ∷ xs) xs) ≡ cond t (f x ∷ map f xs) (map f xs)
cond_map f true x xs = refl
cond_map f false x xs = refl

filter_mapped : {A B : Type 0} (p : B → Bool) (f : A → B) (xs : List A) → filter p (map f xs) ≡ map f (filter (λ x. p (f x)) xs)
filter_mapped p f [] = refl
filter_mapped {A} {B} p f (x ∷ xs) = ap (λ (ys : List B). cond (p (f x)) (f x ∷ ys) ys) (filter_mapped p f xs) ∙ sym (cond_map f (p (f x)) x (filter (λ x. p (f x)) xs))

-- those between two offsets ascend, as all do
ordered_near : (from to : ℕ) (es : List Expr) → ordered_exprs es → ordered_exprs (filter (is_between from to) es)
ordered_near from to es ordered =
    let within : ℕ → Bool = λ (n : ℕ). nat_le from n && nat_lt n to in
    subst (IsStrictlySortedBy nat_cmp) (filter_mapped within (λ (e : Expr). e.at) es) (IsStrictlySortedBy-filter nat_cmp within (map (λ (e : Expr). e.at) es) ordered)

-- the same of a list that is known as those between two offsets
pub near_ordered : (from to : ℕ) (es slice near : List Expr) → slice ≡ es → near ≡ filter (is_between from to) slice → ordered_exprs es → ordered_exprs near
near_ordered from to es slice near same is ordered = subst ordered_exprs (sym (is ∙ ap (filter (is_between from to)) same)) (ordered_near from to es ordered)

pub near_found : (from to at : ℕ) (es slice near : List Expr) → slice ≡ es → near ≡ filter (is_between from to) slice → from ≤ at → at < to → find (is_at at) near ≡ find (is_at at) es
near_found from to at es slice near same is low high = ap (find (is_at at)) (is ∙ ap (filter (is_between from to)) same) ∙ found_near from to at low high es
