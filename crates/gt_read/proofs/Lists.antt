-- Lists with one more element at the end.
use Rattle.std.proofs.Common.{◌≡◌, Bool, true, false, cond, ◌&&◌, List, [], ◌∷◌, ◌++◌, Option, Some, None, refl, sym, ap, ◌∙◌, append_assoc}
use Rattle.std.specs.Prelude.{unwrap_or}
use Rattle.std.specs.List.{filter, filter_map, cons_option, fold, list_all}
use Rattle.std.proofs.lemmas.List.{append-nil}
use Rattle.gt_read.specs.Meaning.{last, trailing}

pub filter-push : {A : Type 0} (test : A → Bool) (xs : List A) (x : A) → filter test (xs ++ x ∷ []) ≡ cond (test x) (filter test xs ++ x ∷ []) (filter test xs)
filter-push test [] x = refl
filter-push {A = A} test (y ∷ ys) x = step (test y) (test x) (filter-push test ys x)
  where
    step : (a b : Bool) → filter test (ys ++ x ∷ []) ≡ cond b (filter test ys ++ x ∷ []) (filter test ys)
        → cond a (y ∷ filter test (ys ++ x ∷ [])) (filter test (ys ++ x ∷ [])) ≡ cond b (cond a (y ∷ filter test ys) (filter test ys) ++ x ∷ []) (cond a (y ∷ filter test ys) (filter test ys))
    step true true h = ap (λ (r : List A). y ∷ r) h
    step true false h = ap (λ (r : List A). y ∷ r) h
    step false true h = h
    step false false h = h

-- one more value, if there is one
abbrev pub push_option : {B : Type 0} → List B → Option B → List B
push_option ys None = ys
push_option ys (Some y) = ys ++ y ∷ []

pub filter_map-push : {A B : Type 0} (f : A → Option B) (xs : List A) (x : A) → filter_map f (xs ++ x ∷ []) ≡ push_option (filter_map f xs) (f x)
filter_map-push f [] x = one (f x)
  where
    one : {C : Type 0} (o : Option C) → cons_option o [] ≡ push_option [] o
    one None = refl
    one (Some c) = refl
filter_map-push f (y ∷ ys) x = ap (cons_option (f y)) (filter_map-push f ys x) ∙ swap (f y) (f x) (filter_map f ys)
  where
    swap : {C : Type 0} (o p : Option C) (cs : List C) → cons_option o (push_option cs p) ≡ push_option (cons_option o cs) p
    swap None p cs = refl
    swap (Some c) None cs = refl
    swap (Some c) (Some d) cs = refl

pub last-push : {A : Type 0} (xs : List A) (x : A) → last (xs ++ x ∷ []) ≡ Some x
last-push [] x = refl
last-push {A = A} (y ∷ ys) x = ap (λ (o : Option A). Some (unwrap_or o y)) (last-push ys x)

-- the last value with one more, if there is one
abbrev pub or_new : {A : Type 0} → Option A → Option A → Option A
or_new old None = old
or_new old (Some new) = Some new

pub last-push_option : {A : Type 0} (xs : List A) (o : Option A) → last (push_option xs o) ≡ or_new (last xs) o
last-push_option xs None = refl
last-push_option xs (Some x) = last-push xs x

list_all-push : {A : Type 0} (test : A → Bool) (xs : List A) (x : A) → list_all test (xs ++ x ∷ []) ≡ list_all test xs && test x
list_all-push test [] x = one (test x)
  where
    one : (b : Bool) → b && true ≡ true && b
    one true = refl
    one false = refl
list_all-push test (y ∷ ys) x = ap (λ b. test y && b) (list_all-push test ys x) ∙ assoc (test y) (list_all test ys) (test x)
  where
    assoc : (a b c : Bool) → a && (b && c) ≡ (a && b) && c
    assoc true b c = refl
    assoc false b c = refl

pub trailing-push : {A : Type 0} (test : A → Bool) (xs : List A) (x : A) → trailing test (xs ++ x ∷ []) ≡ cond (test x) (trailing test xs ++ x ∷ []) []
trailing-push {A = A} test [] x = one (test x)
  where
    one : (b : Bool) → cond (b && true) (x ∷ []) [] ≡ cond b (x ∷ []) []
    one true = refl
    one false = refl
trailing-push {A = A} test (y ∷ ys) x =
    ap (λ b. cond (test y && b) (y ∷ ys ++ x ∷ []) (trailing test (ys ++ x ∷ []))) (list_all-push test ys x)
    ∙ ap (cond (test y && (list_all test ys && test x)) (y ∷ ys ++ x ∷ [])) (trailing-push test ys x)
    ∙ step (test y) (list_all test ys) (test x)
  where
    step : (a b c : Bool) → cond (a && (b && c)) (y ∷ ys ++ x ∷ []) (cond c (trailing test ys ++ x ∷ []) []) ≡ cond c (cond (a && b) (y ∷ ys) (trailing test ys) ++ x ∷ []) []
    step true true true = refl
    step true true false = refl
    step true false true = refl
    step true false false = refl
    step false true true = refl
    step false true false = refl
    step false false true = refl
    step false false false = refl

-- what holds of one more element holds of many
pub fold-over : {A B : Type 0} (view : List A → B) (step : B → A → B) → ((xs : List A) (x : A) → view (xs ++ x ∷ []) ≡ step (view xs) x) → (xs ys : List A) → view (xs ++ ys) ≡ fold step (view xs) ys
fold-over view step one xs [] = ap view (append-nil xs)
fold-over view step one xs (y ∷ ys) =
    ap view (sym (append_assoc xs (y ∷ []) ys)) ∙ fold-over view step one (xs ++ y ∷ []) ys ∙ ap (λ b. fold step b ys) (one xs y)
