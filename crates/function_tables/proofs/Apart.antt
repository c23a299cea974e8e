-- Lists of identifiers without repeats.
use Rattle.std.proofs.Common.{◌≡◌, ◌≢◌, ◌⊎◌, ℕ, Bool, true, false, ◌||◌, List, [], ◌∷◌, ◌++◌, map, find, Option, Some, None, refl, sym, ap, subst, ◌∙◌, inl, inr}
use Rattle.std.specs.Prelude.{Contains, if◌then◌else◌}
use Rattle.std.specs.List.{AllByRecursion, flat_map, list_any}
use Rattle.std.specs.Str.{bytes_eq}
use Rattle.std.proofs.lemmas.Bool.{cond-true, cond-false, cases_Bool}
use Rattle.std.proofs.lemmas.List.Folds.{list_any_at}
use Rattle.std.proofs.lemmas.Slice.Eq.{bytes_eq-Decides}
use Rattle.gt_model.specs.Linked.{repeated}

pub or-false : (a b : Bool) → (a || b) ≡ false → (a ≡ false) × (b ≡ false)
or-false true b h = absurd (cc)
or-false false b h = (refl, h)

-- of a choice that is nothing
chosen_none : (b : Bool) (x : List ℕ) (o : Option (List ℕ)) → (if b then Some x else o) ≡ None → (b ≡ false) × (o ≡ None)
chosen_none true x o h = absurd (cc)
chosen_none false x o h = (refl, h)

-- an identifier in a list is found there
pub held_in : (id : List ℕ) (ids : List (List ℕ)) → Contains ids id → list_any (bytes_eq id) ids ≡ true
held_in id ids held = list_any_at (bytes_eq id) ids held.0 id held.1 ((bytes_eq-Decides id _).1 (sym held.2))

pub all_map : {X : Type 0} (P Q : X → Type 0) (xs : List X) → ((x : X) → P x → Q x) → AllByRecursion P xs → AllByRecursion Q xs
all_map P Q [] f all = tt
all_map P Q (x ∷ xs) f all = (f x all.0, all_map P Q xs f all.1)

-- each differs from all that come later
abbrev pub Apart : List (List ℕ) → Type 0
Apart [] = Unit {0}
Apart (x ∷ xs) = AllByRecursion (λ y. x ≢ y) xs × Apart xs

-- without a repeat they are apart, and none is among the earlier ones
pub none_repeated : (earlier ids : List (List ℕ)) → repeated earlier ids ≡ None → AllByRecursion (λ x. list_any (bytes_eq x) earlier ≡ false) ids × Apart ids
none_repeated earlier [] h = (tt, tt)
none_repeated earlier (x ∷ xs) h =
    let first = chosen_none (list_any (bytes_eq x) earlier) x (repeated (x ∷ earlier) xs) h in
    let rest = none_repeated (x ∷ earlier) xs first.1 in (
      (first.0, all_map (λ y. (bytes_eq y x || list_any (bytes_eq y) earlier) ≡ false) (λ y. list_any (bytes_eq y) earlier ≡ false) xs (λ y k. (or-false (bytes_eq y x) (list_any (bytes_eq y) earlier) k).1) rest.0),
      (all_map (λ y. (bytes_eq y x || list_any (bytes_eq y) earlier) ≡ false) (λ y. x ≢ y) xs (λ y k. differ x y (or-false (bytes_eq y x) (list_any (bytes_eq y) earlier) k).0) rest.0, rest.1),
    )
  where
    differ : (a b : List ℕ) → bytes_eq b a ≡ false → a ≢ b
    differ a b h same = let k = (bytes_eq-Decides b a).1 (sym same) in absurd (cc)

-- ---- of lists that are joined

pub all_front : {X : Type 0} (P : X → Type 0) (xs ys : List X) → AllByRecursion P (xs ++ ys) → AllByRecursion P xs
all_front P [] ys all = tt
all_front P (x ∷ xs) ys all = (all.0, all_front P xs ys all.1)

pub all_back : {X : Type 0} (P : X → Type 0) (xs ys : List X) → AllByRecursion P (xs ++ ys) → AllByRecursion P ys
all_back P [] ys all = all
all_back P (x ∷ xs) ys all = all_back P xs ys all.1

pub all_join : {X : Type 0} (P : X → Type 0) (xs ys : List X) → AllByRecursion P xs → AllByRecursion P ys → AllByRecursion P (xs ++ ys)
all_join P [] ys front back = back
all_join P (x ∷ xs) ys front back = (front.0, all_join P xs ys front.1 back)

pub apart_front : (xs ys : List (List ℕ)) → Apart (xs ++ ys) → Apart xs
apart_front [] ys apart = tt
apart_front (x ∷ xs) ys apart = (all_front (λ y. x ≢ y) xs ys apart.0, apart_front xs ys apart.1)

pub apart_back : (xs ys : List (List ℕ)) → Apart (xs ++ ys) → Apart ys
apart_back [] ys apart = apart
apart_back (x ∷ xs) ys apart = apart_back xs ys apart.1

-- each of the first differs from each of the others
pub apart_across : (xs ys : List (List ℕ)) → Apart (xs ++ ys) → AllByRecursion (λ x. AllByRecursion (λ y. x ≢ y) ys) xs
apart_across [] ys apart = tt
apart_across (x ∷ xs) ys apart = (all_back (λ y. x ≢ y) xs ys apart.0, apart_across xs ys apart.1)

pub apart_join : (xs ys : List (List ℕ)) → Apart xs → Apart ys → AllByRecursion (λ x. AllByRecursion (λ y. x ≢ y) ys) xs → Apart (xs ++ ys)
apart_join [] ys front back across = back
apart_join (x ∷ xs) ys front back across = (all_join (λ y. x ≢ y) xs ys front.0 across.0, apart_join xs ys front.1 back across.1)

-- ---- membership

abbrev pub IsIn : {X : Type 0} → X → List X → Type 0
IsIn x [] = ⊥
IsIn x (y ∷ ys) = (y ≡ x) ⊎ IsIn x ys

pub in_left : {X : Type 0} (x : X) (xs ys : List X) → IsIn x xs → IsIn x (xs ++ ys)
in_left x [] ys h = absurd h
in_left x (z ∷ xs) ys (inl e) = inl e
in_left x (z ∷ xs) ys (inr h) = inr (in_left x xs ys h)

pub in_right : {X : Type 0} (x : X) (xs ys : List X) → IsIn x ys → IsIn x (xs ++ ys)
in_right x [] ys h = h
in_right x (z ∷ xs) ys h = inr (in_right x xs ys h)

pub in_either : {X : Type 0} (x : X) (xs ys : List X) → IsIn x (xs ++ ys) → IsIn x xs ⊎ IsIn x ys
in_either x [] ys h = inr h
in_either x (z ∷ xs) ys (inl e) = inl (inl e)
in_either x (z ∷ xs) ys (inr h) = elim (in_either x xs ys h) [ inl l ↦ inl (inr l) | inr r ↦ inr r ]

pub all_in : {X : Type 0} (P : X → Type 0) (x : X) (xs : List X) → AllByRecursion P xs → IsIn x xs → P x
all_in P x [] all h = absurd h
all_in P x (y ∷ ys) all (inl e) = subst P e all.0
all_in P x (y ∷ ys) all (inr h) = all_in P x ys all.1 h

-- what holds of each element that is there holds of all
pub all_of : {X : Type 0} (P : X → Type 0) (xs : List X) → ((x : X) → IsIn x xs → P x) → AllByRecursion P xs
all_of P [] f = tt
all_of P (x ∷ xs) f = (f x (inl refl), all_of P xs (λ y h. f y (inr h)))

pub found_in : {X : Type 0} (test : X → Bool) (xs : List X) (x : X) → find test xs ≡ Some x → IsIn x xs
found_in test [] x e = cc
found_in test (y ∷ ys) x e =
    elim (cases_Bool (test y)) [
      | inl passes ↦ let here = sym (cond-true (test y) (Some y) (find test ys) passes) ∙ e in let same : y ≡ x = cc in inl same
      | inr fails ↦ inr (found_in test ys x (sym (cond-false (test y) (Some y) (find test ys) fails) ∙ e))
    ]

pub in_flat : {X Y : Type 0} (h : X → List Y) (y : Y) (x : X) (xs : List X) → IsIn x xs → IsIn y (h x) → IsIn y (flat_map h xs)
in_flat h y x [] there at = absurd there
in_flat h y x (z ∷ zs) (inl e) at = in_left y (h z) (flat_map h zs) (subst (λ w. IsIn y (h w)) (sym e) at)
in_flat h y x (z ∷ zs) (inr later) at = in_right y (h z) (flat_map h zs) (in_flat h y x zs later at)

-- what is held is in a list
pub not_held : (id : List ℕ) (ids : List (List ℕ)) (other : List ℕ) → list_any (bytes_eq id) ids ≡ false → IsIn other ids → id ≢ other
not_held id [] other free there = absurd there
not_held id (x ∷ xs) other free (inl e) = λ same. let held : bytes_eq id x ≡ true = (bytes_eq-Decides id x).1 (same ∙ sym e) in let apart = or-false (bytes_eq id x) (list_any (bytes_eq id) xs) free in let off = apart.0 in absurd (cc)
not_held id (x ∷ xs) other free (inr later) = not_held id xs other (or-false (bytes_eq id x) (list_any (bytes_eq id) xs) free).1 later

-- ---- lists that are made of others

module _ {X : Type 0} (h : X → List (List ℕ)) where
  pub apart_in : (xs : List X) (x : X) → Apart (flat_map h xs) → IsIn x xs → Apart (h x)
  apart_in [] x apart there = absurd there
  apart_in (z ∷ zs) x apart (inl e) = subst (λ w. Apart (h w)) e (apart_front (h z) (flat_map h zs) apart)
  apart_in (z ∷ zs) x apart (inr later) = apart_in zs x (apart_back (h z) (flat_map h zs) apart) later

  -- two of different keys share nothing
  pub apart_between : (key : X → List ℕ) (xs : List X) (x y : X) (u v : List ℕ) → Apart (flat_map h xs) → IsIn x xs → IsIn y xs → (key x ≢ key y) → IsIn u (h x) → IsIn v (h y) → u ≢ v
  apart_between key [] x y u v apart in_x in_y differ at_x at_y = absurd in_x
  apart_between key (z ∷ zs) x y u v apart (inl e) (inl f) differ at_x at_y = absurd (differ (ap key (sym e ∙ f)))
  apart_between key (z ∷ zs) x y u v apart (inl e) (inr later) differ at_x at_y =
      all_in (λ w. u ≢ w) v (flat_map h zs) (all_in (λ w. AllByRecursion (λ k. w ≢ k) (flat_map h zs)) u (h z) (apart_across (h z) (flat_map h zs) apart) (subst (λ w. IsIn u (h w)) (sym e) at_x)) (in_flat h v y zs later at_y)
  apart_between key (z ∷ zs) x y u v apart (inr later) (inl f) differ at_x at_y = λ same.
      all_in (λ w. v ≢ w) u (flat_map h zs) (all_in (λ w. AllByRecursion (λ k. w ≢ k) (flat_map h zs)) v (h z) (apart_across (h z) (flat_map h zs) apart) (subst (λ w. IsIn v (h w)) (sym f) at_y)) (in_flat h u x zs later at_x) (sym same)
  apart_between key (z ∷ zs) x y u v apart (inr a) (inr b) differ at_x at_y = apart_between key zs x y u v (apart_back (h z) (flat_map h zs) apart) a b differ at_x at_y

  -- one of each
  pub apart_one : (one : X → List ℕ) → ((x : X) → IsIn (one x) (h x)) → (xs : List X) → Apart (flat_map h xs) → Apart (map one xs)
  apart_one one has [] apart = tt
  apart_one one has (z ∷ zs) apart = (
    all_of (λ w. one z ≢ w) (map one zs) (λ w there. all_in (λ k. one z ≢ k) w (flat_map h zs) (all_in (λ k. AllByRecursion (λ j. k ≢ j) (flat_map h zs)) (one z) (h z) (apart_across (h z) (flat_map h zs) apart) (has z)) (one_in zs w there)),
    apart_one one has zs (apart_back (h z) (flat_map h zs) apart),
  )
    where
      one_in : (ys : List X) (w : List ℕ) → IsIn w (map one ys) → IsIn w (flat_map h ys)
      one_in [] w there = absurd there
      one_in (y ∷ ys) w (inl e) = in_left w (h y) (flat_map h ys) (subst (λ k. IsIn k (h y)) e (has y))
      one_in (y ∷ ys) w (inr later) = in_right w (h y) (flat_map h ys) (one_in ys w later)

-- identifiers with others behind each
abbrev pub spread : (List ℕ → List (List ℕ)) → List (List ℕ) → List (List ℕ)
spread later ids = flat_map (λ id. id ∷ later id) ids

pub in_spread : (later : List ℕ → List (List ℕ)) (ids : List (List ℕ)) (u : List ℕ) → IsIn u (spread later ids) → IsIn u ids ⊎ ((id : List ℕ) × IsIn id ids × IsIn u (later id))
in_spread later [] u there = absurd there
in_spread later (id ∷ ids) u (inl e) = inl (inl e)
in_spread later (id ∷ ids) u (inr rest) =
    elim (in_either u (later id) (spread later ids) rest) [
      | inl here ↦ inr (id, inl refl, here)
      | inr there ↦ elim (in_spread later ids u there) [ inl old ↦ inl (inr old) | inr new ↦ inr (new.0, inr new.1, new.2) ]
    ]

-- they are apart where the others are, from each other and from the identifiers
pub spread_apart : (later : List ℕ → List (List ℕ)) → ((id : List ℕ) → Apart (later id)) → ((a b u v : List ℕ) → a ≢ b → IsIn u (later a) → IsIn v (later b) → u ≢ v)
    → (ids : List (List ℕ)) → ((a u v : List ℕ) → IsIn u (later a) → IsIn v ids → u ≢ v) → Apart ids → Apart (spread later ids)
spread_apart later own other [] free apart = tt
spread_apart later own other (id ∷ ids) free apart =
    let rest = spread_apart later own other ids (λ a u v at there. free a u v at (inr there)) apart.1 in
    let differs : (u : List ℕ) → IsIn u (spread later ids) → id ≢ u = λ u there.
    elim (in_spread later ids u there) [
      | inl old ↦ all_in (λ w. id ≢ w) u ids apart.0 old
      | inr new ↦ λ same. free new.0 u id new.2 (inl refl) (sym same)
    ] in
    let across : (u v : List ℕ) → IsIn u (later id) → IsIn v (spread later ids) → u ≢ v = λ u v at there.
    elim (in_spread later ids v there) [
      | inl old ↦ free id u v at (inr old)
      | inr new ↦ other id new.0 u v (all_in (λ w. id ≢ w) new.0 ids apart.0 new.1) at new.2
    ] in (
      all_join (λ w. id ≢ w) (later id) (spread later ids) (all_of (λ w. id ≢ w) (later id) (λ u at same. free id u id at (inl refl) (sym same))) (all_of (λ w. id ≢ w) (spread later ids) differs),
      apart_join (later id) (spread later ids) (own id) rest (all_of (λ u. AllByRecursion (λ v. u ≢ v) (spread later ids)) (later id) (λ u at. all_of (λ v. u ≢ v) (spread later ids) (λ v there. across u v at there))),
    )
