-- Lists that are read through places, and places that count up.
use Rattle.std.proofs.Common.{◌≡◌, ◌≢◌, ℕ, zero, suc, ◌+◌, ◌-◌, ◌<◌, ◌≤◌, List, [], ◌∷◌, ◌++◌, length, get_or, map, replicate, refl, sym, ap, ◌∙◌, subst, inl, inr, arith, append_assoc}
use Rattle.std.specs.Prelude.{Contains, AllPairs}
use Rattle.std.specs.List.{range_with_len}
use Rattle.std.proofs.lemmas.List.{get_or_append_left, get_or-append_right, get_or-replicate, get_or_push, length-map, get_or-map, map-append}
use Rattle.std.proofs.lemmas.List.FromFn.{get_or-range_with_len}
use Rattle.std.proofs.lemmas.Bool.{cases_lt}
use Rattle.std.proofs.Math.Seq.{get_or-append_seam}
use Rattle.std.proofs.Math.ListN.{length-append, length-replicate}
use Rattle.node_arena.specs.Sound.{Children}

pub map-map : {A B C : Type 0} (f : B → C) (g : A → B) (xs : List A) → map f (map g xs) ≡ map (λ x. f (g x)) xs
map-map f g [] = refl
map-map f g (x ∷ xs) = ap (λ l. f (g x) ∷ l) (map-map f g xs)

pub map-itself : {A : Type 0} (xs : List A) → map (λ x. x) xs ≡ xs
map-itself [] = refl
map-itself (x ∷ xs) = ap (λ l. x ∷ l) (map-itself xs)

pub replicate-add : {A : Type 0} (m n : ℕ) (x : A) → replicate (m + n) x ≡ replicate m x ++ replicate n x
replicate-add zero n x = let e : zero + n ≡ n = omega arith in rw e refl
replicate-add (suc m) n x = let e : suc m + n ≡ suc (m + n) = omega arith in rw e (ap (λ l. x ∷ l) (replicate-add m n x))

pub map-constant : {A B : Type 0} (y : B) (xs : List A) → map (λ x. y) xs ≡ replicate (length xs) y
map-constant y [] = refl
map-constant y (x ∷ xs) = ap (λ l. y ∷ l) (map-constant y xs)

pub In-head : {A : Type 0} (x : A) (xs : List A) → Contains (x ∷ xs) x
In-head x xs = (0, omega arith, refl)

pub In-tail : {A : Type 0} (y x : A) (xs : List A) → Contains xs x → Contains (y ∷ xs) x
In-tail y x xs h = (suc h.0, omega arith, h.2)

pub In-map : {A B : Type 0} (f : A → B) (xs : List A) (x : A) → Contains xs x → Contains (map f xs) (f x)
In-map f xs x h = (h.0, rw length-map h.1, get_or-map f xs h.0 x (f x) h.1 ∙ ap f h.2)

-- maps that agree on the elements
pub map-same : {A B : Type 0} (f g : A → B) (xs : List A) → ((x : A) → Contains xs x → f x ≡ g x) → map f xs ≡ map g xs
map-same f g [] h = refl
map-same f g (x ∷ xs) h = (λ i. h x (In-head x xs) i ∷ map-same f g xs (λ y m. h y (In-tail x y xs m)) i)

pub length-range : (a n : ℕ) → length (range_with_len a n) ≡ n
length-range a zero = refl
length-range a (suc n) = ap suc (length-range (a + 1) n)

pub range-append : (a m n : ℕ) → range_with_len a (m + n) ≡ range_with_len a m ++ range_with_len (a + m) n
range-append a zero n =
    let e : zero + n ≡ n = omega arith in
    let f : a + zero ≡ a = omega arith in
    rw (e, f) refl
range-append a (suc m) n =
    let e : suc m + n ≡ suc (m + n) = omega arith in
    let f : a + suc m ≡ (a + 1) + m = omega arith in
    rw (e, f) (ap (λ l. a ∷ l) (range-append (a + 1) m n))

pub In-range : (a n c : ℕ) → Contains (range_with_len a n) c → (a ≤ c) × (c < a + n)
In-range a n c h =
    let k : h.0 < n = rw length-range at h.1 in
    let e : a + h.0 ≡ c = sym (get_or-range_with_len a n h.0 c k) ∙ h.2 in
    (omega arith, omega arith)

pub range-In : (a n c : ℕ) → a ≤ c → c < a + n → Contains (range_with_len a n) c
range-In a n c l u =
    let k : c - a < n = omega arith in
    (c - a, rw length-range k, get_or-range_with_len a n (c - a) c k ∙ omega arith)

pub range-apart : (a n : ℕ) → AllPairs (λ x y. x ≢ y) (range_with_len a n)
range-apart a n = λ i j d l m e.
    let n' : j < n = rw length-range at m in
    let i' : i < n = omega arith in
    let same : a + i ≡ a + j = sym (get_or-range_with_len a n i d i') ∙ e ∙ get_or-range_with_len a n j d n' in
    absurd (omega arith)

-- elements read through places that count up from the end of the first list
pub map-read : {A I : Type 0} (place : I → ℕ) (d : A) (xs ys zs : List A) (ids : List I)
    → zs ≡ xs ++ ys → map place ids ≡ range_with_len (length xs) (length ys) → map (λ id. get_or zs (place id) d) ids ≡ ys
map-read place d xs [] zs [] e p = refl
map-read place d xs [] zs (i ∷ is) e p = absurd (cc)
map-read place d xs (y ∷ ys) zs [] e p = absurd (cc)
map-read place d xs (y ∷ ys) zs (i ∷ is) e p =
    let first : place i ≡ length xs = cc in
    let rest : map place is ≡ range_with_len (length xs + 1) (length ys) = cc in
    let more : length (xs ++ y ∷ []) ≡ length xs + 1 = rw length-append refl in
    let now : get_or zs (place i) d ≡ y = rw (first, e) (get_or-append_seam xs y ys d) in
    let later : map (λ id. get_or zs (place id) d) is ≡ ys = map-read place d (xs ++ y ∷ []) ys zs is (e ∙ sym (append_assoc xs (y ∷ []) ys)) (rw more rest) in
    (λ k. now k ∷ later k)

-- elements of two lists that grow by one each, read at one place
pub map-read-two : {A B C I X : Type 0} (place : I → ℕ) (d : A) (e : B) (F : A → B → C) (f : X → A) (g : X → B) (xs : List A) (us : List B) (from : List X) (zs : List A) (ws : List B) (ids : List I)
    → zs ≡ xs ++ map f from → ws ≡ us ++ map g from → length us ≡ length xs → map place ids ≡ range_with_len (length xs) (length from)
    → map (λ id. F (get_or zs (place id) d) (get_or ws (place id) e)) ids ≡ map (λ x. F (f x) (g x)) from
map-read-two place d e F f g xs us [] zs ws [] p q l r = refl
map-read-two place d e F f g xs us [] zs ws (i ∷ is) p q l r = absurd (cc)
map-read-two place d e F f g xs us (x ∷ from) zs ws [] p q l r = absurd (cc)
map-read-two place d e F f g xs us (x ∷ from) zs ws (i ∷ is) p q l r =
    let first : place i ≡ length xs = cc in
    let other : place i ≡ length us = first ∙ sym l in
    let rest : map place is ≡ range_with_len (length xs + 1) (length from) = cc in
    let more : length (xs ++ f x ∷ []) ≡ length xs + 1 = rw length-append refl in
    let more' : length (us ++ g x ∷ []) ≡ length xs + 1 = rw length-append (ap (λ n. n + 1) l) in
    let now : get_or zs (place i) d ≡ f x = rw (first, p) (get_or-append_seam xs (f x) (map f from) d) in
    let too : get_or ws (place i) e ≡ g x = rw (other, q) (get_or-append_seam us (g x) (map g from) e) in
    let later : map (λ id. F (get_or zs (place id) d) (get_or ws (place id) e)) is ≡ map (λ y. F (f y) (g y)) from =
    map-read-two place d e F f g (xs ++ f x ∷ []) (us ++ g x ∷ []) from zs ws is (p ∙ sym (append_assoc xs (f x ∷ []) (map f from)))
    (q ∙ sym (append_assoc us (g x ∷ []) (map g from))) (more' ∙ sym more) (rw more rest) in
    (λ k. F (now k) (too k) ∷ later k)

-- one more parent, whose children come after all others
module _ (lists : List (List ℕ)) (parents : List ℕ) (n : ℕ) (t : Children lists parents) where
  more_lists : List (List ℕ)
  more_lists = lists ++ range_with_len (length parents) n ∷ []

  more_parents : List ℕ
  more_parents = parents ++ replicate n (length lists)

  length-more_lists : length more_lists ≡ length lists + 1
  unfolding more_lists
  length-more_lists = length-append lists (range_with_len (length parents) n ∷ [])

  length-more_parents : length more_parents ≡ length parents + n
  unfolding more_parents
  length-more_parents = length-append parents (replicate n (length lists)) ∙ ap (λ k. length parents + k) (length-replicate n (length lists))

  list-old : (p : ℕ) → p < length lists → get_or more_lists p [] ≡ get_or lists p []
  unfolding more_lists
  list-old p h = get_or_append_left lists (range_with_len (length parents) n ∷ []) [] p h

  list-new : (p : ℕ) → length lists ≡ p → get_or more_lists p [] ≡ range_with_len (length parents) n
  unfolding more_lists
  list-new p h = get_or_push lists (range_with_len (length parents) n) [] p h

  parent-old : (c : ℕ) → c < length parents → get_or more_parents c 0 ≡ get_or parents c 0
  unfolding more_parents
  parent-old c h = get_or_append_left parents (replicate n (length lists)) 0 c h

  parent-new : (c : ℕ) → length parents ≤ c → c < length parents + n → get_or more_parents c 0 ≡ length lists
  unfolding more_parents
  parent-new c h l =
      get_or-append_right parents (replicate n (length lists)) (length parents) c 0 refl h
      ∙ get_or-replicate n (c - length parents) (length lists) 0 (omega arith)

  listed-more : (p c : ℕ) → p < length more_lists → Contains (get_or more_lists p []) c → (c < length more_parents) × (get_or more_parents c 0 ≡ p)
  listed-more p c l h = elim (cases_lt p (length lists)) [
    | inl old ↦
        let was = t.listed p c old (subst (λ xs. Contains xs c) (list-old p old) h) in
        (rw length-more_parents (omega (arith, was.0)), parent-old c was.0 ∙ was.1)
    | inr last ↦
        let e : length lists ≡ p = omega (arith, length-more_lists) in
        let bounds = In-range (length parents) n c (subst (λ xs. Contains xs c) (list-new p e) h) in
        (rw length-more_parents bounds.1, parent-new c bounds.0 bounds.1 ∙ e)
  ]

  owned-more : (c : ℕ) → c < length more_parents → (get_or more_parents c 0 < length more_lists) × Contains (get_or more_lists (get_or more_parents c 0) []) c
  owned-more c l = elim (cases_lt c (length parents)) [
    | inl old ↦
        let was = t.owned c old in
        let e = parent-old c old in
        rw e (rw length-more_lists (omega (arith, was.0)), subst (λ xs. Contains xs c) (sym (list-old (get_or parents c 0) was.0)) was.1)
    | inr new ↦
        let b : c < length parents + n = rw length-more_parents at l in
        let e = parent-new c new b in
        rw e (rw length-more_lists (omega arith), subst (λ xs. Contains xs c) (sym (list-new (length lists) refl)) (range-In (length parents) n c new b))
  ]

  once-more : (p : ℕ) → p < length more_lists → AllPairs (λ a b. a ≢ b) (get_or more_lists p [])
  once-more p l = elim (cases_lt p (length lists)) [
    | inl old ↦ subst (λ xs. AllPairs (λ a b. a ≢ b) xs) (sym (list-old p old)) (t.once p old)
    | inr last ↦ subst (λ xs. AllPairs (λ a b. a ≢ b) xs) (sym (list-new p (omega (arith, length-more_lists)))) (range-apart (length parents) n)
  ]

  pub Children-grown : Children (lists ++ range_with_len (length parents) n ∷ []) (parents ++ replicate n (length lists))
  unfolding more_lists more_parents
  Children-grown = record { listed = listed-more; owned = owned-more; once = once-more }

pub Children-none : Children [] []
Children-none = record {
  listed = λ p c l h. absurd (omega arith);
  owned = λ c l. absurd (omega arith);
  once = λ p l. absurd (omega arith);
}

-- the same of the nodes of parents and children
pub tree-grown : {N M : Type 0} (kids : N → List ℕ) (parent : M → ℕ) (ns : List N) (n : N) (ms more : List M) (len : ℕ)
    → Children (map kids ns) (map parent ms) → kids n ≡ range_with_len (length ms) len
    → map parent more ≡ map parent ms ++ replicate len (length ns) → Children (map kids (ns ++ n ∷ [])) (map parent more)
tree-grown kids parent ns n ms more len t places parents =
    let lists : map kids (ns ++ n ∷ []) ≡ map kids ns ++ range_with_len (length (map parent ms)) len ∷ [] =
    map-append kids ns (n ∷ []) ∙ ap (λ l. map kids ns ++ l ∷ []) (places ∙ ap (λ k. range_with_len k len) (sym (length-map ms parent))) in
    let all : map parent more ≡ map parent ms ++ replicate len (length (map kids ns)) =
    parents ∙ ap (λ k. map parent ms ++ replicate len k) (sym (length-map ns kids)) in
    subst (λ l. Children l (map parent more)) (sym lists)
    (subst (λ l. Children (map kids ns ++ range_with_len (length (map parent ms)) len ∷ []) l) (sym all)
    (Children-grown (map kids ns) (map parent ms) len t))

-- the parents of children that are appended
pub parents-appended : {X M : Type 0} (parent : M → ℕ) (node : X → M) (p : ℕ) (ms more : List M) (from : List X)
    → more ≡ ms ++ map node from → ((x : X) → parent (node x) ≡ p) → map parent more ≡ map parent ms ++ replicate (length from) p
parents-appended parent node p ms more from e h =
    ap (map parent) e ∙ map-append parent ms (map node from)
    ∙ ap (λ l. map parent ms ++ l) (map-map parent node from ∙ map-same (λ x. parent (node x)) (λ x. p) from (λ x m. h x) ∙ map-constant p from)

-- a child in a list of a node is a child in the lists of all nodes
pub listed_of : {N I : Type 0} (kids : N → List I) (place : I → ℕ) (d : N) (ns : List N) (parents : List ℕ) → Children (map (λ n. map place (kids n)) ns) parents
    → (n : N) → Contains ns n → (id : I) → Contains (kids n) id → place id < length parents
listed_of kids place d ns parents t n at id m =
    let k : at.0 < length (map (λ x. map place (kids x)) ns) = rw length-map at.1 in
    let list : get_or (map (λ x. map place (kids x)) ns) at.0 [] ≡ map place (kids n) = get_or-map (λ x. map place (kids x)) ns at.0 n [] at.1 ∙ ap (λ x. map place (kids x)) at.2 in
    (t.listed at.0 (place id) k (subst (λ l. Contains l (place id)) (sym list) (In-map place (kids n) id m))).0

-- what stands for the elements past the end doesn't matter within
pub read-same : {A : Type 0} (xs : List A) (k : ℕ) (d e : A) → k < length xs → get_or xs k d ≡ get_or xs k e
read-same [] k d e h = absurd (omega arith)
read-same (x ∷ xs) zero d e h = refl
read-same (x ∷ xs) (suc k) d e h = read-same xs k d e (omega arith)

-- a child names a parent
pub parent-within : {M : Type 0} (parent : M → ℕ) (lists : List (List ℕ)) (ms : List M) → Children lists (map parent ms) → (k : ℕ) (d : M) → k < length ms
    → parent (get_or ms k d) < length lists
parent-within parent lists ms t k d h =
    let len : k < length (map parent ms) = rw length-map h in
    subst (λ p. p < length lists) (get_or-map parent ms k d 0 h) (t.owned k len).0
