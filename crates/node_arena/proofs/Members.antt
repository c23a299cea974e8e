-- Elements of lists, of trees and of lists of lists.
use Rattle.std.proofs.Common.{◌≡◌, ℕ, zero, suc, ◌<◌, List, [], ◌∷◌, ◌++◌, length, get_or, map, refl, sym, ap, ◌∙◌, subst, arith}
use Rattle.std.specs.Prelude.{Contains}
use Rattle.std.specs.List.{AllByRecursion, flat_map}
use Rattle.std.proofs.lemmas.List.{length-map, get_or-map, map-append}
use Rattle.std.proofs.lemmas.List.Elements.{Contains-append_left, Contains-append_right}
use Rattle.node_arena.specs.Sound.{Children}
use Rattle.node_arena.proofs.Lists.{In-head, In-tail, In-map}

pub map-flat : {X Y Z : Type 0} (f : Y → Z) (g : X → List Y) (xs : List X) → map f (flat_map g xs) ≡ flat_map (λ x. map f (g x)) xs
map-flat f g [] = refl
map-flat f g (x ∷ xs) = map-append f (g x) (flat_map g xs) ∙ ap (λ l. map f (g x) ++ l) (map-flat f g xs)

pub flat-same : {X Y : Type 0} (f g : X → List Y) (xs : List X) → ((x : X) → Contains xs x → f x ≡ g x) → flat_map f xs ≡ flat_map g xs
flat-same f g [] h = refl
flat-same f g (x ∷ xs) h = (λ i. h x (In-head x xs) i ++ flat-same f g xs (λ y m. h y (In-tail x y xs m)) i)

flat-at : {X Y : Type 0} (f : X → List Y) (xs : List X) (k : ℕ) (x : X) (y : Y) → k < length xs → get_or xs k x ≡ x → Contains (f x) y → Contains (flat_map f xs) y
flat-at f [] k x y l e m = absurd (omega arith)
flat-at f (z ∷ zs) zero x y l e m = Contains-append_left (f z) (flat_map f zs) y (subst (λ w. Contains (f w) y) (sym e) m)
flat-at f (z ∷ zs) (suc k) x y l e m = Contains-append_right (f z) (flat_map f zs) y (flat-at f zs k x y (omega arith) e m)

-- an element of one of the lists
pub In-flat : {X Y : Type 0} (f : X → List Y) (xs : List X) (x : X) (y : Y) → Contains xs x → Contains (f x) y → Contains (flat_map f xs) y
In-flat f xs x y h m = flat-at f xs h.0 x y h.1 h.2 m

all-at : {X : Type 0} (P : X → Type 0) (xs : List X) (k : ℕ) (x : X) → k < length xs → get_or xs k x ≡ x → AllByRecursion P xs → P x
all-at P [] k x l e h = absurd (omega arith)
all-at P (z ∷ zs) zero x l e h = subst P e h.0
all-at P (z ∷ zs) (suc k) x l e h = all-at P zs k x (omega arith) e h.1

-- what holds of each element holds of one
pub All-In : {X : Type 0} (P : X → Type 0) (xs : List X) (x : X) → AllByRecursion P xs → Contains xs x → P x
All-In P xs x h m = all-at P xs m.0 x m.1 m.2 h

pub In-All : {X : Type 0} (P : X → Type 0) (xs : List X) → ((x : X) → Contains xs x → P x) → AllByRecursion P xs
In-All P [] h = tt
In-All P (x ∷ xs) h = (h x (In-head x xs), In-All P xs (λ y m. h y (In-tail x y xs m)))

-- a child in the list of a node is below it
pub child-of : {N I M : Type 0} (kids : N → List I) (place : I → ℕ) (parent : M → ℕ) (dn : N) (dm : M) (ns : List N) (ms : List M)
    → Children (map (λ n. map place (kids n)) ns) (map parent ms) → (p : ℕ) → p < length ns → (id : I) → Contains (kids (get_or ns p dn)) id
    → (place id < length ms) × (parent (get_or ms (place id) dm) ≡ p)
child-of kids place parent dn dm ns ms t p within id m =
    let len : p < length (map (λ n. map place (kids n)) ns) = rw length-map within in
    let list : get_or (map (λ n. map place (kids n)) ns) p [] ≡ map place (kids (get_or ns p dn)) = get_or-map (λ n. map place (kids n)) ns p dn [] within in
    let there = t.listed p (place id) len (subst (λ l. Contains l (place id)) (sym list) (In-map place (kids (get_or ns p dn)) id m)) in
    let below : place id < length ms = rw length-map at there.0 in
    (below, sym (get_or-map parent ms (place id) dm 0 below) ∙ there.1)

-- and a node is in the list of its parent
pub child-in : {N I M : Type 0} (kids : N → List I) (place : I → ℕ) (make : ℕ → I) (parent : M → ℕ) (dn : N) (dm : M) (ns : List N) (ms : List M)
    → ((i : I) → make (place i) ≡ i) → Children (map (λ n. map place (kids n)) ns) (map parent ms) → (id : I) → place id < length ms
    → (parent (get_or ms (place id) dm) < length ns) × Contains (kids (get_or ns (parent (get_or ms (place id) dm)) dn)) id
child-in kids place make parent dn dm ns ms eta t id within =
    let len : place id < length (map parent ms) = rw length-map within in
    let at : get_or (map parent ms) (place id) 0 ≡ parent (get_or ms (place id) dm) = get_or-map parent ms (place id) dm 0 within in
    let there = t.owned (place id) len in
    let below : parent (get_or ms (place id) dm) < length ns = subst (λ p. p < length ns) at (rw length-map at there.0) in
    let list : get_or (map (λ n. map place (kids n)) ns) (parent (get_or ms (place id) dm)) [] ≡ map place (kids (get_or ns (parent (get_or ms (place id) dm)) dn)) =
    get_or-map (λ n. map place (kids n)) ns (parent (get_or ms (place id) dm)) dn [] below in
    let held : Contains (map place (kids (get_or ns (parent (get_or ms (place id) dm)) dn))) (place id) =
    subst (λ l. Contains l (place id)) list (subst (λ p. Contains (get_or (map (λ n. map place (kids n)) ns) p []) (place id)) at there.1) in
    (below, In-places place make (kids (get_or ns (parent (get_or ms (place id) dm)) dn)) id eta held)
  where
    In-places : {I : Type 0} (place : I → ℕ) (make : ℕ → I) (ids : List I) (id : I) → ((i : I) → make (place i) ≡ i) → Contains (map place ids) (place id) → Contains ids id
    In-places place make ids id eta h =
        let k : h.0 < length ids = rw length-map at h.1 in
        (h.0, k, sym (eta (get_or ids h.0 id)) ∙ ap make (sym (get_or-map place ids h.0 id (place id) k) ∙ h.2) ∙ eta id)
