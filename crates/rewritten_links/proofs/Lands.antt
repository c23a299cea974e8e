-- A reference lands where a node of its kind has the identifier.
use Rattle.std.proofs.Common.{◌≡◌, ℕ, inl, inr, Bool, true, List, [], ◌∷◌, ◌++◌, Option, Some, None, refl, sym, ap, subst, ◌∙◌}
use Rattle.std.specs.Prelude.{find, IsTrue}
use Rattle.std.specs.List.{AllByRecursion as Every, flat_map}
use Rattle.std.specs.Option.{IsSomeAnd, option_map}
use Rattle.std.specs.Str.{bytes_eq}
use Rattle.gt_model.specs.Linked.{Lands}
use Rattle.gt_model.specs.Nodes.{Node, ids}
use Rattle.gt_model.specs.References.{Reference, suits}
use Rattle.rewritten_links.proofs.Apart.{Apart, id_same, one_of_key, same_id}
use Rattle.rewritten_links.proofs.Lists.{In, found_in, found_some}

abbrev id_of_node : Node → List ℕ
id_of_node n = n.id

suits_at : (o : Option Node) (r : Reference) (n : Node) → o ≡ Some n → suits r.wanted n.kind ≡ true → IsSomeAnd (option_map (λ (x : Node). x.kind) o) (λ kind. IsTrue (suits r.wanted kind))
suits_at o r n e h = subst (λ z. IsSomeAnd (option_map (λ (x : Node). x.kind) z) (λ kind. IsTrue (suits r.wanted kind))) (sym e) h

pub land : (ns : List Node) → Apart (ids ns) → (r : Reference) (n : Node) → In n ns → n.id ≡ r.to → suits r.wanted n.kind ≡ true → Lands ns r
land ns apart r n h e good =
    let test : Node → Bool = λ (x : Node). bytes_eq r.to x.id in
    let z = found_some test n ns h (id_same r.to n.id (sym e)) in
    let found = found_in test z.0 ns z.1 in
    let same : n ≡ z.0 = one_of_key id_of_node n z.0 ns apart h found.0 (e ∙ same_id r.to z.0.id found.1) in
    suits_at (find test ns) r n (z.1 ∙ ap Some (sym same)) good

landed_at : (ns : List Node) (r : Reference) (o : Option Node) → find (λ (x : Node). bytes_eq r.to x.id) ns ≡ o → IsSomeAnd (option_map (λ (x : Node). x.kind) o) (λ kind. IsTrue (suits r.wanted kind))
    → (n : Node) × In n ns × (n.id ≡ r.to) × (suits r.wanted n.kind ≡ true)
landed_at ns r None e h = absurd h
landed_at ns r (Some n) e h =
    let found = found_in (λ (x : Node). bytes_eq r.to x.id) n ns e in
    (n, found.0, sym (same_id r.to n.id found.1), h)

pub landed : (ns : List Node) (r : Reference) → Lands ns r → (n : Node) × In n ns × (n.id ≡ r.to) × (suits r.wanted n.kind ≡ true)
landed ns r h = landed_at ns r (find (λ (x : Node). bytes_eq r.to x.id) ns) refl h

-- where all nodes are kept, what landed lands
pub keep : (ns new : List Node) → Apart (ids new) → ((n : Node) → In n ns → In n new) → (r : Reference) → Lands ns r → Lands new r
keep ns new apart kept r h =
    let n = landed ns r h in
    land new apart r n.0 (kept n.0 n.1) n.2 n.3

-- ---- facts of each element of lists

pub every_weaker : {X : Type 0} (P Q : X → Type 0) → ((x : X) → P x → Q x) → (xs : List X) → Every P xs → Every Q xs
every_weaker P Q f [] h = tt
every_weaker P Q f (x ∷ xs) h = (f x h.0, every_weaker P Q f xs h.1)

pub every_append : {X : Type 0} (P : X → Type 0) (xs ys : List X) → Every P xs → Every P ys → Every P (xs ++ ys)
every_append P [] ys h k = k
every_append P (x ∷ xs) ys h k = (h.0, every_append P xs ys h.1 k)

pub every_front : {X : Type 0} (P : X → Type 0) (xs ys : List X) → Every P (xs ++ ys) → Every P xs
every_front P [] ys h = tt
every_front P (x ∷ xs) ys h = (h.0, every_front P xs ys h.1)

pub every_back : {X : Type 0} (P : X → Type 0) (xs ys : List X) → Every P (xs ++ ys) → Every P ys
every_back P [] ys h = h
every_back P (x ∷ xs) ys h = every_back P xs ys h.1

pub every_flat : {X Y : Type 0} (f : X → List Y) (P : Y → Type 0) (xs : List X) → ((x : X) → In x xs → Every P (f x)) → Every P (flat_map f xs)
every_flat f P [] h = tt
every_flat f P (x ∷ xs) h = every_append P (f x) (flat_map f xs) (h x (inl refl)) (every_flat f P xs (λ y k. h y (inr k)))

pub every_one : {X Y : Type 0} (f : X → List Y) (P : Y → Type 0) (xs : List X) (x : X) → Every P (flat_map f xs) → In x xs → Every P (f x)
every_one f P [] x h k = absurd k
every_one f P (y ∷ xs) x h (inl e) = subst (λ z. Every P (f z)) (sym e) (every_front P (f y) (flat_map f xs) h)
every_one f P (y ∷ xs) x h (inr k) = every_one f P xs x (every_back P (f y) (flat_map f xs) h) k
