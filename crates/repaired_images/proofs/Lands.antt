-- A reference lands where a node of its kind has the identifier.
use Rattle.std.proofs.Common.{◌≡◌, ℕ, Bool, true, List, Option, Some, None, refl, sym, ap, subst, ◌∙◌}
use Rattle.std.specs.Prelude.{find, IsTrue}
use Rattle.std.specs.Option.{IsSomeAnd, option_map}
use Rattle.std.specs.Str.{bytes_eq}
use Rattle.gt_model.specs.Linked.{Lands}
use Rattle.gt_model.specs.Nodes.{Node, ids}
use Rattle.gt_model.specs.References.{Reference, suits}
use Rattle.repaired_images.proofs.Apart.{Apart, id_same, one_of_key, same_id}
use Rattle.repaired_images.proofs.Lists.{In, found_in, found_some}

abbrev id_of_node : Node → List ℕ
id_of_node n = n.id

suits_at : (o : Option Node) (r : Reference) (n : Node) → o ≡ Some n → suits r.wanted n.kind ≡ true → IsSomeAnd (option_map (λ (x : Node). x.kind) o) (λ kind. IsTrue (suits r.wanted kind))
suits_at o r n e h = subst (λ z. IsSomeAnd (option_map (λ (x : Node). x.kind) z) (λ kind. IsTrue (suits r.wanted kind))) (sym e) h

pub land : (ns : List Node) → Apart (ids ns) → (r : Reference) (n : Node) → In n ns → n.id ≡ r.to → suits r.wanted n.kind ≡ true → Lands ns r
land ns apart r n h e good =
    let test : Node → Bool = λ (x : Node). bytes_eq r.to x.id in
    let z = found_some test n ns h (id_same r.to n.id (sym e)) in
    let found = found_in test z.0 ns z.1 in
    let same : n ≡ z.0 = one_of_key id_of_node n z.0 ns apart h found.0 (e ∙ same_id r.to z.0.id found.1) in
    suits_at (find test ns) r n (z.1 ∙ ap Some (sym same)) good

landed_at : (ns : List Node) (r : Reference) (o : Option Node) → find (λ (x : Node). bytes_eq r.to x.id) ns ≡ o → IsSomeAnd (option_map (λ (x : Node). x.kind) o) (λ kind. IsTrue (suits r.wanted kind))
    → (n : Node) × In n ns × (n.id ≡ r.to) × (suits r.wanted n.kind ≡ true)
landed_at ns r None e h = absurd h
landed_at ns r (Some n) e h =
    let found = found_in (λ (x : Node). bytes_eq r.to x.id) n ns e in
    (n, found.0, sym (same_id r.to n.id found.1), h)

pub landed : (ns : List Node) (r : Reference) → Lands ns r → (n : Node) × In n ns × (n.id ≡ r.to) × (suits r.wanted n.kind ≡ true)
landed ns r h = landed_at ns r (find (λ (x : Node). bytes_eq r.to x.id) ns) refl h
