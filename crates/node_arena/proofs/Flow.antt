-- Edges and vertices that come and go leave a graph that stands.
use Rattle.std.proofs.Common.{◌≡◌, ℕ, ◌+◌, ◌<◌, Bool, true, false, cond, eqb, Less, Equal, Greater, List, [], ◌∷◌, ◌++◌, length, map, filter, Option, refl, sym, ap, ◌∙◌, subst, arith}
use Rattle.std.specs.Prelude.{All}
use Rattle.std.specs.Ordering.{nat_cmp}
use Rattle.std.specs.List.{AllByRecursion}
use Rattle.std.specs.List.Sorted.{IsStrictlySortedBy}
use Rattle.std.proofs.lemmas.Bool.{lt-ltb}
use Rattle.std.proofs.lemmas.List.{map-append, length_push}
use Rattle.std.proofs.lemmas.List.Elements.{All-filter, All-push, All-weaker, All-head, All-tail, All-map}
use Rattle.std.proofs.lemmas.List.Kept.{IsStrictlySortedBy-filter}
use Rattle.node_arena.specs.declared.ids.EdgeId.{EdgeId}
use Rattle.node_arena.specs.declared.ids.NodeRef.{NodeRef}
use Rattle.node_arena.specs.declared.nodes.EdgeNode.{EdgeNode}
use Rattle.node_arena.specs.Arenas.{Arenas}
use Rattle.node_arena.specs.Changes.{edge_added}
use Rattle.node_arena.specs.Sound.{IsVertex, flow}
use Rattle.node_arena.proofs.Alike.{Stands}
use Rattle.node_arena.proofs.Set.{stands_flow}

-- a filter that reads only what a map gives
map-filter : {A B : Type 0} (f : A → B) (p : B → Bool) (xs : List A) → map f (filter (λ x. p (f x)) xs) ≡ filter p (map f xs)
map-filter f p [] = refl
map-filter {A} {B} f p (x ∷ xs) = step (p (f x)) (filter (λ y. p (f y)) xs) (filter p (map f xs)) (map-filter f p xs)
  where
    step : (b : Bool) (ys : List A) (zs : List B) → map f ys ≡ zs → map f (cond b (x ∷ ys) ys) ≡ cond b (f x ∷ zs) zs
    step true ys zs e = ap (λ (l : List B). f x ∷ l) e
    step false ys zs e = e

below : (x y : ℕ) → x < y → nat_cmp x y ≡ Less
below x y l = ap (λ (b : Bool). cond b Less (cond (eqb x y) Equal Greater)) (lt-ltb x y l)

all_push : {A : Type 0} (P : A → Type 0) (xs : List A) (y : A) → AllByRecursion P xs → P y → AllByRecursion P (xs ++ y ∷ [])
all_push P [] y a p = (p, tt)
all_push P (x ∷ xs) y a p = (a.0, all_push P xs y a.1 p)

-- numbers that ascend, and one above them all
pub ascending_push : (xs : List ℕ) (y : ℕ) → All (λ x. x < y) xs → IsStrictlySortedBy nat_cmp xs → IsStrictlySortedBy nat_cmp (xs ++ y ∷ [])
unfolding IsStrictlySortedBy
ascending_push [] y a s = (tt, tt)
ascending_push (x ∷ xs) y a s = (
  all_push (λ z. nat_cmp x z ≡ Less) xs y s.0 (below x y (All-head (λ z. z < y) x xs a)),
  ascending_push xs y (All-tail (λ z. z < y) x xs a) s.1,
)

module _ (g : Arenas) (found : List ℕ → Option NodeRef) (s : Stands g found) where
  -- fewer edges
  pub stands_fewer : (p : ℕ → Bool) → Stands (record g { live = filter (λ (id : EdgeId). p id.index) g.live }) found
  stands_fewer p =
      let f = s.sound.flow in
      let test = λ (id : EdgeId). p id.index in
      stands_flow g found s (record g { live = filter test g.live }) refl s.sound.lands.sources s.sound.lands.targets s.sound.lands.vertices
      (record {
        live = All-filter test (λ (id : EdgeId). id.index < length g.edges) g.live f.live;
        ascend = subst (λ (l : List ℕ). IsStrictlySortedBy nat_cmp l) (sym (map-filter (λ (id : EdgeId). id.index) p g.live))
            (IsStrictlySortedBy-filter nat_cmp p (map (λ (id : EdgeId). id.index) g.live) f.ascend);
        no_edges = λ e. ap (filter test) (f.no_edges e);
        no_vertices = f.no_vertices;
      })

  -- one more edge
  pub stands_added : (n : EdgeNode) → IsVertex g n.source → IsVertex g n.target → Stands (edge_added g n) found
  stands_added n source target =
      let f = s.sound.flow in
      let id : EdgeId = record { index = length g.edges } in
      let more : length (g.edges ++ n ∷ []) ≡ length g.edges + 1 = length_push g.edges n in
      stands_flow g found s (edge_added g n) refl
      (All-push (λ (m : EdgeNode). IsVertex g m.source) g.edges n s.sound.lands.sources source)
      (All-push (λ (m : EdgeNode). IsVertex g m.target) g.edges n s.sound.lands.targets target)
      s.sound.lands.vertices
      (record {
        live = All-push (λ (x : EdgeId). x.index < length (g.edges ++ n ∷ [])) g.live id
            (All-weaker (λ (x : EdgeId). x.index < length g.edges) (λ (x : EdgeId). x.index < length (g.edges ++ n ∷ [])) (λ (x : EdgeId) l. omega (arith, more)) g.live f.live)
            (omega (arith, more));
        ascend = subst (λ (l : List ℕ). IsStrictlySortedBy nat_cmp l) (sym (map-append (λ (x : EdgeId). x.index) g.live (id ∷ [])))
            (ascending_push (map (λ (x : EdgeId). x.index) g.live) (length g.edges) (All-map (λ k. k < length g.edges) (λ (x : EdgeId). x.index) g.live f.live) f.ascend);
        no_edges = λ e. absurd (cc);
        no_vertices = λ e. absurd (cc);
      })
