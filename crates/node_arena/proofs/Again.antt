-- The nodes of a sound graph have distinct identifiers, so an index of them is made.
use Rattle.std.proofs.Common.{◌≡◌, ℕ, false, List, [], ◌∷◌, map, None, refl, sym, subst}
use Rattle.std.specs.List.{AllByRecursion, list_any}
use Rattle.std.specs.Map.{lookup}
use Rattle.std.specs.Str.{bytes_eq}
use Rattle.gt_model.specs.Linked.{repeated}
use Rattle.node_arena.specs.declared.arena.Arena.{Arena}
use Rattle.node_arena.specs.Arenas.{Arenas}
use Rattle.node_arena.specs.Refs.{all_refs}
use Rattle.node_arena.specs.Sound.{sound, Finds, ref_id}
use Rattle.node_arena.specs.Stored.{Index, Holds, arenas_of, entry_of}
use Rattle.node_arena.proofs.Apart.{Apart, Other, pairs-apart}
use Rattle.node_arena.proofs.Members.{In-All}
use Rattle.node_arena.proofs.PartsLive.{full-of}
use Rattle.node_arena.proofs.RefMembers.{finds-nodes, other-bytes}
use Rattle.node_arena.proofs.RefsApart.{ids-apart}

AbsentFrom : List (List ℕ) → List ℕ → Type 0
AbsentFrom earlier x = list_any (bytes_eq x) earlier ≡ false

absent-too : (earlier : List (List ℕ)) (x : List ℕ) (ys : List (List ℕ)) → Other x ys → AllByRecursion (AbsentFrom earlier) ys → AllByRecursion (AbsentFrom (x ∷ earlier)) ys
unfolding AbsentFrom
absent-too earlier x [] o h = tt
absent-too earlier x (y ∷ ys) o h = (rw (other-bytes y x (λ e. o.0 (sym e))) h.0, absent-too earlier x ys o.1 h.1)

none-repeated : (earlier xs : List (List ℕ)) → Apart xs → AllByRecursion (AbsentFrom earlier) xs → repeated earlier xs ≡ None
unfolding AbsentFrom
none-repeated earlier [] a h = refl
none-repeated earlier (x ∷ xs) a h = rw h.0 (none-repeated (x ∷ earlier) xs a.1 (absent-too earlier x xs a.0 h.1))

pub no-repeat : (g : Arenas) → sound g → repeated [] (map (ref_id g) (all_refs g)) ≡ None
unfolding AbsentFrom
no-repeat g s =
    let ids : List (List ℕ) = map (ref_id g) (all_refs g) in
    none-repeated [] ids (pairs-apart ids (ids-apart g (full-of g s.tree) s.names)) (In-All (AbsentFrom []) ids (λ x k. refl))

pub holds-again : (a : Arena) (index : Index) → sound (arenas_of a) → index.entries ≡ map (entry_of (arenas_of a)) (all_refs (arenas_of a)) → Holds a index
holds-again a index s entries = record {
  sound = s;
  finds = subst (λ es. Finds (arenas_of a) (λ id. lookup (bytes_eq id) es)) (sym entries)
      (finds-nodes (arenas_of a) (full-of (arenas_of a) s.tree) (ids-apart (arenas_of a) (full-of (arenas_of a) s.tree) s.names));
}
