-- A graph as it is stored, after a node was put in its arena and its index.
use Rattle.std.proofs.Common.{◌≡◌, ℕ, Bool, true, false, List, [], Option, Some, None, refl, sym, ap, ◌∙◌, subst, arith}
use Rattle.std.specs.Prelude.{is_some}
use Rattle.std.specs.List.Sorted.{IsStrictlySortedBy}
use Rattle.std.specs.Map.{lookup}
use Rattle.std.specs.Str.{bytes_eq}
use Rattle.indexmap.specs.IndexMap.{get, Updates}
use Rattle.gt_model.specs.declared.symbols.Payload.{Payload}
use Rattle.gt_model.specs.declared.symbols.Payload.TheVariants as plain
use Rattle.gt_model.specs.Ordered.{ordered_exprs}
use Rattle.node_arena.specs.declared.arena.Arena.{Arena}
use Rattle.node_arena.specs.declared.ids.ModuleId.{ModuleId}
use Rattle.node_arena.specs.declared.ids.NodeRef.{NodeRef}
use Rattle.node_arena.specs.Arenas.{Arenas}
use Rattle.node_arena.specs.Changes.{IsHeld, loose_payload}
use Rattle.node_arena.specs.Sound.{Finds, IsReferent, NamesSymbolsOf}
use Rattle.node_arena.specs.Stored.{Index, FindsAlso, Holds, arenas_of}
use Rattle.node_arena.proofs.Alike.{Stands}
use Rattle.node_arena.proofs.Added.{Adds}

pub finds_also : (old room new : Index) (id : List ℕ) (r : NodeRef) → Updates bytes_eq room new id (Some r) → room.entries ≡ old.entries → FindsAlso old new id r
finds_also old room new id r u e = record {
  hit = u.1;
  miss = λ other q. u.2 other q ∙ ap (λ (es : List (List ℕ × NodeRef)). lookup (bytes_eq other) es) e;
}

none_of : (o : Option NodeRef) → is_some o ≡ false → o ≡ None
none_of None e = refl
none_of (Some r) e = absurd (cc)

pub adds_from : (old new : Index) (u : List ℕ) (r s : NodeRef) → is_some (get bytes_eq old u) ≡ false → FindsAlso old new u r → r ≡ s
    → Adds (get bytes_eq old) (get bytes_eq new) u s
adds_from old new u r s none f same = record {
  none = none_of (get bytes_eq old u) none;
  hit = f.hit ∙ ap (λ (x : NodeRef). Some x) same;
  miss = f.miss;
}

-- an identifier that the index finds is held
pub held_by : (g : Arenas) (found : List ℕ → Option NodeRef) → Finds g found → (u : List ℕ) → is_some (found u) ≡ true → IsHeld g u
held_by g found f u e = by (found u) refl e
  where
    by : (o : Option NodeRef) → found u ≡ o → is_some o ≡ true → IsHeld g u
    by None q t = absurd (cc)
    by (Some r) q t = let was = f.held u r q in (r, was.0, was.1)

pub holds_after : (b : Arena) (j : Index) (h : Arenas) → arenas_of b ≡ h → Stands h (get bytes_eq j) → Holds b j
holds_after b j h e s =
    let t = subst (λ (x : Arenas). Stands x (get bytes_eq j)) (sym e) s in
    record { sound = t.sound; finds = t.finds }

-- what didn't change
pub holds_same : (a b : Arena) (i j : Index) → Holds a i → arenas_of b ≡ arenas_of a → j.entries ≡ i.entries → Holds b j
holds_same a b i j h e same =
    let look : List (List ℕ × NodeRef) → List ℕ → Option NodeRef = λ es u. lookup (bytes_eq u) es in
    let looks : get bytes_eq j ≡ get bytes_eq i = ap look same in
    holds_after b j (arenas_of a) e
    (subst (λ (f : List ℕ → Option NodeRef). Stands (arenas_of a) f) (sym looks) (record { sound = h.sound; finds = h.finds }))

pub loose_lands : (g : Arenas) (m : ModuleId) (p : Payload) → IsReferent g m (loose_payload p)
loose_lands g m plain.Nothing = tt
loose_lands g m (plain.Value value) = tt
loose_lands g m (plain.Referent id) = tt

-- no expressions are in order, and name no symbol
pub none_ordered : ordered_exprs []
unfolding IsStrictlySortedBy
none_ordered = tt

pub none_named : (g : Arenas) (m : ℕ) → NamesSymbolsOf g m []
none_named g m = λ k d l. absurd (omega arith)
