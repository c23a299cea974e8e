use Rattle.std.proofs.Common.{◌≡◌, List, ℕ, Option, Some, None, sym, ◌∙◌}
use Rattle.std.specs.Prelude.{IfSome}
use Rattle.node_arena.specs.declared.ids.NodeRef.{NodeRef}
use Rattle.node_arena.specs.Arenas.{Arenas}
use Rattle.node_arena.specs.Sound.{Finds, Live, ref_id}
use Rattle.node_arena.proofs.graph.Graph.find.Goals as goal

found_if_some : (g : Arenas) (found : List ℕ → Option NodeRef) (id : List ℕ) (o : Option NodeRef) → Finds g found → found id ≡ o
    → IfSome o (λ r. Live g r × (ref_id g r ≡ id))
found_if_some g found id None h e = tt
found_if_some g found id (Some r) h e = h.held id r e

pub returns-clause-some : goal.returns-clause-some
returns-clause-some c = rw (← c.self.view_is) (found_if_some _ _ _ _ c.self.invariant.finds (sym c.get.ensures.value ∙ sym c.copied.ensures))
