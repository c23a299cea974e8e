use Rattle.std.proofs.Common.{◌≡◌, ℕ, false, eqb, length, get_or, take}
use Rattle.std.specs.List.{list_any}
use Rattle.node_arena.specs.declared.ids.EdgeId.{EdgeId}
use Rattle.node_arena.proofs.edges.marks_of.Given as goal

abbrev pub invariant-loop-edge : goal.invariant-loop-edge
invariant-loop-edge l = record {
  len : length l.marks.items ≡ l.count;
  marked : (k : ℕ) → get_or l.marks.items k false ≡ list_any (λ (x : EdgeId). eqb x.index k) (take l.edge-index l.edges);
}
