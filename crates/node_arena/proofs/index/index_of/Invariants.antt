use Rattle.std.proofs.Common.{◌≡◌, [], map, take, None}
use Rattle.gt_model.specs.Linked.{repeated}
use Rattle.node_arena.specs.Sound.{ref_id}
use Rattle.node_arena.specs.Stored.{arenas_of, entry_of}
use Rattle.node_arena.proofs.index.index_of.Given as goal

abbrev pub invariant-loop-node : goal.invariant-loop-node
invariant-loop-node l = record {
  entries : l.index.entries ≡ map (entry_of (arenas_of l.arena)) (take l.node-index l.nodes);
  distinct : repeated [] (map (ref_id (arenas_of l.arena)) (take l.node-index l.nodes)) ≡ None;
}
