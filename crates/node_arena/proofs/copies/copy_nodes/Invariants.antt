use Rattle.std.proofs.Common.{◌≡◌, take}
use Rattle.node_arena.proofs.copies.copy_nodes.Given as goal

-- the elements so far are copied
abbrev pub invariant-loop-node : goal.invariant-loop-node
invariant-loop-node g l = l.copies.items ≡ take l.node-index l.nodes
