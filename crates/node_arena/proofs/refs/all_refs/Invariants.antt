use Rattle.std.proofs.Common.{◌≡◌, ◌∷◌, take}
use Rattle.node_arena.specs.declared.ids.NodeRef.TheVariants as refs
use Rattle.node_arena.specs.Refs.{refs_from}
use Rattle.node_arena.specs.Stored.{arenas_of}
use Rattle.node_arena.proofs.refs.all_refs.Given as goal

abbrev pub invariant-loop-index : goal.invariant-loop-index
invariant-loop-index l = l.out.items ≡ refs.Ir ∷ refs_from (arenas_of l.arena) 0 (take l.index (arenas_of l.arena).modules)
