use Rattle.std.proofs.Common.{◌≡◌, map, take}
use Rattle.node_arena.specs.Plain.{plain_module}
use Rattle.node_arena.specs.Stored.{arenas_of}
use Rattle.node_arena.proofs.plain.plain_modules.Given as goal

abbrev pub invariant-loop-index : goal.invariant-loop-index
invariant-loop-index l = l.modules.items ≡ map (plain_module (arenas_of l.arena)) (take l.index l.arena.modules.items)
