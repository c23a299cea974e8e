use Rattle.std.proofs.Common.{◌≡◌, map, take}
use Rattle.node_arena.specs.Plain.{plain_interval}
use Rattle.node_arena.specs.Stored.{arenas_of}
use Rattle.node_arena.proofs.plain.plain_intervals.Given as goal

abbrev pub invariant-loop-id : goal.invariant-loop-id
invariant-loop-id l = l.intervals.items ≡ map (plain_interval (arenas_of l.arena)) (take l.id-index l.ids)
