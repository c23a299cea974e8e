use Rattle.std.proofs.Common.{take}
use Rattle.node_arena.specs.Stored.{arenas_of}
use Rattle.node_arena.specs.Placing.{PlacedIntervals}
use Rattle.node_arena.proofs.draft.place_intervals.Given as goal

abbrev pub invariant-loop-interval : goal.invariant-loop-interval
invariant-loop-interval l = PlacedIntervals l.parent.index (take l.interval-index l.from) (arenas_of l.initial.arena) l.ids.items (arenas_of l.arena)
