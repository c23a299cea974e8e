use Rattle.std.proofs.Common.{take}
use Rattle.node_arena.specs.Stored.{arenas_of}
use Rattle.node_arena.specs.Placing.{PlacedSections}
use Rattle.node_arena.proofs.draft.place_sections.Given as goal

abbrev pub invariant-loop-section : goal.invariant-loop-section
invariant-loop-section l = PlacedSections l.parent.index (take l.section-index l.from) (arenas_of l.initial.arena) l.ids.items (arenas_of l.arena)
