use Rattle.std.proofs.Common.{take}
use Rattle.node_arena.specs.Stored.{arenas_of}
use Rattle.node_arena.specs.Placing.{Drafted}
use Rattle.node_arena.proofs.draft.draft_of.Given as goal

abbrev pub invariant-loop-module : goal.invariant-loop-module
invariant-loop-module l = Drafted l.ir (take l.module-index l.ir.modules) l.draft.payloads.items (arenas_of l.draft.arena)
