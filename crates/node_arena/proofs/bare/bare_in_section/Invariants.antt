use Rattle.std.proofs.Common.{◌≡◌, None, take}
use Rattle.node_arena.specs.Checking.{bare_id}
use Rattle.node_arena.proofs.bare.bare_in_section.Given as goal

abbrev pub invariant-loop-interval : goal.invariant-loop-interval
invariant-loop-interval l = bare_id (take l.interval-index l.section.intervals) ≡ None
