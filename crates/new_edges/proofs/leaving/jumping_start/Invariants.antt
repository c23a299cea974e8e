use Rattle.std.proofs.Common.{◌≡◌, drop}
use Rattle.std.specs.Prelude.{find}
use Rattle.new_edges.specs.Leaving.{has_own}
use Rattle.new_edges.proofs.leaving.jumping_start.Given as goal

abbrev pub invariant-loop-part : goal.invariant-loop-part
invariant-loop-part l = find (has_own l.offset) (drop l.part-index l.parts) ≡ find (has_own l.offset) l.parts
