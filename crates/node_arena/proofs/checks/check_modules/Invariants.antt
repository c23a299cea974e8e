use Rattle.std.proofs.Common.{◌≡◌, None, take}
use Rattle.gt_model.specs.Linked.{first_reference_fault}
use Rattle.gt_model.specs.References.{references_from}
use Rattle.node_arena.specs.Checking.{kind_found}
use Rattle.node_arena.proofs.checks.check_modules.Given as goal

abbrev pub invariant-loop-k : goal.invariant-loop-k
invariant-loop-k l = first_reference_fault (kind_found l.arena l.index) (references_from 0 (take l.k l.modules)) ≡ None
