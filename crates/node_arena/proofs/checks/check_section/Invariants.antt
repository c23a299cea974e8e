use Rattle.std.proofs.Common.{◌≡◌, None, take}
use Rattle.std.specs.List.{flat_map}
use Rattle.gt_model.specs.Linked.{first_reference_fault}
use Rattle.gt_model.specs.References.{interval_references}
use Rattle.node_arena.specs.Checking.{kind_found}
use Rattle.node_arena.proofs.checks.check_section.Given as goal

abbrev pub invariant-loop-interval : goal.invariant-loop-interval
invariant-loop-interval l = first_reference_fault (kind_found l.arena l.index) (flat_map (interval_references l.parent.index) (take l.interval-index l.section.intervals)) ≡ None
