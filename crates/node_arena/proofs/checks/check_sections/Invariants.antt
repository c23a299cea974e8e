use Rattle.std.proofs.Common.{◌≡◌, None, take}
use Rattle.std.specs.List.{flat_map}
use Rattle.gt_model.specs.Linked.{first_reference_fault}
use Rattle.gt_model.specs.References.{section_references}
use Rattle.node_arena.specs.Checking.{kind_found}
use Rattle.node_arena.proofs.checks.check_sections.Given as goal

abbrev pub invariant-loop-section : goal.invariant-loop-section
invariant-loop-section l = first_reference_fault (kind_found l.arena l.index) (flat_map (section_references l.parent.index) (take l.section-index l.sections)) ≡ None
