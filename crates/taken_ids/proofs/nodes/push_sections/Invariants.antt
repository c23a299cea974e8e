use Rattle.std.proofs.Common.{◌≡◌, ◌++◌, take}
use Rattle.std.specs.List.{flat_map}
use Rattle.taken_ids.specs.NodeIds.{section_ids}
use Rattle.taken_ids.proofs.nodes.push_sections.Given as goal

abbrev pub invariant-loop-section : goal.invariant-loop-section
invariant-loop-section l = l.out.items ≡ l.initial.out.items ++ flat_map section_ids (take l.section-index l.sections)
