use Rattle.std.proofs.Common.{◌≡◌, None, take}
use Rattle.std.specs.List.{flat_map}
use Rattle.gt_model.specs.declared.modules.Section.{Section}
use Rattle.node_arena.specs.Checking.{bare_id}
use Rattle.node_arena.proofs.bare.bare_in_module.Given as goal

abbrev pub invariant-loop-section : goal.invariant-loop-section
invariant-loop-section l = bare_id (flat_map (λ (s : Section). s.intervals) (take l.section-index l.module.sections)) ≡ None
