use Rattle.std.proofs.Common.{◌≡◌, None, take}
use Rattle.std.specs.List.{flat_map}
use Rattle.gt_model.specs.declared.modules.Module.{Module}
use Rattle.gt_model.specs.declared.modules.Section.{Section}
use Rattle.node_arena.specs.Checking.{bare_id}
use Rattle.node_arena.proofs.bare.bare_in.Given as goal

abbrev pub invariant-loop-module : goal.invariant-loop-module
invariant-loop-module l = bare_id (flat_map (λ (m : Module). flat_map (λ (s : Section). s.intervals) m.sections) (take l.module-index l.modules)) ≡ None
