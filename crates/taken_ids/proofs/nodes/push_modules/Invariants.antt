use Rattle.std.proofs.Common.{◌≡◌, ◌++◌, take}
use Rattle.std.specs.List.{flat_map}
use Rattle.taken_ids.specs.NodeIds.{module_ids}
use Rattle.taken_ids.proofs.nodes.push_modules.Given as goal

abbrev pub invariant-loop-module : goal.invariant-loop-module
invariant-loop-module l = l.out.items ≡ l.initial.out.items ++ flat_map module_ids (take l.module-index l.modules)
