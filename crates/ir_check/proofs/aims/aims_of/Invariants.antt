use Rattle.std.proofs.Common.{◌≡◌, map, take}
use Rattle.std.specs.Str.{bytes_eq}
use Rattle.indexmap.specs.IndexMap.{get}
use Rattle.ir_check.specs.Sites.{aim_entry}
use Rattle.ir_check.proofs.aims.aims_of.Given as goal

abbrev pub invariant-loop-symbol : goal.invariant-loop-symbol
invariant-loop-symbol l = l.entries.items ≡ map (aim_entry l.graph (get bytes_eq l.sites)) (take l.symbol-index l.symbol-items)
