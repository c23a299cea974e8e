use Rattle.std.proofs.Common.{◌≡◌, ◌++◌, map, take}
use Rattle.ir_check.specs.Sites.{site_entry}
use Rattle.ir_check.proofs.sites.add_sites.Given as goal

abbrev pub invariant-loop-block : goal.invariant-loop-block
invariant-loop-block l = l.entries.items ≡ l.initial.entries.items ++ map (site_entry l.span.uuid) (take l.block-index l.block-items)
