use Rattle.std.proofs.Common.{◌≡◌, map, take}
use Rattle.ir_check.specs.Sites.{size_entry}
use Rattle.ir_check.proofs.sites.interval_sizes.Given as goal

abbrev pub invariant-loop-span : goal.invariant-loop-span
invariant-loop-span l = l.entries.items ≡ map size_entry (take l.span-index l.spans)
