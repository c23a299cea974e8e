use Rattle.std.proofs.Common.{◌≡◌, take}
use Rattle.std.specs.List.{flat_map}
use Rattle.ir_check.specs.Sites.{sites_in}
use Rattle.ir_check.proofs.sites.sites_of.Given as goal

abbrev pub invariant-loop-span : goal.invariant-loop-span
invariant-loop-span l = l.entries.items ≡ flat_map sites_in (take l.span-index l.spans)
