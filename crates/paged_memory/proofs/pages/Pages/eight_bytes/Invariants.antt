use Rattle.std.proofs.Common.{◌≡◌, ◌-◌, ◌++◌, replicate}
use Rattle.paged_memory.specs.Mapping.{bytes_from}
use Rattle.paged_memory.specs.Mapped.{paged}
use Rattle.paged_memory.proofs.pages.Pages.eight_bytes.Given as goal

abbrev pub invariant-loop-i : goal.invariant-loop-i
invariant-loop-i l = l.bytes ≡ bytes_from (paged l.self) l.at l.i ++ replicate (8 - l.i) 0
