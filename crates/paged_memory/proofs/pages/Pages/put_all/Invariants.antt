use Rattle.std.proofs.Common.{◌≡◌, ◌≤◌, ◌-◌, length, take}
use Rattle.paged_memory.specs.Mapping.{with_bytes}
use Rattle.paged_memory.specs.Mapped.{paged}
use Rattle.paged_memory.proofs.pages.Pages.put_all.Given as goal

abbrev pub invariant-loop-done : goal.invariant-loop-done
invariant-loop-done l = record {
  few : l.done ≤ length l.bytes;
  parts : l.self.parts ≡ l.fn.self.parts;
  len : length l.self.bytes.items ≡ length l.fn.self.bytes.items;
  bytes : paged l.self ≡ with_bytes (paged l.fn.self) l.at (take l.done l.bytes);
}

abbrev pub decreases-loop-done : goal.decreases-loop-done
decreases-loop-done l = length l.bytes - l.done
