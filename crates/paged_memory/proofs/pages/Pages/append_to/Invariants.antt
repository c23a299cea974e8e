use Rattle.std.proofs.Common.{◌≡◌, ◌≤◌, ◌-◌, ◌++◌}
use Rattle.std.specs.Prelude.{vec_capacity}
use Rattle.paged_memory.specs.Mapping.{bytes_from}
use Rattle.paged_memory.specs.Mapped.{paged}
use Rattle.paged_memory.proofs.pages.Pages.append_to.Given as goal

abbrev pub invariant-loop-done : goal.invariant-loop-done
invariant-loop-done l = record {
  few : l.done ≤ l.count;
  out : l.out.items ≡ l.initial.out.items ++ bytes_from (paged l.self) l.at l.done;
  room : vec_capacity l.initial.out ≤ vec_capacity l.out;
}

abbrev pub decreases-loop-done : goal.decreases-loop-done
decreases-loop-done l = l.count - l.done
