use Rattle.std.proofs.Common.{◌≡◌, ℕ, ◌+◌, ◌-◌, ◌^◌, ◌<◌, ◌≤◌, true}
use Rattle.std.specs.Prelude.{is_some}
use Rattle.paged_memory.specs.Mapped.{paged}
use Rattle.paged_memory.proofs.pages.Pages.is_mapped.Given as goal

abbrev pub invariant-loop-done : goal.invariant-loop-done
invariant-loop-done l = record {
  few : l.done ≤ l.count;
  fits : l.at + l.done ≤ 2 ^ 64;
  mapped : (k : ℕ) → k < l.done → is_some (paged l.self (l.at + k)) ≡ true;
}

abbrev pub decreases-loop-done : goal.decreases-loop-done
decreases-loop-done l = l.count - l.done
