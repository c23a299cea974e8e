use Rattle.std.proofs.Common.{◌≡◌, ◌*◌, ◌^◌, ◌≤◌, take}
use Rattle.std.specs.Prelude.{sum_by}
use Rattle.ir_check.specs.declared.span.Span.{Span}
use Rattle.ir_check.proofs.structure.total_size.Given as goal

abbrev pub invariant-loop-span : goal.invariant-loop-span
invariant-loop-span l = (l.total ≡ sum_by (λ (s : Span). s.size) (take l.span-index l.spans)) × (l.total ≤ l.span-index * 2 ^ 64)
