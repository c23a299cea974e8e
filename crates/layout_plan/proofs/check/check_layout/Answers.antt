use Rattle.std.proofs.Common.{◌≡◌, None}
use Rattle.std.proofs.lemmas.Grind.{common_steps}
use Rattle.std.proofs.Common.{arith, ◌<◌}
use Rattle.std.proofs.lemmas.List.Elements.{All-from_recursion}
use Rattle.sym_expr.specs.declared.layout.PlacedSpot.{PlacedSpot}
use Rattle.layout_plan.specs.Faults.{layout_fault}
use Rattle.layout_plan.proofs.Accepting.{aligns, accepted_without_fault}
use Rattle.layout_plan.proofs.check.check_layout.Goals as goal

pub check_aligned-requires : goal.check_aligned-requires
check_aligned-requires c =
    rw c.deref-2.ensures.value (rw c.in_ok-spots.ensures.spots
    (All-from_recursion (λ (x : PlacedSpot). 0 < x.align) _ (aligns c.args.layout.now c.args.shape.now.spots c.requires.shape.spots)))

pub returns-clause-accepted : goal.returns-clause-accepted
returns-clause-accepted c =
    let none : layout_fault c.args.layout.now c.args.shape.now ≡ None = grind (arith, common_steps) in
    accepted_without_fault c.args.layout.now c.args.shape.now c.requires.shape c.requires.stack_size none
