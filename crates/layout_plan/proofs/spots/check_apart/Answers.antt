use Rattle.std.proofs.Common.{◌<◌}
use Rattle.std.proofs.lemmas.List.Elements.{All-from_recursion, recursion_from_All}
use Rattle.sym_expr.specs.declared.layout.PlacedSpot.{PlacedSpot}
use Rattle.sym_expr.specs.Layouts.{IsInside}
use Rattle.layout_plan.proofs.Apart.{all_sorted}
use Rattle.layout_plan.proofs.Pairs.{all_through}
use Rattle.layout_plan.proofs.spots.check_apart.Goals as goal

pub check_neighbours-requires : goal.check_neighbours-requires
check_neighbours-requires c =
    rw c.deref.ensures.value (rw c.in_ok-sort_by_address.ensures (rw c.in_ok-sorted.ensures
    (All-from_recursion IsInside _ (all_sorted IsInside c.args.spots.now
    (all_through IsInside (λ (x : PlacedSpot). 0 < x.size → IsInside x) (λ x h some. h) c.args.spots.now (recursion_from_All IsInside c.args.spots.now c.requires))))))
