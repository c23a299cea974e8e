use Rattle.std.proofs.Common.{◌≡◌, take}
use Rattle.std.specs.List.{flat_map}
use Rattle.layout_plan.specs.Text.{place_line}
use Rattle.layout_plan.proofs.printing.print_layout.Given as goal

abbrev pub invariant-loop-place : goal.invariant-loop-place
invariant-loop-place l = l.text ≡ flat_map place_line (take l.place-index l.layout.places)
