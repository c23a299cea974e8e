-- The image of a program is the program where its layout places it.
use Rattle.std.proofs.Common.{◌≡◌, None, [], ◌∷◌, map}
use Rattle.sym_expr.specs.declared.layout.Layout.{Layout}
use Rattle.sym_expr.specs.declared.program.Program.{Program}
use Rattle.sym_expr.specs.Images.{link_fault}
use Rattle.sym_expr.specs.Layouts.{accepted, IsInside, placed as placed_spot, placed_stack}
use Rattle.sym_expr.specs.Placing.{shape_of, spot_of}
use Rattle.sym_expr.specs.WellMade.{well_made}
use Rattle.simulation.specs.Placement.{placement_of}
use Rattle.simulation.specs.Placed.{IsPlaced}
use Rattle.placed_images.specs.Typed.{HasNearEntries, IsTyped}
use Rattle.placed_images.proofs.CodeWords.{has_code}
use Rattle.placed_images.proofs.GoesOn.{goes_on_is}
use Rattle.placed_images.proofs.Lists.{every_back}
use Rattle.placed_images.proofs.Loaded.{memory_of}
use Rattle.placed_images.proofs.Objects.{are_apart, has_cells, is_aligned, is_beside, is_inside}
use Rattle.placed_images.proofs.Points.{after_is, is_address}

stack_inside : (l : Layout) (g : Program) → accepted l (shape_of g) → IsInside (placed_stack l)
stack_inside l g laid = (every_back IsInside (map (placed_spot l) (map spot_of g.stretches)) (placed_stack l ∷ []) laid.inside).0

pub images_placed : (g : Program) (l : Layout) → well_made g → IsTyped g → HasNearEntries g → accepted l (shape_of g) → link_fault g l ≡ None → IsPlaced (placement_of l g) g (memory_of l g)
images_placed g l well typed close laid none =
    let stack = stack_inside l g laid in
    record {
      entry = well.entry.2;
      inside = is_inside l g well typed close laid none stack.low stack.high;
      apart = are_apart l g well typed close laid none;
      beside_code = is_beside l g well typed close laid none;
      aligned = is_aligned l g well typed close laid none;
      points = is_address l g well laid;
      after = λ p w is e. after_is l g well p is;
      goes_on = goes_on_is l g well;
      code = has_code l g well typed laid none;
      cells = has_cells l g well typed close laid none;
    }
