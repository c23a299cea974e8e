use Rattle.placed_images.proofs.Whole.{images_placed}
use Rattle.placed_images.proofs.laws.images_are_placed.Goals as goal

pub returns : goal.returns
returns c = images_placed
