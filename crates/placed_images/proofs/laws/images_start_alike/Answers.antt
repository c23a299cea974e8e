use Rattle.std.proofs.Common.{refl}
use Rattle.placed_images.proofs.laws.images_start_alike.Goals as goal

pub returns : goal.returns
returns c = λ g l input. refl
