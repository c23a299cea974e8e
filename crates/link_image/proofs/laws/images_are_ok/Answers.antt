use Rattle.link_image.proofs.Whole.{images_ok}
use Rattle.link_image.proofs.laws.images_are_ok.Goals as goal

pub returns : goal.returns
returns c = images_ok c.places_are_least.ensures.remainder
