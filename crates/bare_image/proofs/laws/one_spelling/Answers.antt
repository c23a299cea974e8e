use Rattle.bare_image.proofs.Images.{one_image}
use Rattle.bare_image.proofs.laws.one_spelling.Goals as goal

pub returns-clause-image : goal.returns-clause-image
returns-clause-image c = one_image
