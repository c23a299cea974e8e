use Rattle.bare_image.proofs.Images as images
use Rattle.bare_image.proofs.laws.image_or_fault.Goals as goal

pub returns-clause-some : goal.returns-clause-some
returns-clause-some c = images.image_or_fault

pub returns-clause-apart : goal.returns-clause-apart
returns-clause-apart c = images.apart
