use Rattle.bare_image.proofs.Images.{image_again, reading_found}
use Rattle.bare_image.proofs.laws.reading_gives_the_image.Goals as goal

pub returns-clause-spelled : goal.returns-clause-spelled
returns-clause-spelled c = image_again

pub returns-clause-read : goal.returns-clause-read
returns-clause-read c = reading_found
