use Rattle.std.proofs.Common.{subst, arith}
use Rattle.bare_image.specs.Reading.{Gives}
use Rattle.bare_image.proofs.Images.{image_again, gives_found}
use Rattle.bare_image.proofs.reading.read_image.Goals as goal

pub returns-clause-found : goal.returns-clause-found
returns-clause-found c = gives_found c.args.bytes.now c.image.result (λ i. omega (arith, c.type_inv.bytes i)) c.image.ensures

pub returns-clause-only : goal.returns-clause-only
returns-clause-only c = λ image spelled. subst (λ read. Gives (λ x. x) c.image.result read) (image_again c.args.bytes.now image spelled) c.image.ensures
