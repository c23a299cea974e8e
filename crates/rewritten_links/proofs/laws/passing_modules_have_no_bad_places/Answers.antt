use Rattle.rewritten_links.proofs.Passing.{no_bad_places}
use Rattle.rewritten_links.proofs.laws.passing_modules_have_no_bad_places.Goals as goal

pub returns : goal.returns
returns c = no_bad_places
