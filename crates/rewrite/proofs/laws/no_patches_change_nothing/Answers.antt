use Rattle.rewrite.proofs.Unpatched.{stays}
use Rattle.rewrite.proofs.laws.no_patches_change_nothing.Goals as goal

pub returns : goal.returns
returns c = stays
