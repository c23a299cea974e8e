use Rattle.rewrite.proofs.Members.{member}
use Rattle.rewrite.proofs.laws.rewritten_modules_are_there.Goals as goal

pub returns : goal.returns
returns c = member
