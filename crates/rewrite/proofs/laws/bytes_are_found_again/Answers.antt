use Rattle.rewrite.proofs.Found.{all_found}
use Rattle.rewrite.proofs.laws.bytes_are_found_again.Goals as goal

pub returns : goal.returns
returns c = all_found
