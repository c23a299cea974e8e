use Rattle.sym_expr.proofs.Unpatched.{plain_made}
use Rattle.sym_expr.proofs.laws.programs_are_well_made.Goals as goal

pub returns : goal.returns
returns c = plain_made
