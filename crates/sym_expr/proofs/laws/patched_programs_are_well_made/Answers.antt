use Rattle.sym_expr.proofs.Made.{all_made}
use Rattle.sym_expr.proofs.laws.patched_programs_are_well_made.Goals as goal

pub returns : goal.returns
returns c = all_made
