use Rattle.sym_expr.proofs.Unpatched.{none_fit, none_taken}
use Rattle.sym_expr.proofs.laws.no_patches_fit.Goals as goal

pub returns-clause-fit : goal.returns-clause-fit
returns-clause-fit c = none_fit

pub returns-clause-free : goal.returns-clause-free
returns-clause-free c = none_taken
