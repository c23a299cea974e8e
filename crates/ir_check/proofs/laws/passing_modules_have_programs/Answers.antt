use Rattle.ir_check.proofs.Passing.{has_program}
use Rattle.ir_check.proofs.laws.passing_modules_have_programs.Goals as goal

pub returns : goal.returns
returns c = has_program
