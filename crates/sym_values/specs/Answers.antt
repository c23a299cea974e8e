-- What functions of values answer, as outcomes of operations.
use Rattle.std.specs.Prelude.{Result, Ok, Err}
use Rattle.a64_inst.specs.Domain.{next, stuck}
use Rattle.sym_expr.specs.declared.cause.Cause.{Cause}
use Rattle.sym_expr.specs.Symbolic.{Outcome}

-- a value goes on, and a cause is stuck
abbrev pub answer_of : {A : Type 0} → Result A Cause → Outcome A
answer_of (Ok a) = next a
answer_of (Err cause) = stuck cause
