-- When a step is stuck, and which instructions ask for no value.
use Rattle.std.specs.Prelude.{Bool, true, false, ◌==◌, not, Option, None, Some}
use Rattle.a64_inst.specs.declared.inst.Inst.{Inst}
use Rattle.a64_inst.specs.declared.inst.Inst.TheVariants.{SvcBrk, Udf, Hint}
use Rattle.a64_inst.specs.Domain.{next, ended, stuck}
use Rattle.sym_expr.specs.Symbolic.{Outcome}

-- an outcome is stuck
abbrev pub is_stuck : {A : Type 0} → Outcome A → Bool
is_stuck (next a) = false
is_stuck (ended event s) = false
is_stuck (stuck cause) = true

-- no instruction, BRK, UDF and HINT: what asks for no value
abbrev pub asks_nothing : Option Inst → Bool
asks_nothing None = true
asks_nothing (Some (SvcBrk which imm)) = not (which == 0)
asks_nothing (Some (Udf imm)) = true
asks_nothing (Some (Hint number)) = true
asks_nothing (Some other) = false
