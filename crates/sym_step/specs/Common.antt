-- Common instructions: their operations, and what these come to.
use Rattle.std.specs.Prelude.{ℕ, ◌+◌, Bool, true, ◌&&◌, if◌then◌else◌, List, [], ◌∷◌, ◌++◌}
use Rattle.a64_inst.specs.declared.operations.Op.{Op}
use Rattle.a64_inst.specs.declared.operations.Op.TheVariants as op
use Rattle.a64_inst.specs.Domain.{next, then_do}
use Rattle.a64_inst.specs.Numbers.{is_copy}
use Rattle.a64_ops.specs.Sound.{is_size, is_sound_unary}
use Rattle.sym_expr.specs.declared.program.Program.{Program}
use Rattle.sym_expr.specs.declared.value.Value.{Value}
use Rattle.sym_expr.specs.declared.value.Value.TheVariants.{Num}
use Rattle.sym_expr.specs.States.{State, register, with_register}
use Rattle.sym_expr.specs.Symbolic.{Outcome, advanced, join_low_outcome, load_outcome, store_outcome, sum_outcome, unary_outcome}
use Rattle.sym_step.specs.declared.common.Common.{Common}
use Rattle.sym_step.specs.declared.common.End.{End}
use Rattle.sym_step.specs.declared.common.End.TheVariants as ends
use Rattle.sym_step.specs.declared.common.Start.{Start}
use Rattle.sym_step.specs.declared.common.Start.TheVariants as starts

-- the operations that give the first value
abbrev pub start_ops : Start → List Op
start_ops (starts.Joined stack r unit field) = op.Read stack r ∷ op.JoinLow unit field 0 ∷ []
start_ops (starts.Summed stack r sum w n) = op.Read stack r ∷ op.Number n ∷ op.Sum sum w 0 1 ∷ []

-- at which place it is
abbrev pub start_place : Start → ℕ
start_place (starts.Joined stack r unit field) = 1
start_place (starts.Summed stack r sum w n) = 2

-- the operations behind a first value at a place
abbrev pub end_ops : ℕ → End → List Op
end_ops k (ends.Write stack r) = op.Write stack r k ∷ []
end_ops k (ends.Load bytes signed w stack r) = op.Load bytes signed w k ∷ op.Write stack r (k + 1) ∷ []
end_ops k (ends.Store bytes stack r f w) = op.Read stack r ∷ op.Unary f w (k + 1) ∷ op.Store bytes (k + 2) k ∷ []

-- all operations of a common instruction
abbrev pub common_ops : Common → List Op
common_ops c = start_ops c.start ++ end_ops (start_place c.start) c.end

-- sizes and amounts are within their widths
abbrev pub is_sound_end : End → Bool
is_sound_end (ends.Write stack r) = true
is_sound_end (ends.Load bytes signed w stack r) = is_size bytes
is_sound_end (ends.Store bytes stack r f w) = is_sound_unary f w && is_size bytes

-- the first value
abbrev pub start_outcome : Program → Start → State → Outcome Value
start_outcome g (starts.Joined stack r unit field) s = join_low_outcome g unit field (register stack r s) s.named
start_outcome g (starts.Summed stack r sum w n) s = sum_outcome g sum w (register stack r s) (Num n)

-- a value is stored at another
abbrev pub stored : Program → ℕ → Value → Value → State → Outcome State
stored g bytes x v s = then_do (store_outcome bytes x v s) (λ t. next (advanced g t))

-- what comes of it
abbrev pub end_outcome : Program → End → Value → State → Outcome State
end_outcome g (ends.Write stack r) v s = next (advanced g (with_register stack r v s))
end_outcome g (ends.Load bytes signed w stack r) v s = then_do (load_outcome g bytes signed w v s) (λ x. next (advanced g (with_register stack r x s)))
end_outcome g (ends.Store bytes stack r f w) v s =
    then_do (if is_copy f then next (register stack r s) else unary_outcome f w (register stack r s)) (λ x. stored g bytes x v s)

-- the whole instruction
abbrev pub common_outcome : Program → Common → State → Outcome State
common_outcome g c s = then_do (start_outcome g c.start s) (λ v. end_outcome g c.end v s)
