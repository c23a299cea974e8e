-- A runner as a machine, and how operations change it.
use Rattle.std.specs.Prelude.{◌≡◌, Bool, true, false, ℕ, ◌+◌, ◌^◌, nat_lt, not, if◌then◌else◌, List, ◌++◌, length, take, drop, map}
use Rattle.a64_inst.specs.declared.operations.Op.{Op}
use Rattle.a64_inst.specs.declared.operations.Op.TheVariants as op
use Rattle.a64_inst.specs.Domain.{exit, trapped, next, ended, stuck, then_do}
use Rattle.sym_expr.specs.declared.value.Value.{Value}
use Rattle.a64_inst.specs.declared.trap.Trap.TheVariants as traps
use Rattle.sym_expr.specs.declared.cause.Cause.TheVariants.{Outside}
use Rattle.sym_expr.specs.declared.value.Object.{Object}
use Rattle.sym_expr.specs.States.{State, cells_at, with_cells}
use Rattle.sym_expr.specs.Symbolic.{Outcome, call_done, is_inside, known_bytes}
use Rattle.sym_expr.specs.Values.{Byte}
use Rattle.sym_values.specs.Kept.{kept_cells}
use Rattle.sym_step.specs.declared.flow.Flow.{Flow}
use Rattle.sym_step.specs.declared.flow.Flow.TheVariants.{On, Placed, Exit, Trap, Stuck}
use Rattle.sym_step.specs.declared.runner.Runner.{Runner}

-- the machine that a runner stands for
abbrev pub state : Runner → State
state runner = record {
  registers = runner.registers.general;
  stack_pointer = runner.registers.stack_pointer;
  flags = runner.flags;
  cells = kept_cells runner.memory;
  place = runner.place;
  named = runner.named;
  input = runner.input.now;
  output = runner.output.bytes.items;
}

-- what an instruction came to, as its flow tells
abbrev pub came : Flow → State → Outcome State
came On s = next s
came Placed s = next s
came (Exit status) s = ended (exit status) s
came (Trap why) s = ended (trapped why) s
came (Stuck cause) s = stuck cause

-- the same of an operation, where others follow
abbrev pub flowed : Flow → List Value → State → (List Value → State → Outcome State) → Outcome State
flowed On values s go = go values s
flowed Placed values s go = next s
flowed (Exit status) values s go = ended (exit status) s
flowed (Trap why) values s go = ended (trapped why) s
flowed (Stuck cause) values s go = stuck cause

-- a change that comes to this, and has this flow and leaves this machine
abbrev pub Flows : Outcome State → Flow → State → Type 0
Flows outcome flow s = (values : List Value) (go : List Value → State → Outcome State) → then_do outcome (go values) ≡ flowed flow values s go

-- what was written before is still there
abbrev pub KeepsOutput : Runner → Runner → Type 0
KeepsOutput old new = take (length old.output.bytes.items) new.output.bytes.items ≡ old.output.bytes.items

-- so many bytes of an object are written
abbrev pub written_from : ℕ → Object → ℕ → State → Outcome State
written_from count o x s =
    if not (is_inside s o x count) then stuck Outside
    else if nat_lt (2 ^ 24) (length s.output + count) then ended (trapped traps.OutputFull) s
    else then_do (known_bytes (cells_at s o x count)) (λ bytes. call_done count (record s { output = s.output ++ bytes }))

-- so many bytes of the input go to an object
abbrev pub received_at : ℕ → Object → ℕ → State → Outcome State
received_at count o x s =
    if not (is_inside s o x count) then stuck Outside
    else call_done count (with_cells o x (map Byte (take count s.input)) (record s { input = drop count s.input }))

-- a test, a choice or a joining of values
abbrev pub decides : Op → Bool
decides (op.JoinLow unit field a) = true
decides (op.IsZero negated w a) = true
decides (op.Choose inverted more w t a b) = true
decides other = false

-- an operation on values gives another
abbrev pub computes : Op → Bool
computes (op.Unary f w a) = true
computes (op.Binary f w a b) = true
computes (op.Sum sum w a b) = true
computes other = decides other

-- an operation gives a value
abbrev pub gives : Op → Bool
gives (op.Number n) = true
gives (op.Target page offset) = true
gives (op.Read stack r) = true
gives op.Carry = true
gives (op.Copy a) = true
gives (op.Load bytes signed w a) = true
gives (op.Condition c) = true
gives other = computes other

-- the place and what was written are the same
pub record Keeps (old new : Runner) : Type 0 where
  pub place : new.place ≡ old.place
  pub output : new.output.bytes.items ≡ old.output.bytes.items

-- an operation sets the flags of a sum with a carry, or of a sum where a test holds
abbrev pub sets_tested_flags : Op → Bool
sets_tested_flags (op.FlagsOfCarry sum w a b c) = true
sets_tested_flags (op.FlagsIf sum w t a b nzcv) = true
sets_tested_flags other = false

-- an operation sets flags
abbrev pub sets_flags : Op → Bool
sets_flags (op.FlagsOfSum sum w a b) = true
sets_flags (op.FlagsOfLogic w a) = true
sets_flags other = sets_tested_flags other
