-- What an operand names: the target of an expression, its page, and its low twelve bits.
use Rattle.std.proofs.Common.{◌≡◌, ℕ, ◌+◌, ◌*◌, ◌/◌, ◌%◌, ◌^◌, Bool, true, false, Option, Some, None}
use Rattle.std.specs.Prelude.{if◌then◌else◌}
use Rattle.a64_inst.specs.declared.operations.Op.{Op}
use Rattle.a64_inst.specs.declared.operations.Op.TheVariants as op
use Rattle.a64_inst.specs.Fitting.{page_of}
use Rattle.paged_memory.specs.Mapping.{Mapping}
use Rattle.sym_expr.specs.declared.cause.Cause.TheVariants as causes
use Rattle.sym_expr.specs.declared.program.Program.{Program}
use Rattle.sym_expr.specs.declared.target.Target.{Target}
use Rattle.sym_expr.specs.Symbolic.{or_stuck, target_outcome}
use Rattle.sym_expr.specs.Values.{value_of, page_value}
use Rattle.simulation.specs.Placement.{Placement, target_number}
use Rattle.simulation.specs.Meant.{IsTarget}
use Rattle.simulation.specs.Placed.{IsPlaced}
use Rattle.simulation.proofs.Context.{Gives, plain}
use Rattle.simulation.proofs.Values.{target_value, target_page}
use Rattle.simulation.proofs.Sums.{answer}

-- the operand of a word as it stands, or filled: an offset of a target, or a field of its low bits
pub data Filling : Type 0 where
  plain_operand : Filling
  filled_operand : (offset field : ℕ) → Filling

-- the offset of a target, and the field of low bits, as they are filled
abbrev pub offset_in : Filling → ℕ → ℕ
offset_in plain_operand x = x
offset_in (filled_operand offset field) x = offset

abbrev pub field_in : Filling → ℕ → ℕ
field_in plain_operand x = x
field_in (filled_operand offset field) x = field

-- an operation with its operand filled
abbrev pub refilled : Filling → Op → Op
refilled f (op.Target page x) = op.Target page (offset_in f x)
refilled f (op.JoinLow unit x a) = op.JoinLow unit (field_in f x) a
refilled f o = o

-- a filled operand of an operation names what it has to, at the place of its word
abbrev pub Names : Placement → Program → ℕ → Option Target → Filling → Op → Type 0
Names pl g place None plain_operand o = Unit {0}
Names pl g place None (filled_operand offset field) o = ⊥
Names pl g place (Some t) plain_operand o = ⊥
Names pl g place (Some t) (filled_operand offset field) (op.Target page x) =
    ((if page then place / 4096 * 4096 else place) + offset) % 2 ^ 64 ≡ (if page then page_of (target_number pl g t) else target_number pl g t)
Names pl g place (Some t) (filled_operand offset field) (op.JoinLow unit x a) = field * unit ≡ target_number pl g t % 4096
Names pl g place (Some t) (filled_operand offset field) o = Unit {0}

-- the target is one that the machine can meet
abbrev pub IsNamed : Program → Option Target → Type 0
IsNamed g None = Unit {0}
IsNamed g (Some t) = IsTarget g t

module _ (pl : Placement) (g : Program) (memory : Mapping) (placed : IsPlaced pl g memory) where
  page_or_whole : (page : Bool) (t : Target) (n : ℕ) → IsTarget g t → n ≡ (if page then page_of (target_number pl g t) else target_number pl g t)
      → Gives pl g false (or_stuck causes.Undefined (if page then page_value t else value_of t)) (answer n)
  page_or_whole true t n h e =
      let found = target_page pl g memory placed t h in
      rw (found.1, e) (plain pl g found.0 (page_of (target_number pl g t)) found.2)
  page_or_whole false t n h e =
      let found = target_value pl g memory placed t h in
      rw (found.1, e) (plain pl g found.0 (target_number pl g t) found.2)

  pub targets_agree : (page : Bool) (offset place : ℕ) (t : Option Target) (f : Filling) → IsNamed g t → Names pl g place t f (op.Target page offset)
      → Gives pl g false (target_outcome page t) (answer (((if page then place / 4096 * 4096 else place) + offset_in f offset) % 2 ^ 64))
  targets_agree page offset place None plain_operand h k = tt
  targets_agree page offset place None (filled_operand other field) h k = absurd k
  targets_agree page offset place (Some t) plain_operand h k = absurd k
  targets_agree page offset place (Some t) (filled_operand other field) h k = page_or_whole page t _ h k
