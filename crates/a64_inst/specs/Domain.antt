-- What operations do, over any machine's values and states.
use Rattle.std.specs.Prelude.{ℕ, Bool, ◌==◌, if◌then◌else◌, List, [], ◌∷◌, ◌++◌, slice_index_or}
use Rattle.a64_inst.specs.declared.trap.Trap.{Trap}
use Rattle.a64_inst.specs.declared.operations.Width.{Width}
use Rattle.a64_inst.specs.declared.operations.Sum.{Sum}
use Rattle.a64_inst.specs.declared.operations.Unary.{Unary}
use Rattle.a64_inst.specs.declared.operations.Binary.{Binary}
use Rattle.a64_inst.specs.declared.operations.Op.{Op}
use Rattle.a64_inst.specs.declared.operations.Op.TheVariants as op
use Rattle.a64_inst.specs.Numbers.{is_copy}

-- how a run ends
pub data Event : Type 0 where
  exit : ℕ → Event
  trapped : Trap → Event

-- what an operation comes to: a value or a state, an end with the state that it leaves, or, for a cause of the
-- machine's own, nothing
pub data Answer (C S A : Type 0) : Type 0 where
  next : A → Answer C S A
  ended : Event → S → Answer C S A
  stuck : C → Answer C S A

-- A machine: what values V and states S are, why it may be stuck, and what each kind of operation does.
-- What gives a value leaves the state.
pub record Domain (C V S : Type 0) : Type 0 where
  -- a number as a value, which is also that of a place that there is not
  pub number : ℕ → V
  pub target : Bool → ℕ → S → Answer C S V
  pub read : Bool → ℕ → S → Answer C S V
  pub carry : S → Answer C S V
  pub unary : Unary → Width → V → S → Answer C S V
  pub binary : Binary → Width → V → V → S → Answer C S V
  pub sum : Sum → Width → V → V → S → Answer C S V
  pub join_low : ℕ → ℕ → V → S → Answer C S V
  pub load : ℕ → Bool → Width → V → S → Answer C S V
  pub condition : ℕ → S → Answer C S V
  pub is_zero : Bool → Width → V → S → Answer C S V
  pub choose : Bool → Bool → Width → V → V → V → S → Answer C S V
  pub store : ℕ → V → V → S → Answer C S S
  pub write : Bool → ℕ → V → S → Answer C S S
  pub flags_of_sum : Sum → Width → V → V → S → Answer C S S
  pub flags_of_carry : Sum → Width → V → V → V → S → Answer C S S
  pub flags_of_logic : Width → V → S → Answer C S S
  pub flags_if : Sum → Width → V → V → V → ℕ → S → Answer C S S
  pub link : S → Answer C S S
  pub call : ℕ → S → Answer C S S
  -- on to the place after the instruction
  pub advance : S → Answer C S S
  pub jump : V → S → Answer C S S
  -- to the value where the test holds, else on to the place after the instruction
  pub jump_if : V → V → S → Answer C S S
  pub trap : Trap → S → Answer C S S

-- goes on with the answer, if there is one
abbrev pub then_do : {C S A B : Type 0} → Answer C S A → (A → Answer C S B) → Answer C S B
then_do (next a) go = go a
then_do (ended event state) go = ended event state
then_do (stuck cause) go = stuck cause

-- the value at a place
abbrev pub value_at : {C V S : Type 0} → Domain C V S → List V → ℕ → V
value_at d values place = slice_index_or values place (d.number 0)

-- goes on with one value more
abbrev pub give : {C V S : Type 0} → Answer C S V → List V → S → (List V → S → Answer C S S) → Answer C S S
give answer values state go = then_do answer (λ value. go (values ++ value ∷ []) state)

-- one operation, and then the rest
abbrev pub perform : {C V S : Type 0} → Domain C V S → Op → (List V → S → Answer C S S) → List V → S → Answer C S S
perform d (op.Number n) go vs s = go (vs ++ d.number n ∷ []) s
perform d (op.Target page offset) go vs s = give (d.target page offset s) vs s go
perform d (op.Read stack r) go vs s = give (d.read stack r s) vs s go
perform d op.Carry go vs s = give (d.carry s) vs s go
perform d (op.Copy a) go vs s = go (vs ++ value_at d vs a ∷ []) s
perform d (op.Unary f w a) go vs s = give (if is_copy f then next (value_at d vs a) else d.unary f w (value_at d vs a) s) vs s go
perform d (op.Binary f w a b) go vs s = give (d.binary f w (value_at d vs a) (value_at d vs b) s) vs s go
perform d (op.Sum sum w a b) go vs s = give (d.sum sum w (value_at d vs a) (value_at d vs b) s) vs s go
perform d (op.JoinLow unit field a) go vs s = give (d.join_low unit field (value_at d vs a) s) vs s go
perform d (op.Load bytes signed w a) go vs s = give (d.load bytes signed w (value_at d vs a) s) vs s go
perform d (op.Condition c) go vs s = give (d.condition c s) vs s go
perform d (op.IsZero negated w a) go vs s = give (d.is_zero negated w (value_at d vs a) s) vs s go
perform d (op.Choose inverted more w t a b) go vs s = give (d.choose inverted more w (value_at d vs t) (value_at d vs a) (value_at d vs b) s) vs s go
perform d (op.Store bytes a at) go vs s = then_do (d.store bytes (value_at d vs a) (value_at d vs at) s) (go vs)
perform d (op.Write stack r a) go vs s = then_do (d.write stack r (value_at d vs a) s) (go vs)
perform d (op.FlagsOfSum sum w a b) go vs s = then_do (d.flags_of_sum sum w (value_at d vs a) (value_at d vs b) s) (go vs)
perform d (op.FlagsOfCarry sum w a b c) go vs s = then_do (d.flags_of_carry sum w (value_at d vs a) (value_at d vs b) (value_at d vs c) s) (go vs)
perform d (op.FlagsOfLogic w a) go vs s = then_do (d.flags_of_logic w (value_at d vs a) s) (go vs)
perform d (op.FlagsIf sum w t a b nzcv) go vs s = then_do (d.flags_if sum w (value_at d vs t) (value_at d vs a) (value_at d vs b) nzcv s) (go vs)
perform d op.Link go vs s = then_do (d.link s) (go vs)
perform d (op.Call n) go vs s = then_do (d.call n s) (go vs)
perform d (op.Keep r) go vs s = if r == 31 then d.advance s else go vs s
perform d (op.Jump a) go vs s = d.jump (value_at d vs a) s
perform d (op.JumpIf t a) go vs s = d.jump_if (value_at d vs t) (value_at d vs a) s
perform d (op.Trap why) go vs s = d.trap why s

-- operations one after the other, over the values so far; what does not jump goes on after the instruction
abbrev pub exec : {C V S : Type 0} → Domain C V S → List Op → List V → S → Answer C S S
exec d [] vs s = d.advance s
exec d (first ∷ rest) vs s = perform d first (exec d rest) vs s
