-- Runs of a machine, over any step.
use Rattle.std.specs.Prelude.{ℕ, zero, suc, ◌+◌}
use Rattle.a64_inst.specs.Domain.{Event, Answer, next, ended, stuck}

-- how a run stands: it goes on, it has ended, or it is stuck
pub data Standing (C : Type 0) : Type 0 where
  going : Standing C
  over : Event → Standing C
  halted : C → Standing C

-- a run so far: how many instructions are done, an exit or a trap being one, how it stands, and what the machine holds
pub record Run (C S : Type 0) : Type 0 where
  pub done : ℕ
  pub standing : Standing C
  pub state : S

-- a run that has not begun
abbrev pub unbegun : {C S : Type 0} → S → Run C S
unbegun state = record { done = 0; standing = going; state = state }

-- a run after the answer of a step; a stuck instruction is not done, and leaves what the machine holds
abbrev pub answered : {C S : Type 0} → Run C S → Answer C S S → Run C S
answered r (next state) = record { done = r.done + 1; standing = going; state = state }
answered r (ended event state) = record { done = r.done + 1; standing = over event; state = state }
answered r (stuck cause) = record { done = r.done; standing = halted cause; state = r.state }

-- a run that stands so, one step further; nothing follows an end
abbrev pub moved : {C S : Type 0} → Standing C → (S → Answer C S S) → Run C S → Run C S
moved going step r = answered r (step r.state)
moved (over event) step r = r
moved (halted cause) step r = r

-- a run one step further
abbrev pub further : {C S : Type 0} → (S → Answer C S S) → Run C S → Run C S
further step r = moved r.standing step r

-- a run so many steps further
unfoldable pub onward : {C S : Type 0} → (S → Answer C S S) → ℕ → Run C S → Run C S
onward step zero r = r
onward step (suc n) r = further step (onward step n r)

-- the run from a state after so many steps
abbrev pub run : {C S : Type 0} → (S → Answer C S S) → ℕ → S → Run C S
run step n state = onward step n (unbegun state)
