-- Runs of both machines from states that stand for each other, and the states that they start in.
use Rattle.std.proofs.Common.{◌≡◌, ℕ, zero, suc, ◌+◌, ◌<◌, List, replicate, refl, sym, ap, ◌∙◌, subst, arith}
use Rattle.std.specs.Prelude.{All, slice_index, slice_index_or}
use Rattle.std.proofs.lemmas.List.{length-replicate}
use Rattle.a64_inst.specs.Domain.{Answer, next, ended, stuck}
use Rattle.a64_inst.specs.Runs.{Standing, going, over, halted, Run, unbegun, answered, moved, further, onward, run}
use Rattle.num_run.specs.Machine.{Machine}
use Rattle.num_run.specs.Run.{step as number_step}
use Rattle.paged_memory.specs.Mapping.{Mapping}
use Rattle.sym_expr.specs.declared.cause.Cause.{Cause}
use Rattle.sym_expr.specs.declared.program.Program.{Program}
use Rattle.sym_expr.specs.declared.value.Object.TheVariants.{Stack}
use Rattle.sym_expr.specs.declared.value.Value.TheVariants.{Num, Addr}
use Rattle.sym_expr.specs.States.{State, start as first_state}
use Rattle.sym_expr.specs.Steps.{step}
use Rattle.sym_expr.specs.Values.{Byte}
use Rattle.simulation.specs.Placement.{Placement}
use Rattle.simulation.specs.Meant.{Means}
use Rattle.simulation.specs.Held.{Related}
use Rattle.simulation.specs.Placed.{IsPlaced, start}
use Rattle.simulation.specs.Follows.{StandAlike, IsNotStuck, RunAlike}
use Rattle.simulation.proofs.Context.{Ends}
use Rattle.simulation.proofs.Steps.{AreRows, steps_agree}

-- ---- the states before the first instruction

none_at : (n k : ℕ) → slice_index_or (replicate n (Num 0)) k (Num 0) ≡ Num 0
none_at zero k = refl
none_at (suc n) zero = refl
none_at (suc n) (suc k) = none_at n k

zero_at : (n k : ℕ) → slice_index (replicate n 0) k ≡ 0
zero_at zero k = refl
zero_at (suc n) zero = refl
zero_at (suc n) (suc k) = zero_at n k

module _ (pl : Placement) (g : Program) (memory : Mapping) (placed : IsPlaced pl g memory) where
  first_stack : Means pl g (Addr Stack pl.stack_size) (pl.stack_at + pl.stack_size)
  first_stack =
      let high = (placed.inside Stack tt).high in
      let count = length-replicate pl.stack_size (Byte 0) in
      record { valid = (tt, omega (arith, high, count)); number = omega (arith, high, count) }

  pub starts_agree : (input : List ℕ) → All (λ b. b < 256) input → Related pl g (first_state g pl.stack_size input) (start pl g memory input)
  starts_agree input bytes = record {
    count = length-replicate 31 (Num 0) ∙ sym (length-replicate {A = ℕ} 31 0);
    registers = λ k. rw (none_at 31 k, zero_at 31 k) (record { valid = omega arith; number = refl });
    stack_pointer = first_stack;
    flags = record { n = refl; z = refl; c = refl; v = refl };
    sizes = λ o. refl;
    cells = placed.cells;
    code = placed.code;
    is_point = placed.entry;
    place = refl;
    bytes = bytes;
    input = refl;
    output = refl;
  }

  -- ---- one step more

  answered_alike : (r : Run Cause State) (q : Run ⊥ Machine) (x : Answer Cause State State) (y : Answer ⊥ Machine Machine) → q.done ≡ r.done → Ends pl g x y → IsNotStuck (answered r x).standing
      → RunAlike pl g (answered r x) (answered q y)
  answered_alike r q (next s) (next m) done h goes = record { done = ap (λ (n : ℕ). n + 1) done; standing = tt; related = h }
  answered_alike r q (next s) (ended event m) done h goes = absurd h
  answered_alike r q (next s) (stuck cause) done h goes = absurd h
  answered_alike r q (ended event s) (next m) done h goes = absurd h
  answered_alike r q (ended event s) (ended other m) done h goes = record { done = ap (λ (n : ℕ). n + 1) done; standing = h.0; related = h.1 }
  answered_alike r q (ended event s) (stuck cause) done h goes = absurd h
  answered_alike r q (stuck cause) y done h goes = absurd goes

  moved_alike : AreRows → (a : Standing Cause) (b : Standing ⊥) (r : Run Cause State) (q : Run ⊥ Machine) → r.standing ≡ a → q.standing ≡ b → RunAlike pl g r q → StandAlike a b
      → IsNotStuck (moved a (step g) r).standing → RunAlike pl g (moved a (step g) r) (moved b number_step q)
  moved_alike rows going going r q e f h alike goes = answered_alike r q (step g r.state) (number_step q.state) h.done (steps_agree pl g memory placed rows r.state q.state h.related) goes
  moved_alike rows going (over event) r q e f h alike goes = absurd alike
  moved_alike rows going (halted cause) r q e f h alike goes = absurd alike
  moved_alike rows (over event) going r q e f h alike goes = absurd alike
  moved_alike rows (over event) (over other) r q e f h alike goes = h
  moved_alike rows (over event) (halted cause) r q e f h alike goes = absurd alike
  moved_alike rows (halted cause) b r q e f h alike goes = absurd (subst (λ (x : Standing Cause). IsNotStuck x) e goes)

  further_alike : AreRows → (r : Run Cause State) (q : Run ⊥ Machine) → RunAlike pl g r q → IsNotStuck (further (step g) r).standing → RunAlike pl g (further (step g) r) (further number_step q)
  further_alike rows r q h goes = moved_alike rows r.standing q.standing r q refl refl h h.standing goes

-- a run that is not stuck was not stuck before
before : (g : Program) (a : Standing Cause) (r : Run Cause State) → r.standing ≡ a → IsNotStuck (moved a (step g) r).standing → IsNotStuck r.standing
before g going r e h = subst (λ (x : Standing Cause). IsNotStuck x) (sym e) tt
before g (over event) r e h = h
before g (halted cause) r e h = h

module _ (pl : Placement) (g : Program) (memory : Mapping) (placed : IsPlaced pl g memory) where
  pub runs_from : AreRows → (n : ℕ) (s : State) (m : Machine) → Related pl g s m → IsNotStuck (onward (step g) n (unbegun s)).standing → RunAlike pl g (onward (step g) n (unbegun s)) (onward number_step n (unbegun m))
  unfolding onward
  runs_from rows zero s m h goes = record { done = refl; standing = tt; related = h }
  runs_from rows (suc n) s m h goes =
      let r = onward (step g) n (unbegun s) in
      let q = onward number_step n (unbegun m) in
      further_alike pl g memory placed rows r q (runs_from rows n s m h (before g r.standing r refl goes)) goes

  pub runs_agree : AreRows → (n : ℕ) (input : List ℕ) → All (λ b. b < 256) input → IsNotStuck (run (step g) n (first_state g pl.stack_size input)).standing
      → RunAlike pl g (run (step g) n (first_state g pl.stack_size input)) (run number_step n (start pl g memory input))
  runs_agree rows n input bytes goes = runs_from rows n (first_state g pl.stack_size input) (start pl g memory input) (starts_agree pl g memory placed input bytes) goes
