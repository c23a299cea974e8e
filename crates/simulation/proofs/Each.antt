-- Operations as they stand in both machines.
use Rattle.std.proofs.Common.{ℕ, ◌≤◌, Bool, true, false, refl}
use Rattle.a64_inst.specs.declared.operations.Sum.{Sum}
use Rattle.a64_inst.specs.declared.operations.Binary.{Binary}
use Rattle.a64_inst.specs.declared.operations.Unary.{Unary}
use Rattle.a64_inst.specs.declared.operations.Width.{Width}
use Rattle.a64_inst.specs.Domain.{Answer, next, ended, stuck}
use Rattle.num_run.specs.Machine.{Machine}
use Rattle.num_run.specs.Numeric.{numeric}
use Rattle.paged_memory.specs.Mapping.{Mapping}
use Rattle.sym_expr.specs.declared.cause.Cause.{Cause}
use Rattle.sym_expr.specs.declared.program.Program.{Program}
use Rattle.sym_expr.specs.declared.value.Value.{Value}
use Rattle.sym_expr.specs.declared.value.Value.TheVariants.{Num, Addr, At, PageOf, Diff, Step}
use Rattle.sym_expr.specs.States.{State}
use Rattle.sym_expr.specs.Symbolic.{symbolic}
use Rattle.simulation.specs.Placement.{Placement}
use Rattle.simulation.specs.Meant.{Means}
use Rattle.simulation.specs.Held.{Related}
use Rattle.simulation.specs.Placed.{IsPlaced}
use Rattle.simulation.specs.Follows.{Follows}
use Rattle.simulation.proofs.Context.{During, Gives, Leaves}
use Rattle.simulation.proofs.Changes as of_changes
use Rattle.simulation.proofs.Sums as of_sums
use Rattle.simulation.proofs.Loads as of_loads
use Rattle.simulation.proofs.Stores as of_stores
use Rattle.simulation.proofs.Calls as of_calls
use Rattle.simulation.proofs.Tests as of_tests
use Rattle.simulation.proofs.Numbers as of_numbers

module _ (pl : Placement) (g : Program) where
  meant : (b : Bool) (x : Answer Cause State Value) (y : Answer ⊥ Machine ℕ) → Gives pl g b x y → Follows (Means pl g) (Related pl g) x y
  meant b (next v) (next n) h = h.means
  meant b (next v) (ended event m) h = absurd h
  meant b (next v) (stuck cause) h = absurd h
  meant b (ended event s) (next n) h = absurd h
  meant b (ended event s) (ended other m) h = h
  meant b (ended event s) (stuck cause) h = absurd h
  meant b (stuck cause) y h = tt

  left : (s : State) (u : Machine) (x : Answer Cause State State) (y : Answer ⊥ Machine Machine) → Leaves pl g s.place s.named x y → Follows (Related pl g) (Related pl g) x y
  left s u (next t) (next m) h = h.related
  left s u (next t) (ended event m) h = absurd h
  left s u (next t) (stuck cause) h = absurd h
  left s u (ended event t) (next m) h = absurd h
  left s u (ended event t) (ended other m) h = h
  left s u (ended event t) (stuck cause) h = absurd h
  left s u (stuck cause) y h = tt

  here : (s : State) (u : Machine) → Related pl g s u → During pl g s.place s.named s u
  here s u h = record { related = h; place = refl; named = refl }

module _ (pl : Placement) (g : Program) (memory : Mapping) (placed : IsPlaced pl g memory) (s : State) (u : Machine) (h : Related pl g s u) where
  pub sums : (sum : Sum) (w : Width) (a b : Value) (m n : ℕ) → Means pl g a m → Means pl g b n → Follows (Means pl g) (Related pl g) ((symbolic g).sum sum w a b s) (numeric.sum sum w m n u)
  sums sum w a b m n x y = meant pl g false _ _ (of_sums.sums_agree pl g memory placed sum w a b m n x y)

  pub flags : (sum : Sum) (w : Width) (a b : Value) (m n : ℕ) → Means pl g a m → Means pl g b n → Follows (Related pl g) (Related pl g) ((symbolic g).flags_of_sum sum w a b s) (numeric.flags_of_sum sum w m n u)
  flags sum w a b m n x y = left pl g s u _ _ (of_numbers.sum_flags_leave pl g memory placed s.place s.named s u (here pl g s u h) sum w a b m n x y)

  pub tests : (negated : Bool) (w : Width) (a : Value) (m : ℕ) → Means pl g a m → Follows (Means pl g) (Related pl g) ((symbolic g).is_zero negated w a s) (numeric.is_zero negated w m u)
  tests negated w a m x = meant pl g true _ _ (of_tests.zero_tests_agree pl g memory placed negated w a m s u h x)

  pub choices : (inverted more : Bool) (w : Width) (t : ℕ) (a b : Value) (m n : ℕ) → Means pl g a m → Means pl g b n
      → Follows (Means pl g) (Related pl g) ((symbolic g).choose inverted more w (Num t) a b s) (numeric.choose inverted more w t m n u)
  choices inverted more w t a b m n x y = meant pl g false _ _ (of_tests.choices_agree pl g memory placed inverted more w (Num t) a b t m n refl x y)

  pub loads : (bytes : ℕ) (signed : Bool) (w : Width) (at : Value) (n : ℕ) → bytes ≤ 8 → Means pl g at n → Follows (Means pl g) (Related pl g) ((symbolic g).load bytes signed w at s) (numeric.load bytes signed w n u)
  loads bytes signed w at n most x = meant pl g false _ _ (of_loads.loads_agree pl g memory placed bytes signed w at n s u most h x)

  pub stores : (bytes : ℕ) (a at : Value) (m n : ℕ) → Means pl g a m → Means pl g at n → Follows (Related pl g) (Related pl g) ((symbolic g).store bytes a at s) (numeric.store bytes m n u)
  stores bytes a at m n x y = left pl g s u _ _ (of_stores.stores_agree pl g memory placed s.place s.named s u (here pl g s u h) bytes a at m n x y)

  pub calls : (immediate : ℕ) → Follows (Related pl g) (Related pl g) ((symbolic g).call immediate s) (numeric.call immediate u)
  calls immediate = left pl g s u _ _ (of_calls.calls_agree pl g memory placed s.place s.named s u (here pl g s u h) immediate)

  pub functions : (f : Binary) (w : Width) (a b : Value) (m n : ℕ) → Means pl g a m → Means pl g b n → Follows (Means pl g) (Related pl g) ((symbolic g).binary f w a b s) (numeric.binary f w m n u)
  functions f w a b m n x y = meant pl g true _ _ (of_numbers.binary_agrees pl g f w a b m n x y)

  pub unaries : (f : Unary) (w : Width) (a : Value) (m : ℕ) → Means pl g a m → Follows (Means pl g) (Related pl g) ((symbolic g).unary f w a s) (numeric.unary f w m u)
  unaries f w a m x = meant pl g false _ _ (of_numbers.functions pl g f w a m x)

  pub conditions : (c : ℕ) → Follows (Means pl g) (Related pl g) ((symbolic g).condition c s) (numeric.condition c u)
  conditions c = meant pl g true _ _ (of_tests.conditions_agree pl g c s u h)

  pub carries : Follows (Means pl g) (Related pl g) ((symbolic g).carry s) (numeric.carry u)
  carries = meant pl g true _ _ (of_numbers.carry_agrees pl g s u h)

  pub carry_flags : (sum : Sum) (w : Width) (a b c : Value) (i j k : ℕ) → Means pl g a i → Means pl g b j → Means pl g c k
      → Follows (Related pl g) (Related pl g) ((symbolic g).flags_of_carry sum w a b c s) (numeric.flags_of_carry sum w i j k u)
  carry_flags sum w a b c i j k x y z = left pl g s u _ _ (of_numbers.carry_flags_agree pl g s.place s.named s u (here pl g s u h) sum w a b c i j k x y z)

  pub logic_flags : (w : Width) (a : Value) (m : ℕ) → Means pl g a m → Follows (Related pl g) (Related pl g) ((symbolic g).flags_of_logic w a s) (numeric.flags_of_logic w m u)
  logic_flags w a m x = left pl g s u _ _ (of_numbers.logic_flags_agree pl g s.place s.named s u (here pl g s u h) w a m x)

  pub chosen_flags : (sum : Sum) (w : Width) (t : ℕ) (a b : Value) (m n nzcv : ℕ) → Means pl g a m → Means pl g b n
      → Follows (Related pl g) (Related pl g) ((symbolic g).flags_if sum w (Num t) a b nzcv s) (numeric.flags_if sum w t m n nzcv u)
  chosen_flags sum w t a b m n nzcv x y = left pl g s u _ _ (of_numbers.flags_if_agree pl g memory placed s.place s.named s u (here pl g s u h) sum w (Num t) a b t m n nzcv refl x y)

  pub reads : (stack : Bool) (r : ℕ) → Follows (Means pl g) (Related pl g) ((symbolic g).read stack r s) (numeric.read stack r u)
  reads stack r = of_changes.register_means pl g stack r s u h

  pub writes : (stack : Bool) (r : ℕ) (a : Value) (m : ℕ) → Means pl g a m → Follows (Related pl g) (Related pl g) ((symbolic g).write stack r a s) (numeric.write stack r m u)
  writes stack r a m x = of_changes.register_written pl g stack r a m s u h x

  pub jumps : (a : Value) (m : ℕ) → Means pl g a m → Follows (Related pl g) (Related pl g) ((symbolic g).jump a s) (numeric.jump m u)
  jumps (At p) m x = of_changes.placed_at pl g p m s u h x.valid x.number
  jumps (Num k) m x = tt
  jumps (Addr o k) m x = tt
  jumps (PageOf t) m x = tt
  jumps (Diff p q) m x = tt
  jumps (Step p q k) m x = tt
