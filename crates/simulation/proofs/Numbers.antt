-- Functions of numbers alone.
use Rattle.std.proofs.Common.{◌≡◌, ℕ, ◌^◌, ◌<◌, Bool, true, false, Option, Some, None, refl}
use Rattle.std.specs.Prelude.{◌==◌, if◌then◌else◌}
use Rattle.std.specs.Option.{option_map, option_and_then}
use Rattle.a64_inst.specs.declared.operations.Binary.{Binary}
use Rattle.a64_inst.specs.declared.operations.Sum.{Sum}
use Rattle.a64_inst.specs.declared.operations.Unary.{Unary}
use Rattle.a64_inst.specs.declared.operations.Unary.TheVariants as unary
use Rattle.a64_inst.specs.declared.operations.Width.{Width}
use Rattle.a64_inst.specs.declared.operations.Width.TheVariants.{W, X}
use Rattle.a64_inst.specs.Domain.{next, then_do}
use Rattle.a64_inst.specs.Numbers.{bits_of, bit_of, is_copy, unary_value, binary_value, carry_flags, logic_flags, named_flags, sum_flags}
use Rattle.num_run.specs.Machine.{Machine}
use Rattle.paged_memory.specs.Mapping.{Mapping}
use Rattle.sym_expr.specs.declared.cause.Cause.TheVariants.{Flag}
use Rattle.sym_expr.specs.declared.cause.Cause.TheVariants as causes
use Rattle.sym_expr.specs.declared.point.Point.{Point}
use Rattle.sym_expr.specs.declared.program.Program.{Program}
use Rattle.sym_expr.specs.declared.target.Target.{Target}
use Rattle.sym_expr.specs.declared.value.Value.{Value}
use Rattle.sym_expr.specs.declared.value.Value.TheVariants.{Num, Step}
use Rattle.sym_expr.specs.States.{State}
use Rattle.sym_expr.specs.Symbolic.{or_stuck, of_numbers, keeps_step, unary_outcome, known, flags_outcome, carried_outcome, with_flags, is_zero}
use Rattle.sym_expr.specs.Values.{number_in}
use Rattle.simulation.specs.Placement.{Placement}
use Rattle.simulation.specs.Meant.{Means}
use Rattle.simulation.specs.Held.{IsFlag, AreFlags, Related}
use Rattle.simulation.specs.Placed.{IsPlaced}
use Rattle.simulation.specs.Follows.{Follows}
use Rattle.simulation.proofs.Context.{During, Gives, Leaves, IsTemp, IsNumber, plain, counted, number_is, two_follow}
use Rattle.simulation.proofs.Sums.{answer}
use Rattle.simulation.proofs.Changes.{onto, flags_during, flags_then}
use Rattle.simulation.proofs.Flags.{known_are, sum_flags_agree}
use Rattle.simulation.proofs.Tests.{bit_small, of_one}
use Rattle.simulation.proofs.Small.{unary_small, binary_small}

keeps_none : (f : Unary) → keeps_step f W ≡ false
keeps_none (unary.Insert value at) = refl
keeps_none (unary.Shift kind amount) = refl
keeps_none (unary.Extend option amount) = refl
keeps_none (unary.Bitfield signed immr imms) = refl
keeps_none (unary.Addend sum) = refl
keeps_none (unary.OneSource opcode) = refl
keeps_none (unary.Bit place) = refl

module _ (pl : Placement) (g : Program) where
  -- ---- values

  carried : (o : Option Bool) (b : Bool) → IsFlag o b → Gives pl g true (or_stuck Flag (option_map (λ c. Num (bit_of c)) o)) (answer (bit_of b))
  carried None b h = tt
  carried (Some c) b h = rw h (counted pl g true (bit_of c) (bit_small c))

  pub carry_agrees : (s : State) (m : Machine) → Related pl g s m → Gives pl g true (or_stuck Flag (option_map (λ c. Num (bit_of c)) s.flags.c)) (answer (bit_of m.flags.c))
  carry_agrees s m h = carried s.flags.c m.flags.c h.flags.c

  wide_step : (b : Bool) (v : Value) (j : ℕ) → j < 2 ^ 64 → Means pl g v j → Gives pl g false (if b then next v else next (Num j)) (answer j)
  wide_step true v j small h = plain pl g v j h
  wide_step false v j small h = counted pl g false j small

  pub functions : (f : Unary) (w : Width) (v : Value) (n : ℕ) → Means pl g v n → Gives pl g false (unary_outcome f w v) (answer (unary_value f (bits_of w) n))
  functions f W (Step p q k) n h =
      rw (keeps_none f, h.number) (counted pl g false (unary_value f 32 k) (unary_small f W k))
  functions f X (Step p q k) n h =
      rw (h.number) (wide_step (keeps_step f X) (Step p q (unary_value f 64 k)) (unary_value f 64 k) (unary_small f X k)
      (record { valid = (h.valid.0, h.valid.1, h.valid.2, unary_small f X k); number = refl }))
  functions f w v n h = of_one pl g false (unary_value f (bits_of w)) v n h (λ t. unary_small f w n)

  copy_either : (b : Bool) (f : Unary) (w : Width) (v : Value) (n : ℕ) → Means pl g v n
      → Gives pl g false (if b then next v else unary_outcome f w v) (if b then answer n else answer (unary_value f (bits_of w) n))
  copy_either true f w v n h = plain pl g v n h
  copy_either false f w v n h = functions f w v n h

  pub unary_agrees : (f : Unary) (w : Width) (v : Value) (n : ℕ) → Means pl g v n
      → Gives pl g false (if is_copy f then next v else unary_outcome f w v) (if is_copy f then answer n else answer (unary_value f (bits_of w) n))
  unary_agrees f w v n h = copy_either (is_copy f) f w v n h

  pub binary_agrees : (f : Binary) (w : Width) (a b : Value) (m n : ℕ) → Means pl g a m → Means pl g b n
      → Gives pl g true (of_numbers (λ x y. Num (binary_value f (bits_of w) x y)) a b) (answer (binary_value f (bits_of w) m n))
  binary_agrees f w a b m n h k =
      two_follow (IsTemp pl g true) (Related pl g) (number_in a) (number_in b) m n causes.Value (λ x y. Num (binary_value f (bits_of w) x y)) (answer (binary_value f (bits_of w) m n))
      (number_is pl g a m h) (number_is pl g b n k) (λ s t. counted pl g true (binary_value f (bits_of w) m n) (binary_small f w m n))

  -- ---- flags

  three_give : (o p q : Option ℕ) (i j k : ℕ) (sum : Sum) (w : Width) → IsNumber o i → IsNumber p j → IsNumber q k
      → Follows {D = ⊥} {T = Machine} AreFlags (Related pl g)
      (or_stuck causes.Value (option_and_then (λ x. option_and_then (λ y. option_map (λ z. known (carry_flags sum (bits_of w) x y z)) q) p) o)) (next (carry_flags sum (bits_of w) i j k))
  three_give None p q i j k sum w a b c = tt
  three_give (Some x) None q i j k sum w a b c = tt
  three_give (Some x) (Some y) None i j k sum w a b c = tt
  three_give (Some x) (Some y) (Some z) i j k sum w a b c = rw (← a.0, ← b.0, ← c.0) (known_are (carry_flags sum (bits_of w) x y z))

  module _ (at : Point) (t : Option Target) (s : State) (m : Machine) (h : During pl g at t s m) where
    pub carry_flags_agree : (sum : Sum) (w : Width) (a b c : Value) (i j k : ℕ) → Means pl g a i → Means pl g b j → Means pl g c k
        → Leaves pl g at t (then_do (carried_outcome sum w a b c) (λ f. next (with_flags s f))) (onto (record m { flags = carry_flags sum (bits_of w) i j k }))
    carry_flags_agree sum w a b c i j k x y z =
        flags_then pl g at t (carried_outcome sum w a b c) (carry_flags sum (bits_of w) i j k) s m h
        (three_give (number_in a) (number_in b) (number_in c) i j k sum w (number_is pl g a i x) (number_is pl g b j y) (number_is pl g c k z))

    logic_either : (o : Option ℕ) (w : Width) (n : ℕ) → IsNumber o n
        → Leaves pl g at t (then_do (or_stuck causes.Value o) (λ k. next (with_flags s (known (logic_flags (bits_of w) k))))) (onto (record m { flags = logic_flags (bits_of w) n }))
    logic_either None w n k = tt
    logic_either (Some x) w n k = rw (← k.0) (flags_during pl g at t (known (logic_flags (bits_of w) x)) (logic_flags (bits_of w) x) s m h (known_are (logic_flags (bits_of w) x)))

    pub logic_flags_agree : (w : Width) (v : Value) (n : ℕ) → Means pl g v n
        → Leaves pl g at t (then_do (or_stuck causes.Value (number_in v)) (λ k. next (with_flags s (known (logic_flags (bits_of w) k))))) (onto (record m { flags = logic_flags (bits_of w) n }))
    logic_flags_agree w v n k = logic_either (number_in v) w n (number_is pl g v n k)

module _ (pl : Placement) (g : Program) (memory : Mapping) (placed : IsPlaced pl g memory) (at : Point) (t : Option Target) (s : State) (m : Machine) (h : During pl g at t s m) where
  pub sum_flags_leave : (sum : Sum) (w : Width) (a b : Value) (i j : ℕ) → Means pl g a i → Means pl g b j
      → Leaves pl g at t (then_do (flags_outcome s sum w a b) (λ f. next (with_flags s f))) (onto (record m { flags = sum_flags sum (bits_of w) i j }))
  sum_flags_leave sum w a b i j x y =
      flags_then pl g at t (flags_outcome s sum w a b) (sum_flags sum (bits_of w) i j) s m h (sum_flags_agree pl g memory placed s m sum w a b i j h.related x y)

  named_either : (z : Bool) (sum : Sum) (w : Width) (a b : Value) (i j nzcv : ℕ) → Means pl g a i → Means pl g b j
      → Leaves pl g at t (if z then next (with_flags s (known (named_flags nzcv))) else then_do (flags_outcome s sum w a b) (λ f. next (with_flags s f)))
      (onto (record m { flags = if z then named_flags nzcv else sum_flags sum (bits_of w) i j }))
  named_either true sum w a b i j nzcv x y = flags_during pl g at t (known (named_flags nzcv)) (named_flags nzcv) s m h (known_are (named_flags nzcv))
  named_either false sum w a b i j nzcv x y = sum_flags_leave sum w a b i j x y

  pub flags_if_agree : (sum : Sum) (w : Width) (test a b : Value) (c i j nzcv : ℕ) → test ≡ Num c → Means pl g a i → Means pl g b j
      → Leaves pl g at t (if is_zero test then next (with_flags s (known (named_flags nzcv))) else then_do (flags_outcome s sum w a b) (λ f. next (with_flags s f)))
      (onto (record m { flags = if c == 0 then named_flags nzcv else sum_flags sum (bits_of w) i j }))
  flags_if_agree sum w test a b c i j nzcv e x y = rw e (named_either (c == 0) sum w a b i j nzcv x y)
