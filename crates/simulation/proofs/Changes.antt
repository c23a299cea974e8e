-- States that stand for each other after a register, the flags or the place have changed.
use Rattle.std.proofs.Common.{◌≡◌, ℕ, zero, suc, Bool, true, false, List, [], ◌∷◌, length, Option, refl, sym, ◌∙◌, arith}
use Rattle.std.specs.Prelude.{nat_lt, if◌then◌else◌, slice_index, slice_index_or, slice_set}
use Rattle.std.proofs.lemmas.List.{length-set}
use Rattle.a64_inst.specs.declared.flags.Flags.{Flags}
use Rattle.a64_inst.specs.Domain.{Answer, next, ended, stuck, then_do}
use Rattle.num_run.specs.Machine.{Machine, register as number_in_register, with_register as with_number}
use Rattle.num_run.specs.Numeric.{at_place as at_address}
use Rattle.sym_expr.specs.declared.cause.Cause.{Cause}
use Rattle.sym_expr.specs.declared.point.Point.{Point}
use Rattle.sym_expr.specs.declared.program.Program.{Program}
use Rattle.sym_expr.specs.declared.target.Target.{Target}
use Rattle.sym_expr.specs.declared.value.KnownFlags.{KnownFlags}
use Rattle.sym_expr.specs.declared.value.Value.{Value}
use Rattle.sym_expr.specs.declared.value.Value.TheVariants.{Num}
use Rattle.sym_expr.specs.States.{State, register, with_register}
use Rattle.sym_expr.specs.Symbolic.{with_flags, at_place}
use Rattle.sym_expr.specs.WellMade.{IsPoint}
use Rattle.simulation.specs.Placement.{Placement, point_address}
use Rattle.simulation.specs.Meant.{Means}
use Rattle.simulation.specs.Held.{AreFlags, Related}
use Rattle.simulation.specs.Follows.{Follows}
use Rattle.simulation.proofs.Context.{During, Leaves}

-- a machine of numbers that goes on
abbrev pub onto : Machine → Answer ⊥ Machine Machine
onto m = next m

module _ (pl : Placement) (g : Program) where
  none_means : Means pl g (Num 0) 0
  none_means = record { valid = omega arith; number = refl }

  -- ---- registers

  means_either : (a b : Bool) (v w : Value) (m n : ℕ) → Means pl g v m → Means pl g w n
      → Means pl g (if a then v else (if b then w else Num 0)) (if a then m else (if b then n else 0))
  means_either true b v w m n h k = h
  means_either false true v w m n h k = k
  means_either false false v w m n h k = none_means

  pub register_means : (stack : Bool) (r : ℕ) (s : State) (m : Machine) → Related pl g s m → Means pl g (register stack r s) (number_in_register stack r m)
  register_means stack r s m h =
      means_either (nat_lt r 31) stack (slice_index_or s.registers r (Num 0)) s.stack_pointer (slice_index m.registers r) m.stack_pointer (h.registers r) h.stack_pointer

  set_means : (vs : List Value) (ns : List ℕ) (r : ℕ) (v : Value) (n : ℕ) → length vs ≡ length ns → ((k : ℕ) → Means pl g (slice_index_or vs k (Num 0)) (slice_index ns k)) → Means pl g v n
      → (k : ℕ) → Means pl g (slice_index_or (slice_set vs r v) k (Num 0)) (slice_index (slice_set ns r n) k)
  set_means [] [] r v n e h new k = h k
  set_means [] (y ∷ ns) r v n e h new k = absurd (omega (arith, e))
  set_means (x ∷ vs) [] r v n e h new k = absurd (omega (arith, e))
  set_means (x ∷ vs) (y ∷ ns) zero v n e h new zero = new
  set_means (x ∷ vs) (y ∷ ns) zero v n e h new (suc k) = h (suc k)
  set_means (x ∷ vs) (y ∷ ns) (suc r) v n e h new zero = h zero
  set_means (x ∷ vs) (y ∷ ns) (suc r) v n e h new (suc k) = set_means vs ns r v n (omega (arith, e)) (λ j. h (suc j)) new k

  in_register : (r : ℕ) (v : Value) (n : ℕ) (s : State) (m : Machine) → Related pl g s m → Means pl g v n
      → Related pl g (record s { registers = slice_set s.registers r v }) (record m { registers = slice_set m.registers r n })
  in_register r v n s m h new = record {
    count = length-set s.registers r v ∙ h.count ∙ sym (length-set m.registers r n);
    registers = set_means s.registers m.registers r v n h.count h.registers new;
    stack_pointer = h.stack_pointer;
    flags = h.flags;
    sizes = h.sizes;
    cells = h.cells;
    code = h.code;
    is_point = h.is_point;
    place = h.place;
    bytes = h.bytes;
    input = h.input;
    output = h.output;
  }

  in_stack_pointer : (v : Value) (n : ℕ) (s : State) (m : Machine) → Related pl g s m → Means pl g v n
      → Related pl g (record s { stack_pointer = v }) (record m { stack_pointer = n })
  in_stack_pointer v n s m h new = record {
    count = h.count;
    registers = h.registers;
    stack_pointer = new;
    flags = h.flags;
    sizes = h.sizes;
    cells = h.cells;
    code = h.code;
    is_point = h.is_point;
    place = h.place;
    bytes = h.bytes;
    input = h.input;
    output = h.output;
  }

  written_either : (a b : Bool) (r : ℕ) (v : Value) (n : ℕ) (s : State) (m : Machine) → Related pl g s m → Means pl g v n
      → Related pl g (if a then record s { registers = slice_set s.registers r v } else (if b then record s { stack_pointer = v } else s))
      (if a then record m { registers = slice_set m.registers r n } else (if b then record m { stack_pointer = n } else m))
  written_either true b r v n s m h new = in_register r v n s m h new
  written_either false true r v n s m h new = in_stack_pointer v n s m h new
  written_either false false r v n s m h new = h

  pub register_written : (stack : Bool) (r : ℕ) (v : Value) (n : ℕ) (s : State) (m : Machine) → Related pl g s m → Means pl g v n
      → Related pl g (with_register stack r v s) (with_number stack r n m)
  register_written stack r v n s m h new = written_either (nat_lt r 31) stack r v n s m h new

  place_either : (a b : Bool) (r : ℕ) (v : Value) (s : State)
      → ((if a then record s { registers = slice_set s.registers r v } else (if b then record s { stack_pointer = v } else s)).place ≡ s.place)
      × ((if a then record s { registers = slice_set s.registers r v } else (if b then record s { stack_pointer = v } else s)).named ≡ s.named)
  place_either true b r v s = (refl, refl)
  place_either false true r v s = (refl, refl)
  place_either false false r v s = (refl, refl)

  pub write_during : (at : Point) (t : Option Target) (stack : Bool) (r : ℕ) (v : Value) (n : ℕ) (s : State) (m : Machine) → During pl g at t s m → Means pl g v n
      → During pl g at t (with_register stack r v s) (with_number stack r n m)
  write_during at t stack r v n s m h new =
      let kept = place_either (nat_lt r 31) stack r v s in
      record { related = register_written stack r v n s m h.related new; place = kept.0 ∙ h.place; named = kept.1 ∙ h.named }

  -- ---- flags

  flags_changed : (f : KnownFlags) (flags : Flags) (s : State) (m : Machine) → Related pl g s m → AreFlags f flags → Related pl g (with_flags s f) (record m { flags = flags })
  flags_changed f flags s m h new = record {
    count = h.count;
    registers = h.registers;
    stack_pointer = h.stack_pointer;
    flags = new;
    sizes = h.sizes;
    cells = h.cells;
    code = h.code;
    is_point = h.is_point;
    place = h.place;
    bytes = h.bytes;
    input = h.input;
    output = h.output;
  }

  pub flags_during : (at : Point) (t : Option Target) (f : KnownFlags) (flags : Flags) (s : State) (m : Machine) → During pl g at t s m → AreFlags f flags
      → During pl g at t (with_flags s f) (record m { flags = flags })
  flags_during at t f flags s m h new = record { related = flags_changed f flags s m h.related new; place = h.place; named = h.named }

  -- flags that are given, in both states
  pub flags_then : (at : Point) (t : Option Target) (o : Answer Cause State KnownFlags) (flags : Flags) (s : State) (m : Machine) → During pl g at t s m
      → Follows {D = ⊥} {T = Machine} AreFlags (Related pl g) o (next flags) → Leaves pl g at t (then_do o (λ f. next (with_flags s f))) (onto (record m { flags = flags }))
  flags_then at t (next f) flags s m h new = flags_during at t f flags s m h new
  flags_then at t (ended event s2) flags s m h new = new
  flags_then at t (stuck cause) flags s m h new = tt

  -- ---- the place

  pub placed_at : (p : Point) (n : ℕ) (s : State) (m : Machine) → Related pl g s m → IsPoint g p → n ≡ point_address pl g p → Related pl g (at_place p s) (at_address n m)
  placed_at p n s m h is e = record {
    count = h.count;
    registers = h.registers;
    stack_pointer = h.stack_pointer;
    flags = h.flags;
    sizes = h.sizes;
    cells = h.cells;
    code = h.code;
    is_point = is;
    place = e;
    bytes = h.bytes;
    input = h.input;
    output = h.output;
  }
