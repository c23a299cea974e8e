-- Lists of operations, one operation after the other.
use Rattle.std.proofs.Common.{◌≡◌, ℕ, ◌+◌, ◌*◌, ◌/◌, ◌%◌, ◌^◌, ◌<◌, Bool, true, false, List, [], ◌∷◌, ◌++◌, Option, Some, refl, ap, ◌∙◌}
use Rattle.std.specs.Prelude.{◌==◌, ◌&&◌, nat_le, nat_lt, if◌then◌else◌, slice_index_or, map}
use Rattle.std.proofs.lemmas.Bool.{and_parts, ltb-true, leb-true}
use Rattle.a64_inst.specs.declared.operations.Op.{Op}
use Rattle.a64_inst.specs.declared.operations.Op.TheVariants as op
use Rattle.a64_inst.specs.declared.operations.Sum.TheVariants.{Add}
use Rattle.a64_inst.specs.Numbers.{sum_value}
use Rattle.a64_inst.specs.Domain.{Answer, next, ended, stuck, then_do, give, perform, exec}
use Rattle.num_run.specs.Machine.{Machine, register as number_in_register}
use Rattle.num_run.specs.Numeric.{numeric}
use Rattle.paged_memory.specs.Mapping.{Mapping}
use Rattle.sym_expr.specs.declared.cause.Cause.{Cause}
use Rattle.sym_expr.specs.declared.point.Point.{Point}
use Rattle.sym_expr.specs.declared.program.Program.{Program}
use Rattle.sym_expr.specs.declared.program.Word.{Word}
use Rattle.sym_expr.specs.declared.target.Target.{Target}
use Rattle.sym_expr.specs.declared.value.Value.{Value}
use Rattle.sym_expr.specs.declared.value.Value.TheVariants.{Num}
use Rattle.sym_expr.specs.Points.{word_at}
use Rattle.sym_expr.specs.States.{State, register}
use Rattle.sym_expr.specs.Symbolic.{symbolic, target_outcome, join_low_outcome, advanced}
use Rattle.simulation.specs.Placement.{Placement, point_address}
use Rattle.simulation.specs.Meant.{Means}
use Rattle.simulation.specs.Placed.{IsPlaced}
use Rattle.simulation.proofs.Context.{During, Gives, Leaves, Ends, IsTemp, AreTemps, plain, counted, temp_at, temps_more}
use Rattle.simulation.proofs.Sums.{answer, sums_agree}
use Rattle.simulation.proofs.Changes.{register_means, write_during}
use Rattle.simulation.proofs.Tests.{conditions_agree, zero_tests_agree, choices_agree}
use Rattle.simulation.proofs.Operands.{Filling, refilled, offset_in, field_in, Names, IsNamed, targets_agree}
use Rattle.simulation.proofs.Granules.{joins_agree}
use Rattle.simulation.proofs.Places.{advances, links, jumps, jumps_if}
use Rattle.simulation.proofs.Loads.{loads_agree}
use Rattle.simulation.proofs.Stores.{stores_agree}
use Rattle.simulation.proofs.Calls.{calls_agree}
use Rattle.simulation.proofs.Numbers.{carry_agrees, unary_agrees, binary_agrees, carry_flags_agree, logic_flags_agree, sum_flags_leave, flags_if_agree}

-- of each value so far, whether it is known to be a number, after an operation
abbrev pub known_after : List Bool → Op → List Bool
known_after ts (op.Number n) = ts ++ true ∷ []
known_after ts (op.Target page x) = ts ++ false ∷ []
known_after ts (op.Read stack r) = ts ++ false ∷ []
known_after ts op.Carry = ts ++ true ∷ []
known_after ts (op.Copy a) = ts ++ false ∷ []
known_after ts (op.Unary f w a) = ts ++ false ∷ []
known_after ts (op.Binary f w a b) = ts ++ true ∷ []
known_after ts (op.Sum sum w a b) = ts ++ false ∷ []
known_after ts (op.JoinLow unit field a) = ts ++ false ∷ []
known_after ts (op.Load bytes signed w a) = ts ++ false ∷ []
known_after ts (op.Condition c) = ts ++ true ∷ []
known_after ts (op.IsZero negated w a) = ts ++ true ∷ []
known_after ts (op.Choose inverted more w t a b) = ts ++ false ∷ []
known_after ts o = ts

-- numbers of an operation have at most 64 bits, and what it tests is a number
abbrev pub is_fit : List Bool → Op → Bool
is_fit ts (op.Number n) = nat_lt n (2 ^ 64)
is_fit ts (op.JoinLow unit field a) = nat_lt (field * unit) (2 ^ 64)
is_fit ts (op.Load bytes signed w a) = nat_le bytes 8
is_fit ts (op.Choose inverted more w t a b) = slice_index_or ts t true
is_fit ts (op.FlagsIf sum w t a b nzcv) = slice_index_or ts t true
is_fit ts (op.JumpIf t a) = slice_index_or ts t true
is_fit ts o = true

abbrev pub are_fit : List Bool → List Op → Bool
are_fit ts [] = true
are_fit ts (o ∷ os) = is_fit ts o && are_fit (known_after ts o) os

-- the filled operands of operations name what they have to
abbrev pub NameAll : Placement → Program → ℕ → Option Target → Filling → List Op → Type 0
NameAll pl g place t f [] = Unit {0}
NameAll pl g place t f (o ∷ os) = Names pl g place t f o × NameAll pl g place t f os

module _ (pl : Placement) (g : Program) (memory : Mapping) (placed : IsPlaced pl g memory) (at : Point) (w : Word) (there : word_at g at ≡ Some w) (named : IsNamed g w.target) (f : Filling) where
  -- what is left of both lists does the same
  abbrev Goes : List Bool → (List Value → State → Answer Cause State State) → (List ℕ → Machine → Answer ⊥ Machine Machine) → Type 0
  Goes ts go run = (vs : List Value) (ns : List ℕ) (s : State) (m : Machine) → AreTemps pl g ts vs ns → During pl g at w.target s m → Ends pl g (go vs s) (run ns m)

  module _ (vs : List Value) (ns : List ℕ) (s : State) (m : Machine) (h : During pl g at w.target s m) (go : List Value → State → Answer Cause State State) (run : List ℕ → Machine → Answer ⊥ Machine Machine) where
    value_goes : (ts : List Bool) (b : Bool) (x : Answer Cause State Value) (y : Answer ⊥ Machine ℕ) → AreTemps pl g ts vs ns → Gives pl g b x y → Goes (ts ++ b ∷ []) go run → Ends pl g (give x vs s go) (give y ns m run)
    value_goes ts b (next v) (next n) temps k rest = rest (vs ++ v ∷ []) (ns ++ n ∷ []) s m (temps_more pl g ts vs ns b v n temps k) h
    value_goes ts b (next v) (ended event m2) temps k rest = absurd k
    value_goes ts b (next v) (stuck cause) temps k rest = absurd k
    value_goes ts b (ended event s2) (next n) temps k rest = absurd k
    value_goes ts b (ended event s2) (ended other m2) temps k rest = k
    value_goes ts b (ended event s2) (stuck cause) temps k rest = absurd k
    value_goes ts b (stuck cause) y temps k rest = tt

    state_goes : (ts : List Bool) (x : Answer Cause State State) (y : Answer ⊥ Machine Machine) → AreTemps pl g ts vs ns → Leaves pl g at w.target x y → Goes ts go run → Ends pl g (then_do x (go vs)) (then_do y (run ns))
    state_goes ts (next s2) (next m2) temps k rest = rest vs ns s2 m2 temps k
    state_goes ts (next s2) (ended event m2) temps k rest = absurd k
    state_goes ts (next s2) (stuck cause) temps k rest = absurd k
    state_goes ts (ended event s2) (next m2) temps k rest = absurd k
    state_goes ts (ended event s2) (ended other m2) temps k rest = k
    state_goes ts (ended event s2) (stuck cause) temps k rest = absurd k
    state_goes ts (stuck cause) y temps k rest = tt

    module _ (ts : List Bool) (temps : AreTemps pl g ts vs ns) where
      temp : (k : ℕ) → IsTemp pl g (slice_index_or ts k true) (slice_index_or vs k (Num 0)) (slice_index_or ns k 0)
      temp k = temp_at pl g ts vs ns k temps

      place_is : m.place ≡ point_address pl g at
      place_is = h.related.place ∙ ap (point_address pl g) h.place

      target_gives : (page : Bool) (x : ℕ) → Names pl g (point_address pl g at) w.target f (op.Target page x)
          → Gives pl g false (target_outcome page s.named) (answer (((if page then m.place / 4096 * 4096 else m.place) + offset_in f x) % 2 ^ 64))
      target_gives page x k = rw (h.named, place_is) (targets_agree pl g memory placed page x (point_address pl g at) w.target f named k)

      join_gives : (unit field a : ℕ) (v : Value) (n : ℕ) → field * unit < 2 ^ 64 → Names pl g (point_address pl g at) w.target f (op.JoinLow unit field a) → Means pl g v n
          → Gives pl g false (join_low_outcome g unit field v s.named) (answer (sum_value Add 64 n (field_in f field * unit)))
      join_gives unit field a v n small k means = rw (h.named) (joins_agree pl g memory placed unit field (point_address pl g at) a w.target f v n small named k means)

      kept_either : (b : Bool) → Goes ts go run → Ends pl g (if b then next (advanced g s) else go vs s) (if b then numeric.advance m else run ns m)
      kept_either true rest = advances pl g memory placed at w w.target there s m h
      kept_either false rest = rest vs ns s m temps h

      performs : (o : Op) → is_fit ts o ≡ true → Names pl g (point_address pl g at) w.target f o → Goes (known_after ts o) go run → Ends pl g (perform (symbolic g) o go vs s) (perform numeric (refilled f o) run ns m)
      performs (op.Number n) fit k rest = rest (vs ++ Num n ∷ []) (ns ++ n ∷ []) s m (temps_more pl g ts vs ns true (Num n) n temps (counted pl g true n (ltb-true n (2 ^ 64) fit))) h
      performs (op.Target page x) fit k rest = value_goes ts false _ _ temps (target_gives page x k) rest
      performs (op.Read stack r) fit k rest =
          value_goes ts false (next (register stack r s)) (answer (number_in_register stack r m)) temps (plain pl g (register stack r s) (number_in_register stack r m) (register_means pl g stack r s m h.related)) rest
      performs op.Carry fit k rest = value_goes ts true _ _ temps (carry_agrees pl g s m h.related) rest
      performs (op.Copy a) fit k rest = rest _ _ s m (temps_more pl g ts vs ns false _ _ temps (plain pl g _ _ (temp a).means)) h
      performs (op.Unary function width a) fit k rest = value_goes ts false _ _ temps (unary_agrees pl g function width _ _ (temp a).means) rest
      performs (op.Binary function width a b) fit k rest = value_goes ts true _ _ temps (binary_agrees pl g function width _ _ _ _ (temp a).means (temp b).means) rest
      performs (op.Sum sum width a b) fit k rest = value_goes ts false _ _ temps (sums_agree pl g memory placed sum width _ _ _ _ (temp a).means (temp b).means) rest
      performs (op.JoinLow unit field a) fit k rest = value_goes ts false _ _ temps (join_gives unit field a _ _ (ltb-true (field * unit) (2 ^ 64) fit) k (temp a).means) rest
      performs (op.Load bytes signed width a) fit k rest = value_goes ts false _ _ temps (loads_agree pl g memory placed bytes signed width _ _ s m (leb-true bytes 8 fit) h.related (temp a).means) rest
      performs (op.Condition c) fit k rest = value_goes ts true _ _ temps (conditions_agree pl g c s m h.related) rest
      performs (op.IsZero negated width a) fit k rest = value_goes ts true _ _ temps (zero_tests_agree pl g memory placed negated width _ _ s m h.related (temp a).means) rest
      performs (op.Choose inverted more width t a b) fit k rest =
          value_goes ts false _ _ temps (choices_agree pl g memory placed inverted more width _ _ _ _ _ _ ((temp t).number fit) (temp a).means (temp b).means) rest
      performs (op.Store bytes a b) fit k rest = state_goes ts _ _ temps (stores_agree pl g memory placed at w.target s m h bytes _ _ _ _ (temp a).means (temp b).means) rest
      performs (op.Write stack r a) fit k rest = state_goes ts (next _) (next _) temps (write_during pl g at w.target stack r _ _ s m h (temp a).means) rest
      performs (op.FlagsOfSum sum width a b) fit k rest = state_goes ts _ _ temps (sum_flags_leave pl g memory placed at w.target s m h sum width _ _ _ _ (temp a).means (temp b).means) rest
      performs (op.FlagsOfCarry sum width a b c) fit k rest = state_goes ts _ _ temps (carry_flags_agree pl g at w.target s m h sum width _ _ _ _ _ _ (temp a).means (temp b).means (temp c).means) rest
      performs (op.FlagsOfLogic width a) fit k rest = state_goes ts _ _ temps (logic_flags_agree pl g at w.target s m h width _ _ (temp a).means) rest
      performs (op.FlagsIf sum width t a b nzcv) fit k rest =
          state_goes ts _ _ temps (flags_if_agree pl g memory placed at w.target s m h sum width _ _ _ _ _ _ nzcv ((temp t).number fit) (temp a).means (temp b).means) rest
      performs op.Link fit k rest = state_goes ts (next _) (next _) temps (links pl g memory placed at w w.target there s m h) rest
      performs (op.Call n) fit k rest = state_goes ts _ _ temps (calls_agree pl g memory placed at w.target s m h n) rest
      performs (op.Keep r) fit k rest = kept_either (r == 31) rest
      performs (op.Jump a) fit k rest = jumps pl g memory placed at w w.target there _ _ s m h (temp a).means
      performs (op.JumpIf t a) fit k rest = jumps_if pl g memory placed at w w.target there _ _ _ _ s m h ((temp t).number fit) (temp a).means
      performs (op.Trap why) fit k rest = (refl, h.related)

  pub lists_agree : (os : List Op) (ts : List Bool) → are_fit ts os ≡ true → NameAll pl g (point_address pl g at) w.target f os → Goes ts (exec (symbolic g) os) (exec numeric (map (refilled f) os))
  lists_agree [] ts fit k vs ns s m temps h = advances pl g memory placed at w w.target there s m h
  lists_agree (o ∷ os) ts fit k vs ns s m temps h =
      let both = and_parts (is_fit ts o) (are_fit (known_after ts o) os) fit in
      performs vs ns s m h (exec (symbolic g) os) (exec numeric (map (refilled f) os)) ts temps o both.0 k.0 (lists_agree os (known_after ts o) both.1 k.1)
