-- What is known between the operations of one instruction: the values so far, and the states.
use Rattle.std.proofs.Common.{◌≡◌, ℕ, zero, suc, ◌<◌, ◌^◌, Bool, true, false, List, [], ◌∷◌, ◌++◌, Option, Some, None, refl, sym, subst, arith}
use Rattle.std.specs.Prelude.{slice_index_or}
use Rattle.std.specs.Option.{option_map, option_and_then}
use Rattle.std.proofs.lemmas.Bool.{false≢true}
use Rattle.a64_inst.specs.Domain.{Answer, next}
use Rattle.num_run.specs.Machine.{Machine}
use Rattle.sym_expr.specs.declared.cause.Cause.{Cause}
use Rattle.sym_expr.specs.declared.point.Point.{Point}
use Rattle.sym_expr.specs.declared.program.Program.{Program}
use Rattle.sym_expr.specs.declared.target.Target.{Target}
use Rattle.sym_expr.specs.declared.value.Value.{Value}
use Rattle.sym_expr.specs.declared.value.Value.TheVariants.{Num, Addr, At, PageOf, Diff, Step}
use Rattle.sym_expr.specs.States.{State}
use Rattle.sym_expr.specs.Symbolic.{or_stuck}
use Rattle.sym_expr.specs.Values.{number_in}
use Rattle.simulation.specs.Placement.{Placement}
use Rattle.simulation.specs.Meant.{Means}
use Rattle.simulation.specs.Held.{Related}
use Rattle.simulation.specs.Follows.{Follows}

-- a value so far and its number; where it counts, it is a number
pub record IsTemp (pl : Placement) (g : Program) (counts : Bool) (v : Value) (n : ℕ) : Type 0 where
  pub means : Means pl g v n
  pub number : counts ≡ true → v ≡ Num n

-- the states at the word of a point, whose operand names a target
pub record During (pl : Placement) (g : Program) (at : Point) (target : Option Target) (s : State) (m : Machine) : Type 0 where
  pub related : Related pl g s m
  pub place : s.place ≡ at
  pub named : s.named ≡ target

-- a value, a state within the instruction, and the state after it
abbrev pub Gives : Placement → Program → Bool → Answer Cause State Value → Answer ⊥ Machine ℕ → Type 0
Gives pl g counts = Follows (IsTemp pl g counts) (Related pl g)

abbrev pub Leaves : Placement → Program → Point → Option Target → Answer Cause State State → Answer ⊥ Machine Machine → Type 0
Leaves pl g at target = Follows (During pl g at target) (Related pl g)

abbrev pub Ends : Placement → Program → Answer Cause State State → Answer ⊥ Machine Machine → Type 0
Ends pl g = Follows (Related pl g) (Related pl g)

pub plain : (pl : Placement) (g : Program) (v : Value) (n : ℕ) → Means pl g v n → IsTemp pl g false v n
plain pl g v n h = record { means = h; number = λ e. absurd (false≢true e) }

pub counted : (pl : Placement) (g : Program) (b : Bool) (n : ℕ) → n < 2 ^ 64 → IsTemp pl g b (Num n) n
counted pl g b n h = record { means = record { valid = h; number = refl }; number = λ e. refl }

-- ---- the values so far

abbrev pub AreTemps : Placement → Program → List Bool → List Value → List ℕ → Type 0
AreTemps pl g [] [] [] = Unit {0}
AreTemps pl g [] [] (n ∷ ns) = ⊥
AreTemps pl g [] (v ∷ vs) ns = ⊥
AreTemps pl g (t ∷ ts) [] ns = ⊥
AreTemps pl g (t ∷ ts) (v ∷ vs) [] = ⊥
AreTemps pl g (t ∷ ts) (v ∷ vs) (n ∷ ns) = IsTemp pl g t v n × AreTemps pl g ts vs ns

pub temp_at : (pl : Placement) (g : Program) (ts : List Bool) (vs : List Value) (ns : List ℕ) (k : ℕ) → AreTemps pl g ts vs ns
    → IsTemp pl g (slice_index_or ts k true) (slice_index_or vs k (Num 0)) (slice_index_or ns k 0)
temp_at pl g [] [] [] k h = counted pl g true 0 (omega arith)
temp_at pl g [] [] (n ∷ ns) k h = absurd h
temp_at pl g [] (v ∷ vs) ns k h = absurd h
temp_at pl g (t ∷ ts) [] ns k h = absurd h
temp_at pl g (t ∷ ts) (v ∷ vs) [] k h = absurd h
temp_at pl g (t ∷ ts) (v ∷ vs) (n ∷ ns) zero h = h.0
temp_at pl g (t ∷ ts) (v ∷ vs) (n ∷ ns) (suc k) h = temp_at pl g ts vs ns k h.1

pub temps_more : (pl : Placement) (g : Program) (ts : List Bool) (vs : List Value) (ns : List ℕ) (t : Bool) (v : Value) (n : ℕ) → AreTemps pl g ts vs ns → IsTemp pl g t v n
    → AreTemps pl g (ts ++ t ∷ []) (vs ++ v ∷ []) (ns ++ n ∷ [])
temps_more pl g [] [] [] t v n h new = (new, tt)
temps_more pl g [] [] (n2 ∷ ns) t v n h new = absurd h
temps_more pl g [] (v2 ∷ vs) ns t v n h new = absurd h
temps_more pl g (t2 ∷ ts) [] ns t v n h new = absurd h
temps_more pl g (t2 ∷ ts) (v2 ∷ vs) [] t v n h new = absurd h
temps_more pl g (t2 ∷ ts) (v2 ∷ vs) (n2 ∷ ns) t v n h new = (h.0, temps_more pl g ts vs ns t v n h.1 new)

-- ---- values that must be numbers

abbrev pub IsNumber : Option ℕ → ℕ → Type 0
IsNumber None n = Unit {0}
IsNumber (Some k) n = (k ≡ n) × (n < 2 ^ 64)

pub number_is : (pl : Placement) (g : Program) (v : Value) (n : ℕ) → Means pl g v n → IsNumber (number_in v) n
number_is pl g (Num k) n h = (sym h.number, subst (λ (x : ℕ). x < 2 ^ 64) (sym h.number) h.valid)
number_is pl g (Addr o x) n h = tt
number_is pl g (At p) n h = tt
number_is pl g (PageOf t) n h = tt
number_is pl g (Diff p q) n h = tt
number_is pl g (Step p q k) n h = (sym h.number, subst (λ (x : ℕ). x < 2 ^ 64) (sym h.number) h.valid.3)

-- what goes on with a value
abbrev pub onward_with : {A : Type 0} → A → Answer Cause State A
onward_with a = next a

-- whatever is done with a number that there is
pub one_follows : {A B : Type 0} (R : A → B → Type 0) (E : State → Machine → Type 0) (o : Option ℕ) (n : ℕ) (c : Cause) (f : ℕ → A) (y : Answer ⊥ Machine B) → IsNumber o n
    → (n < 2 ^ 64 → Follows R E (onward_with (f n)) y) → Follows R E (or_stuck c (option_map f o)) y
one_follows R E None n c f y h k = tt
one_follows {A} R E (Some x) n c f y h k = subst (λ (z : ℕ). Follows R E (onward_with (f z)) y) (sym h.0) (k h.1)

pub two_follow : {A B : Type 0} (R : A → B → Type 0) (E : State → Machine → Type 0) (o p : Option ℕ) (m n : ℕ) (c : Cause) (f : ℕ → ℕ → A) (y : Answer ⊥ Machine B) → IsNumber o m → IsNumber p n
    → (m < 2 ^ 64 → n < 2 ^ 64 → Follows R E (onward_with (f m n)) y) → Follows R E (or_stuck c (option_and_then (λ x. option_map (λ z. f x z) p) o)) y
two_follow R E None p m n c f y h k go = tt
two_follow R E (Some x) None m n c f y h k go = tt
two_follow R E (Some x) (Some z) m n c f y h k go =
    subst (λ (a : ℕ). Follows R E (onward_with (f a z)) y) (sym h.0) (subst (λ (b : ℕ). Follows R E (onward_with (f m b)) y) (sym k.0) (go h.1 k.1))
