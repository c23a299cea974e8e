-- Rows that go to memory.
use Rattle.std.proofs.Common.{◌≡◌, ℕ, ◌+◌, ◌*◌, ◌^◌, Bool, true, false, cond, List, [], ◌∷◌, ◌++◌, Option, Some, None, refl, sym, ap, ◌∙◌, subst}
use Rattle.std.specs.Prelude.{◌==◌, nat_le, slice_index_or, unwrap_or}
use Rattle.a64_inst.specs.declared.operations.Sum.TheVariants.{Add}
use Rattle.a64_inst.specs.declared.operations.Width.{Width}
use Rattle.a64_inst.specs.declared.operations.Width.TheVariants.{W, X}
use Rattle.a64_inst.specs.declared.operations.Unary.TheVariants.{Extend}
use Rattle.a64_inst.specs.declared.operations.Op.{Op}
use Rattle.a64_inst.specs.declared.operations.Op.TheVariants as op
use Rattle.a64_inst.specs.Domain.{exec, give, perform, then_do}
use Rattle.a64_inst.specs.Meaning.{access, pair_size, pair_load, pair_store}
use Rattle.a64_inst.specs.Numbers.{bits_of, is_copy, unary_value}
use Rattle.sym_expr.specs.declared.program.Program.{Program}
use Rattle.sym_expr.specs.declared.value.Value.{Value}
use Rattle.sym_expr.specs.declared.value.Value.TheVariants.{Num}
use Rattle.sym_expr.specs.States.{State, register}
use Rattle.sym_expr.specs.Symbolic.{Outcome, load_outcome, store_outcome, sum_of, sum_outcome, symbolic}
use Rattle.sym_expr.specs.Values.{number_in}
use Rattle.a64_inst.specs.Domain.{next}
use Rattle.plain_steps.specs.Plain.{Gives, IsNumber, Reaches, number_at, register_offset}
use Rattle.plain_steps.proofs.Going.{Goes, Onward, unary_goes}
use Rattle.plain_steps.proofs.Memory.{Inside, given_of, load_number, reaches_inside, stays_inside, store_done}
use Rattle.plain_steps.proofs.Parts.{AreNumbers, either_by, where_true, where_false}

abbrev pub AllGo : Program → List Op → Type 0
AllGo g more = (vs : List Value) (s : State) → Goes (exec (symbolic g) more vs s)

-- a load of what is reached, and a store there
module _ (g : Program) (vs : List Value) (s : State) (go : Onward) where
  load_goes : (count : ℕ) (signed : Bool) (w : Width) (at : ℕ) (v : Value) → slice_index_or vs at (Num 0) ≡ v → Reaches s count v → ((k : ℕ) → Goes (go (vs ++ Num k ∷ []) s))
      → Goes (perform (symbolic g) (op.Load count signed w at) go vs s)
  load_goes count signed w at v is reached h =
      let made = load_number g count signed w v s reached in
      subst (λ (a : Value). Goes (give (load_outcome g count signed w a s) vs s go)) (sym is)
      (subst (λ (o : Outcome Value). Goes (give o vs s go)) (sym made.1) (h made.0))

  store_goes : (count i at n : ℕ) (v : Value) → slice_index_or vs i (Num 0) ≡ Num n → slice_index_or vs at (Num 0) ≡ v → Inside s count v
      → ((t : State) → ((c : ℕ) (u : Value) → Inside s c u → Inside t c u) → Goes (go vs t)) → Goes (perform (symbolic g) (op.Store count i at) go vs s)
  store_goes count i at n v value is inside h =
      let made = store_done count n v s inside in
      subst (λ (a : Value). Goes (then_do (store_outcome count a (slice_index_or vs at (Num 0)) s) (go vs))) (sym value)
      (subst (λ (a : Value). Goes (then_do (store_outcome count (Num n) a s) (go vs))) (sym is)
      (subst (λ (o : Outcome State). Goes (then_do o (go vs))) (sym made.1) (h made.0 (λ c u. stays_inside s made.0 c u made.2))))

  -- a sum that gives a value
  pub sum_gives : (i j : ℕ) (a b v : Value) → slice_index_or vs i (Num 0) ≡ a → slice_index_or vs j (Num 0) ≡ b → sum_of g a b ≡ next v → Goes (go (vs ++ v ∷ []) s)
      → Goes (perform (symbolic g) (op.Sum Add X i j) go vs s)
  sum_gives i j a b v first second is h =
      subst (λ (x : Value). Goes (give (sum_of g x (slice_index_or vs j (Num 0))) vs s go)) (sym first)
      (subst (λ (x : Value). Goes (give (sum_of g a x) vs s go)) (sym second)
      (subst (λ (o : Outcome Value). Goes (give o vs s go)) (sym is) h))

-- the access of a row, and more behind it that goes on
module _ (g : Program) (s : State) (size opc rt at count : ℕ) (vs : List Value) (v : Value) (more : List Op) (all : AllGo g more)
    (numbers : AreNumbers s (cond (opc == 0) ((false, rt) ∷ []) [])) (reached : Reaches s (2 ^ size) v) where
  loads : slice_index_or vs at (Num 0) ≡ v → Goes (exec (symbolic g) (op.Load (2 ^ size) (nat_le 2 opc) (cond (opc == 3) W X) at ∷ op.Write false rt count ∷ more) vs s)
  loads is = load_goes g vs s (exec (symbolic g) (op.Write false rt count ∷ more)) (2 ^ size) (nat_le 2 opc) (cond (opc == 3) W X) at v is reached (λ k. all _ _)

  stores : opc == 0 ≡ true → slice_index_or (vs ++ register false rt s ∷ []) count (Num 0) ≡ register false rt s
      → ((k : ℕ) → slice_index_or ((vs ++ register false rt s ∷ []) ++ Num k ∷ []) (count + 1) (Num 0) ≡ Num k)
      → ((k : ℕ) → slice_index_or ((vs ++ register false rt s ∷ []) ++ Num k ∷ []) at (Num 0) ≡ v)
      → Goes (exec (symbolic g) (op.Read false rt ∷ op.Unary (Extend size 0) X count ∷ op.Store (2 ^ size) (count + 1) at ∷ more) vs s)
  stores is operand value place =
      let number = (where_true s (opc == 0) ((false, rt) ∷ []) [] is numbers).0 in
      unary_goes g (vs ++ register false rt s ∷ []) s (exec (symbolic g) (op.Store (2 ^ size) (count + 1) at ∷ more)) (Extend size 0) X count number.0 (operand ∙ number.1)
      (store_goes g _ s (exec (symbolic g) more) (2 ^ size) (count + 1) at _ v (value _) (place _) (reaches_inside s (2 ^ size) v reached) (λ t keeps. all _ t))

pub access_goes : (g : Program) (s : State) (size opc rt at count : ℕ) (vs : List Value) (v : Value) → AreNumbers s (cond (opc == 0) ((false, rt) ∷ []) []) → Reaches s (2 ^ size) v
    → slice_index_or vs at (Num 0) ≡ v → slice_index_or (vs ++ register false rt s ∷ []) count (Num 0) ≡ register false rt s
    → ((k : ℕ) → slice_index_or ((vs ++ register false rt s ∷ []) ++ Num k ∷ []) (count + 1) (Num 0) ≡ Num k)
    → ((k : ℕ) → slice_index_or ((vs ++ register false rt s ∷ []) ++ Num k ∷ []) at (Num 0) ≡ v)
    → Goes (exec (symbolic g) (access size opc rt at count) vs s)
access_goes g s size opc rt at count vs v numbers reached is operand value place =
    either_by g (opc == 0) (op.Read false rt ∷ op.Unary (Extend size 0) X count ∷ op.Store (2 ^ size) (count + 1) at ∷ [])
    (op.Load (2 ^ size) (nat_le 2 opc) (cond (opc == 3) W X) at ∷ op.Write false rt count ∷ []) vs s
    (λ zero. stores g s size opc rt at count vs v [] (λ vs t. refl) numbers reached zero operand value place)
    (λ more. loads g s size opc rt at count vs v [] (λ vs t. refl) numbers reached is)

pub either_then_by : (g : Program) (b : Bool) (xs ys more : List Op) (vs : List Value) (s : State) → (b ≡ true → Goes (exec (symbolic g) (xs ++ more) vs s)) → (b ≡ false → Goes (exec (symbolic g) (ys ++ more) vs s))
    → Goes (exec (symbolic g) (cond b xs ys ++ more) vs s)
either_then_by g true xs ys more vs s x y = x refl
either_then_by g false xs ys more vs s x y = y refl

pub access_then_goes : (g : Program) (s : State) (size opc rt at count rn : ℕ) (vs : List Value) (v : Value) → AreNumbers s (cond (opc == 0) ((false, rt) ∷ []) []) → Reaches s (2 ^ size) v
    → slice_index_or vs at (Num 0) ≡ v → slice_index_or (vs ++ register false rt s ∷ []) count (Num 0) ≡ register false rt s
    → ((k : ℕ) → slice_index_or ((vs ++ register false rt s ∷ []) ++ Num k ∷ []) (count + 1) (Num 0) ≡ Num k)
    → ((k : ℕ) → slice_index_or ((vs ++ register false rt s ∷ []) ++ Num k ∷ []) at (Num 0) ≡ v)
    → Goes (exec (symbolic g) (access size opc rt at count ++ op.Write true rn 2 ∷ []) vs s)
access_then_goes g s size opc rt at count rn vs v numbers reached is operand value place =
    let more : List Op = op.Write true rn 2 ∷ [] in
    either_then_by g (opc == 0) (op.Read false rt ∷ op.Unary (Extend size 0) X count ∷ op.Store (2 ^ size) (count + 1) at ∷ [])
    (op.Load (2 ^ size) (nat_le 2 opc) (cond (opc == 3) W X) at ∷ op.Write false rt count ∷ []) more vs s
    (λ zero. stores g s size opc rt at count vs v more (λ vs t. refl) numbers reached zero operand value place)
    (λ other. loads g s size opc rt at count vs v more (λ vs t. refl) numbers reached is)

-- the first of three values or the last, as an address of an access
pub picked : (f : ℕ → Value) (b : Bool) → f (cond b 0 2) ≡ cond b (f 0) (f 2)
picked f true = refl
picked f false = refl

-- ---- pairs, behind the base, its offset, their sum, the size and the address of the second access

module _ (g : Program) (s : State) (opc l rt rt2 at : ℕ) (a b m v u : Value) (more : List Op) (all : AllGo g more) (reached : Reaches s (2 ^ pair_size opc) v) (also : Reaches s (2 ^ pair_size opc) u)
    (is : (rest : List Value) → slice_index_or (a ∷ b ∷ m ∷ Num (2 ^ pair_size opc) ∷ u ∷ rest) at (Num 0) ≡ v) where
  pub pair_loads : Goes (exec (symbolic g) (pair_load opc rt rt2 at ++ more) (a ∷ b ∷ m ∷ Num (2 ^ pair_size opc) ∷ u ∷ []) s)
  pair_loads =
      load_goes g (a ∷ b ∷ m ∷ Num (2 ^ pair_size opc) ∷ u ∷ []) s (exec (symbolic g) (op.Load (2 ^ pair_size opc) (opc == 1) X 4 ∷ op.Write false rt 5 ∷ op.Write false rt2 6 ∷ more)) (2 ^ pair_size opc) (opc == 1) X at v
      (is []) reached (λ k. load_goes g (a ∷ b ∷ m ∷ Num (2 ^ pair_size opc) ∷ u ∷ Num k ∷ []) s (exec (symbolic g) (op.Write false rt 5 ∷ op.Write false rt2 6 ∷ more)) (2 ^ pair_size opc) (opc == 1) X 4 u refl also (λ j. all _ _))

  pub pair_stores : AreNumbers s ((false, rt) ∷ (false, rt2) ∷ []) → Goes (exec (symbolic g) (pair_store opc rt rt2 at ++ more) (a ∷ b ∷ m ∷ Num (2 ^ pair_size opc) ∷ u ∷ []) s)
  pair_stores numbers =
      let first = register false rt s in
      let second = register false rt2 s in
      let n = numbers.0 in
      let k = numbers.1.0 in
      let size = 2 ^ pair_size opc in
      let low : ℕ → ℕ = λ n. cond (is_copy (Extend (pair_size opc) 0)) n (unary_value (Extend (pair_size opc) 0) (bits_of X) n) in
      let all_values : List Value = a ∷ b ∷ m ∷ Num size ∷ u ∷ first ∷ Num (low n.0) ∷ second ∷ Num (low k.0) ∷ [] in
      unary_goes g (a ∷ b ∷ m ∷ Num size ∷ u ∷ first ∷ []) s
      (exec (symbolic g) (op.Read false rt2 ∷ op.Unary (Extend (pair_size opc) 0) X 7 ∷ op.Store size 6 at ∷ op.Store size 8 4 ∷ more)) (Extend (pair_size opc) 0) X 5 n.0 n.1
      (unary_goes g (a ∷ b ∷ m ∷ Num size ∷ u ∷ first ∷ Num (low n.0) ∷ second ∷ []) s (exec (symbolic g) (op.Store size 6 at ∷ op.Store size 8 4 ∷ more)) (Extend (pair_size opc) 0) X 7 k.0 k.1
      (store_goes g all_values s (exec (symbolic g) (op.Store size 8 4 ∷ more)) size 6 at (low n.0) v refl (is (first ∷ Num (low n.0) ∷ second ∷ Num (low k.0) ∷ [])) (reaches_inside s size v reached)
      (λ t keeps. store_goes g all_values t (exec (symbolic g) more) size 8 4 (low k.0) u refl refl (keeps size u (reaches_inside s size u also)) (λ t2 keeps2. all all_values t2))))
