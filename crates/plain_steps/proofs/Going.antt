-- Operations on numbers go on.
use Rattle.std.proofs.Common.{◌≡◌, ℕ, ◌*◌, ◌/◌, Bool, true, false, cond, ◌&&◌, List, [], ◌∷◌, ◌++◌, Option, Some, None, refl, sym, ap, ◌∙◌, subst}
use Rattle.std.specs.Prelude.{◌==◌, not, slice_index_or}
use Rattle.std.specs.Option.{option_map}
use Rattle.std.proofs.lemmas.Bool.{and_parts}
use Rattle.a64_inst.specs.declared.operations.Sum.{Sum}
use Rattle.a64_inst.specs.declared.operations.Sum.TheVariants.{Add, Subtract}
use Rattle.a64_inst.specs.declared.operations.Unary.{Unary}
use Rattle.a64_inst.specs.declared.operations.Binary.{Binary}
use Rattle.a64_inst.specs.declared.operations.Width.{Width}
use Rattle.a64_inst.specs.declared.operations.Width.TheVariants.{W, X}
use Rattle.a64_inst.specs.declared.operations.Op.{Op}
use Rattle.a64_inst.specs.declared.operations.Op.TheVariants as op
use Rattle.a64_inst.specs.Domain.{next, stuck, then_do, give, perform, exec}
use Rattle.a64_inst.specs.Numbers.{binary_value, bit_of, bits_of, carry_flags, chosen, holds, is_copy, logic_flags, named_flags, sum_value, sum_flags, unary_value}
use Rattle.sym_expr.specs.declared.cause.Cause.TheVariants.{Flag}
use Rattle.sym_expr.specs.declared.cause.Cause.TheVariants as causes
use Rattle.sym_expr.specs.declared.program.Program.{Program}
use Rattle.sym_expr.specs.declared.target.Target.{Target}
use Rattle.sym_expr.specs.declared.value.KnownFlags.{KnownFlags}
use Rattle.sym_expr.specs.declared.value.Value.{Value}
use Rattle.sym_expr.specs.declared.value.Value.TheVariants.{Num, At}
use Rattle.sym_expr.specs.States.{State}
use Rattle.sym_expr.specs.Symbolic.{Outcome, advanced, can_ask, carried_outcome, choose_outcome, flags_outcome, guessed, is_known, is_zero, join_low_outcome, jumped, known, of_numbers, or_stuck, other_outcome, sum_of, sum_outcome, symbolic, unary_outcome, with_flags}
use Rattle.plain_steps.specs.Plain.{all_known}
use Rattle.plain_steps.specs.Stuck.{is_stuck}

abbrev pub Goes : {A : Type 0} → Outcome A → Type 0
Goes o = not (is_stuck o) ≡ true

abbrev pub Onward : Type 0
Onward = List Value → State → Outcome State

pub either_goes : (g : Program) (b : Bool) (xs ys : List Op) (vs : List Value) (s : State) → Goes (exec (symbolic g) xs vs s) → Goes (exec (symbolic g) ys vs s) → Goes (exec (symbolic g) (cond b xs ys) vs s)
either_goes g true xs ys vs s x y = x
either_goes g false xs ys vs s x y = y

pub either_then_goes : (g : Program) (b : Bool) (xs ys more : List Op) (vs : List Value) (s : State) → Goes (exec (symbolic g) (xs ++ more) vs s) → Goes (exec (symbolic g) (ys ++ more) vs s)
    → Goes (exec (symbolic g) (cond b xs ys ++ more) vs s)
either_then_goes g true xs ys more vs s x y = x
either_then_goes g false xs ys more vs s x y = y

module _ (g : Program) (vs : List Value) (s : State) (go : Onward) where
  given : (o : Outcome Value) (k : ℕ) → o ≡ next (Num k) → Goes (go (vs ++ Num k ∷ []) s) → Goes (give o vs s go)
  given o k is h = subst (λ (x : Outcome Value). Goes (give x vs s go)) (sym is) h

  unary_of : (b : Bool) (f : Unary) (w : Width) (n : ℕ) → Goes (go (vs ++ Num (cond b n (unary_value f (bits_of w) n)) ∷ []) s) → Goes (give (cond b (next (Num n)) (unary_outcome f w (Num n))) vs s go)
  unary_of true f w n h = h
  unary_of false f w n h = h

  pub unary_goes : (f : Unary) (w : Width) (i n : ℕ) → slice_index_or vs i (Num 0) ≡ Num n → Goes (go (vs ++ Num (cond (is_copy f) n (unary_value f (bits_of w) n)) ∷ []) s)
      → Goes (perform (symbolic g) (op.Unary f w i) go vs s)
  unary_goes f w i n e h = subst (λ (v : Value). Goes (give (cond (is_copy f) (next v) (unary_outcome f w v)) vs s go)) (sym e) (unary_of (is_copy f) f w n h)

  pub binary_goes : (f : Binary) (w : Width) (i j m n : ℕ) → slice_index_or vs i (Num 0) ≡ Num m → slice_index_or vs j (Num 0) ≡ Num n → Goes (go (vs ++ Num (binary_value f (bits_of w) m n) ∷ []) s)
      → Goes (perform (symbolic g) (op.Binary f w i j) go vs s)
  binary_goes f w i j m n first second h =
      subst (λ (a : Value). Goes (give (of_numbers (λ m n. Num (binary_value f (bits_of w) m n)) a (slice_index_or vs j (Num 0))) vs s go)) (sym first)
      (subst (λ (b : Value). Goes (give (of_numbers (λ m n. Num (binary_value f (bits_of w) m n)) (Num m) b) vs s go)) (sym second) h)

three : (a b : Bool) (x y z : ℕ) → (k : ℕ) × (◌≡◌ {A = Outcome Value} (cond a (next (Num x)) (cond b (next (Num y)) (next (Num z)))) (next (Num k)))
three true b x y z = (x, refl)
three false true x y z = (y, refl)
three false false x y z = (z, refl)

pub sum_number : (g : Program) (sum : Sum) (w : Width) (m n : ℕ) → (k : ℕ) × (sum_outcome g sum w (Num m) (Num n) ≡ next (Num k))
sum_number g Add W m n = (sum_value Add 32 m n, refl)
sum_number g Subtract W m n = (sum_value Subtract 32 m n, refl)
sum_number g Add X m n = three (n == 0) (m == 0) m n (sum_value Add 64 m n)
sum_number g Subtract X m n = (sum_value Subtract 64 m n, refl)

two : (a : Bool) (x y : ℕ) → (k : ℕ) × (◌≡◌ {A = Outcome Value} (cond a (next (Num x)) (next (Num y))) (next (Num k)))
two true x y = (x, refl)
two false x y = (y, refl)

other_number : (g : Program) (inverted more : Bool) (b : ℕ) → (k : ℕ) × (other_outcome g inverted more (Num b) ≡ next (Num k))
other_number g true true b = (chosen true true 64 0 0 b, refl)
other_number g true false b = (chosen true false 64 0 0 b, refl)
other_number g false true b = sum_number g Add X b 1
other_number g false false b = (b, refl)

picked : (test : Bool) (o : Outcome Value) (k a : ℕ) → o ≡ next (Num k) → (n : ℕ) × (cond test o (next (Num a)) ≡ next (Num n))
picked true o k a is = (k, is)
picked false o k a is = (a, refl)

choose_number : (g : Program) (inverted more : Bool) (w : Width) (t a b : ℕ) → (k : ℕ) × (choose_outcome g inverted more w (Num t) (Num a) (Num b) ≡ next (Num k))
choose_number g inverted more W t a b = two (t == 0) (chosen inverted more 32 0 0 b) (chosen inverted more 32 1 a 0)
choose_number g inverted more X t a b =
    let other = other_number g inverted more b in
    picked (t == 0) (other_outcome g inverted more (Num b)) other.0 a other.1

flags_number : (s : State) (sum : Sum) (w : Width) (m n : ℕ) → (f : KnownFlags) × (flags_outcome s sum w (Num m) (Num n) ≡ next f)
flags_number s Add W m n = (known (sum_flags Add 32 m n), refl)
flags_number s Subtract W m n = (known (sum_flags Subtract 32 m n), refl)
flags_number s Add X m n = (known (sum_flags Add 64 m n), refl)
flags_number s Subtract X m n = (known (sum_flags Subtract 64 m n), refl)

carry_of : (vs : List Value) (s : State) (go : Onward) (c : Option Bool) → is_known c ≡ true → ((k : ℕ) → Goes (go (vs ++ Num k ∷ []) s)) → Goes (give (or_stuck Flag (option_map (λ c. Num (bit_of c)) c)) vs s go)
carry_of vs s go None e h = absurd (cc)
carry_of vs s go (Some c) e h = h (bit_of c)

-- with known flags each condition can be asked
asked : (b x : Bool) → x ≡ true → cond b true x ≡ true
asked true x e = refl
asked false x e = e

asked_of : (b x y : Bool) → x ≡ true → y ≡ true → cond b x y ≡ true
asked_of true x y p q = p
asked_of false x y p q = q

pub both_true : (a b : Bool) → a ≡ true → b ≡ true → a && b ≡ true
both_true a b p q = ap (λ (x : Bool). x && b) p ∙ q

pub known_can_ask : (which : ℕ) (f : KnownFlags) → all_known f ≡ true → can_ask which f ≡ true
known_can_ask which f all =
    let one = and_parts (is_known f.n) (is_known f.z && (is_known f.c && is_known f.v)) all in
    let rest = and_parts (is_known f.z) (is_known f.c && is_known f.v) one.1 in
    let last = and_parts (is_known f.c) (is_known f.v) rest.1 in
    let n = one.0 in
    let z = rest.0 in
    let c = last.0 in
    let v = last.1 in
    asked_of (which == 0) _ _ z (asked_of (which == 1) _ _ c (asked_of (which == 2) _ _ n (asked_of (which == 3) _ _ v
    (asked_of (which == 4) _ _ (both_true _ _ c z) (asked_of (which == 5) _ _ (both_true _ _ n v) (asked_of (which == 6) _ true (both_true _ _ n (both_true _ _ v z)) refl))))))

pub known_carry : (f : KnownFlags) → all_known f ≡ true → is_known f.c ≡ true
known_carry f all =
    let one = and_parts (is_known f.n) (is_known f.z && (is_known f.c && is_known f.v)) all in
    let rest = and_parts (is_known f.z) (is_known f.c && is_known f.v) one.1 in
    (and_parts (is_known f.c) (is_known f.v) rest.1).0

keep_of : (b : Bool) (x : State) (o : Outcome State) → Goes o → Goes (cond b (next x) o)
keep_of true x o h = refl
keep_of false x o h = h

tested_flags : (b : Bool) (x : Outcome State) (o : Outcome State) → Goes x → Goes o → Goes (cond b x o)
tested_flags true x o p q = p
tested_flags false x o p q = q

module _ (g : Program) (vs : List Value) (s : State) (go : Onward) where
  pub sum_goes : (sum : Sum) (w : Width) (i j m n : ℕ) → slice_index_or vs i (Num 0) ≡ Num m → slice_index_or vs j (Num 0) ≡ Num n → ((k : ℕ) → Goes (go (vs ++ Num k ∷ []) s))
      → Goes (perform (symbolic g) (op.Sum sum w i j) go vs s)
  sum_goes sum w i j m n first second h =
      let made = sum_number g sum w m n in
      subst (λ (a : Value). Goes (give (sum_outcome g sum w a (slice_index_or vs j (Num 0))) vs s go)) (sym first)
      (subst (λ (b : Value). Goes (give (sum_outcome g sum w (Num m) b) vs s go)) (sym second)
      (subst (λ (x : Outcome Value). Goes (give x vs s go)) (sym made.1) (h made.0)))

  pub choose_goes : (inverted more : Bool) (w : Width) (t i j n a b : ℕ) → slice_index_or vs t (Num 0) ≡ Num n → slice_index_or vs i (Num 0) ≡ Num a → slice_index_or vs j (Num 0) ≡ Num b
      → ((k : ℕ) → Goes (go (vs ++ Num k ∷ []) s)) → Goes (perform (symbolic g) (op.Choose inverted more w t i j) go vs s)
  choose_goes inverted more w t i j n a b test first second h =
      let made = choose_number g inverted more w n a b in
      subst (λ (x : Value). Goes (give (choose_outcome g inverted more w x (slice_index_or vs i (Num 0)) (slice_index_or vs j (Num 0))) vs s go)) (sym test)
      (subst (λ (x : Value). Goes (give (choose_outcome g inverted more w (Num n) x (slice_index_or vs j (Num 0))) vs s go)) (sym first)
      (subst (λ (x : Value). Goes (give (choose_outcome g inverted more w (Num n) (Num a) x) vs s go)) (sym second)
      (subst (λ (x : Outcome Value). Goes (give x vs s go)) (sym made.1) (h made.0))))

  -- joined with no expression: a number added to a number
  pub join_goes : (unit field i m : ℕ) → s.named ≡ None → slice_index_or vs i (Num 0) ≡ Num m → ((k : ℕ) → Goes (go (vs ++ Num k ∷ []) s)) → Goes (perform (symbolic g) (op.JoinLow unit field i) go vs s)
  join_goes unit field i m none first h =
      let made = sum_number g Add X m (field * unit) in
      subst (λ (named : Option Target). Goes (give (join_low_outcome g unit field (slice_index_or vs i (Num 0)) named) vs s go)) (sym none)
      (subst (λ (a : Value). Goes (give (sum_of g a (Num (field * unit))) vs s go)) (sym first)
      (subst (λ (x : Outcome Value). Goes (give x vs s go)) (sym made.1) (h made.0)))

  pub carry_goes : is_known s.flags.c ≡ true → ((k : ℕ) → Goes (go (vs ++ Num k ∷ []) s)) → Goes (perform (symbolic g) op.Carry go vs s)
  carry_goes e h = carry_of vs s go s.flags.c e h

  pub condition_goes : (c : ℕ) → all_known s.flags ≡ true → ((k : ℕ) → Goes (go (vs ++ Num k ∷ []) s)) → Goes (perform (symbolic g) (op.Condition c) go vs s)
  condition_goes c all h =
      subst (λ (b : Bool). Goes (give (cond b (next (Num (bit_of (holds c (guessed s.flags))))) (stuck Flag)) vs s go)) (sym (known_can_ask (c / 2) s.flags all)) (h (bit_of (holds c (guessed s.flags))))

  pub keep_goes : (r : ℕ) → Goes (go vs s) → Goes (perform (symbolic g) (op.Keep r) go vs s)
  keep_goes r h = keep_of (r == 31) (advanced g s) (go vs s) h

  pub flags_goes : (sum : Sum) (w : Width) (i j m n : ℕ) → slice_index_or vs i (Num 0) ≡ Num m → slice_index_or vs j (Num 0) ≡ Num n → ((f : KnownFlags) → Goes (go vs (with_flags s f)))
      → Goes (perform (symbolic g) (op.FlagsOfSum sum w i j) go vs s)
  flags_goes sum w i j m n first second h =
      let made = flags_number s sum w m n in
      subst (λ (a : Value). Goes (then_do (then_do (flags_outcome s sum w a (slice_index_or vs j (Num 0))) (λ f. next (with_flags s f))) (go vs))) (sym first)
      (subst (λ (b : Value). Goes (then_do (then_do (flags_outcome s sum w (Num m) b) (λ f. next (with_flags s f))) (go vs))) (sym second)
      (subst (λ (x : Outcome KnownFlags). Goes (then_do (then_do x (λ f. next (with_flags s f))) (go vs))) (sym made.1) (h made.0)))

  pub carry_flags_goes : (sum : Sum) (w : Width) (i j c m n k : ℕ) → slice_index_or vs i (Num 0) ≡ Num m → slice_index_or vs j (Num 0) ≡ Num n → slice_index_or vs c (Num 0) ≡ Num k
      → ((f : KnownFlags) → Goes (go vs (with_flags s f))) → Goes (perform (symbolic g) (op.FlagsOfCarry sum w i j c) go vs s)
  carry_flags_goes sum w i j c m n k first second third h =
      subst (λ (a : Value). Goes (then_do (then_do (carried_outcome sum w a (slice_index_or vs j (Num 0)) (slice_index_or vs c (Num 0))) (λ f. next (with_flags s f))) (go vs))) (sym first)
      (subst (λ (b : Value). Goes (then_do (then_do (carried_outcome sum w (Num m) b (slice_index_or vs c (Num 0))) (λ f. next (with_flags s f))) (go vs))) (sym second)
      (subst (λ (x : Value). Goes (then_do (then_do (carried_outcome sum w (Num m) (Num n) x) (λ f. next (with_flags s f))) (go vs))) (sym third) (h (known (carry_flags sum (bits_of w) m n k)))))

  pub logic_flags_goes : (w : Width) (i n : ℕ) → slice_index_or vs i (Num 0) ≡ Num n → ((f : KnownFlags) → Goes (go vs (with_flags s f))) → Goes (perform (symbolic g) (op.FlagsOfLogic w i) go vs s)
  logic_flags_goes w i n first h =
      subst (λ (a : Value). Goes (then_do ((symbolic g).flags_of_logic w a s) (go vs))) (sym first) (h (known (logic_flags (bits_of w) n)))

  pub flags_if_goes : (sum : Sum) (w : Width) (t i j m n nzcv : ℕ) → slice_index_or vs i (Num 0) ≡ Num m → slice_index_or vs j (Num 0) ≡ Num n → ((f : KnownFlags) → Goes (go vs (with_flags s f)))
      → Goes (perform (symbolic g) (op.FlagsIf sum w t i j nzcv) go vs s)
  flags_if_goes sum w t i j m n nzcv first second h =
      let made = flags_number s sum w m n in
      either_flags (is_zero (slice_index_or vs t (Num 0))) (known (named_flags nzcv)) (flags_outcome s sum w (slice_index_or vs i (Num 0)) (slice_index_or vs j (Num 0))) (h (known (named_flags nzcv)))
      (subst (λ (a : Value). Goes (then_do (then_do (flags_outcome s sum w a (slice_index_or vs j (Num 0))) (λ f. next (with_flags s f))) (go vs))) (sym first)
      (subst (λ (b : Value). Goes (then_do (then_do (flags_outcome s sum w (Num m) b) (λ f. next (with_flags s f))) (go vs))) (sym second)
      (subst (λ (x : Outcome KnownFlags). Goes (then_do (then_do x (λ f. next (with_flags s f))) (go vs))) (sym made.1) (h made.0))))
    where
      either_flags : (b : Bool) (f : KnownFlags) (o : Outcome KnownFlags) → Goes (go vs (with_flags s f)) → Goes (then_do (then_do o (λ f. next (with_flags s f))) (go vs))
          → Goes (then_do (cond b (next (with_flags s f)) (then_do o (λ f. next (with_flags s f)))) (go vs))
      either_flags true f o p q = p
      either_flags false f o p q = q
