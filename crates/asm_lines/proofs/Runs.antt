-- Runs of bytes of a class.
use Rattle.std.proofs.Common.{◌≡◌, ◌⊎◌, ◌↔◌, ℕ, ◌+◌, ◌-◌, ◌<◌, Bool, true, false, ◌&&◌, ◌||◌, not, IsTrue, List, [], ◌∷◌, ◌++◌, length, take, drop, refl, sym, ap, subst, ◌∙◌, append_assoc, inl, inr, arith}
use Rattle.std.specs.Char.{digit_value, is_ascii_digit}
use Rattle.std.specs.List.{list_all}
use Rattle.std.specs.Str.Parse.{AllDigits}
use Rattle.std.proofs.lemmas.List.{append-nil, drop_at, length-append, take_at}
use Rattle.std.proofs.lemmas.List.Folds.{list_all-append}
use Rattle.std.proofs.lemmas.Str.Parse.{digit_from_value}
use Rattle.asm_lines.specs.declared.run.Class.{Class}
use Rattle.asm_lines.specs.declared.run.Class.TheVariants.{Bare, Digit}
use Rattle.asm_lines.specs.Labels.{EndsLabel, IsBare, Stops, begins_bare, belongs}
use Rattle.asm_lines.proofs.Escapes.{heads, tails}

pub both_true : (a b : Bool) → (a && b) ≡ true → (a ≡ true) × (b ≡ true)
both_true true b e = (refl, e)
both_true false b e = cc

pub and_true : (a b : Bool) → a ≡ true → b ≡ true → (a && b) ≡ true
and_true true b e f = f
and_true false b e f = cc

left_true : (a b : Bool) → a ≡ true → (a || b) ≡ true
left_true true b e = refl
left_true false b e = cc

no_contrary : (a : Bool) → not a ≡ true → a ≡ true → ⊥
no_contrary true e f = cc
no_contrary false e f = cc

-- a test that failed
pub fails : {P : Type 0} (b : Bool) → (IsTrue b ↔ P) → b ≡ false → P → ⊥
fails b h e p = let yes : b ≡ true = h.1 p in cc

abbrev pub All : Class → List ℕ → Type 0
All class bytes = list_all (λ b. belongs class b) bytes ≡ true

-- so far these bytes belong to the class
abbrev pub HasRun : Class → (text rest : List ℕ) → Type 0
HasRun class text rest = (front : List ℕ) × (text ≡ front ++ rest) × All class front

pub longer_run : (class : Class) (text rest behind : List ℕ) (byte : ℕ) → HasRun class text rest → rest ≡ byte ∷ behind → belongs class byte ≡ true → HasRun class text behind
longer_run class text rest behind byte h e is = (
  h.0 ++ byte ∷ [],
  h.1 ∙ ap (λ (t : List ℕ). h.0 ++ t) e ∙ sym (append_assoc h.0 (byte ∷ []) behind),
  list_all-append (λ b. belongs class b) h.0 (byte ∷ []) ∙ and_true (list_all (λ b. belongs class b) h.0) (belongs class byte && true) h.2 (and_true (belongs class byte) true is refl),
)

front_length : (front rest text : List ℕ) → text ≡ front ++ rest → length front ≡ length text - length rest
front_length front rest text e = let n : length text ≡ length front + length rest = ap length e ∙ length-append front rest in omega arith

pub front_of_run : (class : Class) (text rest front : List ℕ) → HasRun class text rest → front ≡ take (length text - length rest) text → All class front
front_of_run class text rest front h e =
    let same : take (length text - length rest) text ≡ h.0 = ap (take (length text - length rest)) h.1 ∙ take_at h.0 rest (length text - length rest) (front_length h.0 rest text h.1) in
    subst (All class) (sym (e ∙ same)) h.2

pub rest_of_run : (class : Class) (text rest back : List ℕ) → HasRun class text rest → back ≡ drop (length text - length rest) text → back ≡ rest
rest_of_run class text rest back h e = e ∙ ap (drop (length text - length rest)) h.1 ∙ drop_at h.0 rest (length text - length rest) (front_length h.0 rest text h.1)

pub stops_at : (class : Class) (rest behind : List ℕ) (byte : ℕ) → rest ≡ byte ∷ behind → belongs class byte ≡ false → Stops class rest
stops_at class rest behind byte e is = subst (Stops class) (sym e) (ap (λ (g : Bool). not g) is)

pub stops_empty : (class : Class) (rest : List ℕ) → length rest ≡ 0 → Stops class rest
stops_empty class [] e = tt
stops_empty class (b ∷ rest) e = absurd (omega (arith, e))

pub whole_run : (class : Class) (text rest : List ℕ) → HasRun class text rest → length rest ≡ 0 → All class text
whole_run class text [] h e = subst (All class) (sym (h.1 ∙ append-nil h.0)) h.2
whole_run class text (b ∷ rest) h e = absurd (omega (arith, e))

pub parts_at_end : (text rest : List ℕ) → length rest ≡ 0 → text ≡ text ++ rest
parts_at_end text [] e = sym (append-nil text)
parts_at_end text (b ∷ rest) e = absurd (omega (arith, e))

-- a text has one run and one rest
pub one_run : (class : Class) (a b x y : List ℕ) → All class a → All class b → Stops class x → Stops class y → a ++ x ≡ b ++ y → (a ≡ b) × (x ≡ y)
one_run class [] [] x y h k s t e = (refl, e)
one_run class [] (c ∷ b) x y h k s t e =
    let q = both_true (belongs class c) (list_all (λ d. belongs class d) b) k in
    absurd (no_contrary (belongs class c) (subst (Stops class) e s) q.0)
one_run class (c ∷ a) [] x y h k s t e =
    let q = both_true (belongs class c) (list_all (λ d. belongs class d) a) h in
    absurd (no_contrary (belongs class c) (subst (Stops class) (sym e) t) q.0)
one_run class (c ∷ a) (d ∷ b) x y h k s t e =
    let q = both_true (belongs class c) (list_all (λ f. belongs class f) a) h in
    let r = both_true (belongs class d) (list_all (λ f. belongs class f) b) k in
    let one = one_run class a b x y q.1 r.1 s t (tails c d (a ++ x) (b ++ y) e) in
    (ap (λ (n : ℕ). n ∷ a) (heads c d (a ++ x) (b ++ y) e) ∙ ap (λ (t : List ℕ). d ∷ t) one.0, one.1)

pub all_of_bare : (word : List ℕ) → IsBare word → All Bare word
all_of_bare [] is = absurd is
all_of_bare (b ∷ bytes) is = and_true (begins_bare b || is_ascii_digit b) (list_all (λ c. belongs Bare c) bytes) (left_true (begins_bare b) (is_ascii_digit b) is.0) is.1

pub bare_by_first : (word rest : List ℕ) (first : ℕ) (r : Bool) → word ≡ first ∷ rest → All Bare word → r ≡ begins_bare first → IsTrue r ↔ IsBare word
bare_by_first word rest first r e all is = (
  λ t. subst IsBare (sym e) (sym is ∙ t, (both_true (belongs Bare first) (list_all (λ c. belongs Bare c) rest) (subst (All Bare) e all)).1),
  λ p. let q = subst IsBare e p in is ∙ q.0,
)

pub digits_are : (digits : List ℕ) → AllDigits 10 digits → All Digit digits
digits_are [] all = refl
digits_are (d ∷ digits) all = and_true (is_ascii_digit d) (list_all (λ c. belongs Digit c) digits) (digit d all.0) (digits_are digits all.1)
  where
    digit : (d : ℕ) → digit_value d < 10 → is_ascii_digit d ≡ true
    digit d h = let range = digit_from_value d h in grind arith

pub label_stops_bare : (rest : List ℕ) → EndsLabel rest → Stops Bare rest
label_stops_bare [] ends = tt
label_stops_bare (b ∷ rest) ends = elim ends [ inl e ↦ subst (λ (n : ℕ). Stops Bare (n ∷ rest)) (sym e) refl | inr e ↦ subst (λ (n : ℕ). Stops Bare (n ∷ rest)) (sym e) refl ]

pub label_stops_digit : (rest : List ℕ) → EndsLabel rest → Stops Digit rest
label_stops_digit [] ends = tt
label_stops_digit (b ∷ rest) ends = elim ends [ inl e ↦ subst (λ (n : ℕ). Stops Digit (n ∷ rest)) (sym e) refl | inr e ↦ subst (λ (n : ℕ). Stops Digit (n ∷ rest)) (sym e) refl ]
