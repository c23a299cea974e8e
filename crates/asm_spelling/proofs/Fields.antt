-- The first fields of a logical immediate, and operands that take nothing.
use Rattle.std.proofs.Common.{◌≡◌, ◌⊎◌, ℕ, zero, suc, ℤ, ◌+◌, ◌<◌, ◌≤◌, Bool, true, false, cond, List, Option, Some, None, IfSome, IfNone, refl, sym, ap, subst, ◌∙◌, inl, inr, arith, add-one}
use lib.Dec.{eqb}
use Rattle.std.specs.List.{find, range_with_len}
use Rattle.std.specs.Option.{option_eq, option_map}
use Rattle.std.proofs.lemmas.Bool.{cases_Bool, cases_lt, cond-true, cond-false}
use Rattle.std.proofs.lemmas.Bool.Decides.{Decides-eqb}
use Rattle.a64_forms.specs.Bits.{IsMask, mask_of, placed}
use Rattle.asm_spelling.specs.Slots.{field_values, fields_of}

-- ---- the first of a range that passes

abbrev None_before : (ℕ → Bool) → ℕ → ℕ → Type 0
None_before p a f = (g : ℕ) → a ≤ g → g < f → p g ≡ true → ⊥

found_in : (p : ℕ → Bool) (n a f : ℕ) → a ≤ f → f < a + n → p f ≡ true → None_before p a f → find p (range_with_len a n) ≡ Some f
found_in p zero a f low high is none = absurd (omega arith)
found_in p (suc n) a f low high is none = elim (cases_Bool (p a)) [
  | inl here ↦
      elim (cases_lt a f) [
        | inl less ↦ absurd (none a (omega arith) less here)
        | inr more ↦ let same : a ≡ f = omega arith in cond-true (p a) (Some a) (find p (range_with_len (a + 1) n)) here ∙ ap (λ (x : ℕ). Some x) same
      ]
  | inr later ↦
      elim (cases_lt a f) [
        | inl less ↦ cond-false (p a) (Some a) (find p (range_with_len (a + 1) n)) later ∙ found_in p n (a + 1) f (omega arith) (omega arith) is (λ g l h e. none g (omega arith) h e)
        | inr more ↦
            let same : f ≡ a = omega arith in
            let wrong : true ≡ false = sym is ∙ ap p same ∙ later in
            absurd cc
      ]
]

abbrev IsFirst : (ℕ → Bool) → ℕ → ℕ → ℕ → Type 0
IsFirst p n a f = (f < a + n) × (p f ≡ true) × None_before p a f

first_in : (p : ℕ → Bool) (n a f : ℕ) → find p (range_with_len a n) ≡ Some f → IsFirst p n a f
first_in p zero a f e = absurd cc
first_in p (suc n) a f e = elim (cases_Bool (p a)) [
  | inl here ↦
      let same : Some a ≡ Some f = sym (cond-true (p a) (Some a) (find p (range_with_len (a + 1) n)) here) ∙ e in
      let at : a ≡ f = cc in
      (omega arith, subst (λ (x : ℕ). p x ≡ true) at here, λ g l h i. absurd (omega arith))
  | inr later ↦
      let r = first_in p n (a + 1) f (sym (cond-false (p a) (Some a) (find p (range_with_len (a + 1) n)) later) ∙ e) in (
        omega (arith, r.0),
        r.1,
        λ g l h i. elim (cases_lt a g) [
          | inl less ↦ r.2 g (omega arith) h i
          | inr more ↦
              let same : g ≡ a = omega arith in
              let wrong : true ≡ false = sym i ∙ ap p same ∙ later in
              absurd cc
        ],
      )
]

-- ---- masks

test_tells : (r : Option ℕ) (v : ℕ) → option_eq eqb r (Some v) ≡ true → r ≡ Some v
test_tells None v e = absurd cc
test_tells (Some x) v e = ap (λ (y : ℕ). Some y) ((Decides-eqb x v).0 e)

tells_test : (r : Option ℕ) (v : ℕ) → r ≡ Some v → option_eq eqb r (Some v) ≡ true
tells_test r v e = subst (λ (o : Option ℕ). option_eq eqb o (Some v) ≡ true) (sym e) ((Decides-eqb v v).1 refl)

values_are : field_values ≡ 8192
unfolding field_values
values_are = refl

pub fields_found : (sf value bits : ℕ) → IsMask sf value bits → option_map (placed 10) (fields_of sf value) ≡ Some bits
fields_found sf value bits is =
    let small : is.0 < field_values = subst (λ (n : ℕ). is.0 < n) (sym values_are) is.1 in
    let below : is.0 < 0 + field_values = omega arith in
    let e = found_in (λ f. option_eq eqb (mask_of sf f) (Some value)) field_values 0 is.0 (omega arith) below (tells_test (mask_of sf is.0) value is.2) (λ g l h i. is.3 g h (test_tells (mask_of sf g) value i)) in
    ap (option_map (placed 10)) e ∙ ap (λ (b : ℕ). Some b) (sym is.4)

pub fields_is : (sf value f : ℕ) → fields_of sf value ≡ Some f → IsMask sf value (placed 10 f)
fields_is sf value f e =
    let r = first_in (λ g. option_eq eqb (mask_of sf g) (Some value)) field_values 0 f e in
    let small : f < field_values = omega (arith, r.0) in
    (f, subst (λ (n : ℕ). f < n) values_are small, test_tells (mask_of sf f) value r.1, λ g h i. r.2 g (omega arith) h (tells_test (mask_of sf g) value i), refl)

no_option : (r : Option ℕ) → ((f : ℕ) → r ≡ Some f → ⊥) → r ≡ None
no_option None h = refl
no_option (Some f) h = absurd (h f refl)

pub no_fields : (sf value : ℕ) → ((bits : ℕ) → IsMask sf value bits → ⊥) → fields_of sf value ≡ None
no_fields sf value none = no_option (fields_of sf value) (λ f e. none (placed 10 f) (fields_is sf value f e))

pub bits_are : (sf value : ℕ) (r : Option ℕ) → IfSome r (IsMask sf value) → IfNone r ((bits : ℕ) → IsMask sf value bits → ⊥) → r ≡ option_map (placed 10) (fields_of sf value)
bits_are sf value (Some b) some none = sym (fields_found sf value b some)
bits_are sf value None some none = sym (ap (option_map (placed 10)) (no_fields sf value none))
