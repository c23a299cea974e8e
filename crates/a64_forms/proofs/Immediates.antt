-- Immediates by what stands behind `#`.
use Rattle.std.proofs.Common.{◌≡◌, ◌⊎◌, ◌↔◌, ℕ, ℤ, pos, ◌-ℤ◌, Bool, true, false, IsTrue, List, [], ◌∷◌, Option, Some, None, IfSome, IfNone, sym, ap, subst, refl, ◌∙◌, inl, inr, arith}
use Rattle.std.specs.Prelude.{◌≤ℤ◌}
use Rattle.a64_inst.specs.declared.kind.Operand.{Operand}
use Rattle.a64_forms.specs.Bits.{IsMask, number_bits}
use Rattle.a64_forms.specs.Number.{IsNumber, IsNumberWord, IsDecimal, IsHexadecimal}
use Rattle.a64_forms.specs.declared.form.Numbers.{Numbers}
use Rattle.a64_forms.specs.declared.form.Numbers.TheVariants.{Any}
use Rattle.a64_forms.specs.Spelling.{IsImmediate, IsMaskAs, IsMaskIn, IsMaskOf, IsNumberAs, IsNumberIn, IsNumberOf, Spelled, spelled}

pub heads : (a b : ℕ) (xs ys : List ℕ) → a ∷ xs ≡ b ∷ ys → a ≡ b
heads a b xs ys e = cc

pub tails : (a b : ℕ) (xs ys : List ℕ) → a ∷ xs ≡ b ∷ ys → xs ≡ ys
tails a b xs ys e = cc

pub values : {A : Type 0} (a b : A) → Some a ≡ Some b → a ≡ b
values a b e = cc

pub unlike : {A : Type 0} (a : A) → None ≡ Some a → ⊥
unlike a e = absurd cc

-- digits have no sign
pub no_minus : (digits : List ℕ) (n : ℕ) → IsNumber (45 ∷ digits) n → ⊥
no_minus digits n is = elim is.0 [
  | inl d ↦ let first = d.numeral.1.0 in absurd (omega (arith, first))
  | inr h ↦ let e : 45 ≡ 48 = heads 45 48 _ _ h.spelled in absurd (omega (arith, e))
]

-- what a number reads of digits, with a sign or without
abbrev pub Reads : Option ℤ → (ℕ → ℤ) → List ℕ → Type 0
Reads r sign digits = (value : ℤ) → (r ≡ Some value) ↔ ((n : ℕ) × IsNumber digits n × (value ≡ sign n))

pub reads_some : (sign : ℕ → ℤ) (digits : List ℕ) (k : ℕ) (v : ℤ) → ((n : ℕ) → (Some k ≡ Some n) ↔ IsNumber digits n) → v ≡ sign k → Reads (Some v) sign digits
reads_some sign digits k v read e value = (
  λ a. (k, (read k).0 refl, sym (values v value a) ∙ e),
  λ p. let same : k ≡ p.0 = values k p.0 ((read p.0).1 p.1) in ap (λ (w : ℤ). Some w) (e ∙ ap sign same ∙ sym p.2),
)

pub reads_none : (sign : ℕ → ℤ) (digits : List ℕ) → ((n : ℕ) → (None ≡ Some n) ↔ IsNumber digits n) → Reads None sign digits
reads_none sign digits read value = (
  λ a. absurd (unlike value a),
  λ p. absurd (unlike p.0 ((read p.0).1 p.1)),
)

pub minus_reads : (text digits : List ℕ) (r : Option ℤ) → text ≡ 35 ∷ 45 ∷ digits → Reads r (λ n. pos 0 -ℤ pos n) digits → (value : ℤ) → (r ≡ Some value) ↔ IsImmediate text value
minus_reads text digits r e reads value = (
  λ a. let p = (reads value).0 a in (digits, p.0, p.1, inr (e, p.2)),
  λ i. elim i.3 [
    | inl p ↦
        let same : i.0 ≡ 45 ∷ digits = tails 35 35 i.0 (45 ∷ digits) (sym p.0 ∙ e) in
        let is : IsNumber (45 ∷ digits) i.1 = subst (λ (ds : List ℕ). IsNumber ds i.1) same i.2 in
        absurd (no_minus digits i.1 is)
    | inr p ↦
        let same : i.0 ≡ digits = tails 45 45 i.0 digits (tails 35 35 (45 ∷ i.0) (45 ∷ digits) (sym p.0 ∙ e)) in
        let is : IsNumber digits i.1 = subst (λ (ds : List ℕ). IsNumber ds i.1) same i.2 in
        (reads value).1 (i.1, is, p.1)
  ],
)

pub plus_reads : (text digits : List ℕ) (r : Option ℤ) → ((rest : List ℕ) → text ≡ 35 ∷ 45 ∷ rest → ⊥) → text ≡ 35 ∷ digits → Reads r (λ n. pos n) digits → (value : ℤ) → (r ≡ Some value) ↔ IsImmediate text value
plus_reads text digits r other e reads value = (
  λ a. let p = (reads value).0 a in (digits, p.0, p.1, inl (e, p.2)),
  λ i. elim i.3 [
    | inl p ↦
        let same : i.0 ≡ digits = tails 35 35 i.0 digits (sym p.0 ∙ e) in
        let is : IsNumber digits i.1 = subst (λ (ds : List ℕ). IsNumber ds i.1) same i.2 in
        (reads value).1 (i.1, is, p.1)
    | inr p ↦ absurd (other i.0 p.0)
  ],
)

-- an operand takes one value of a text at most
pub number_some : (o : Operand) (text : List ℕ) (v : ℤ) (r : Option ℕ) → ((w : ℤ) → (Some v ≡ Some w) ↔ IsImmediate text w) → r ≡ number_bits o v → IfSome r (λ bits. IsNumberOf o text (spelled bits None))
unfolding IsNumberOf
number_some o text v None read e = tt
number_some o text v (Some b) read e = (v, (read v).0 refl, sym e, refl)

pub number_none : (o : Operand) (text : List ℕ) (v : ℤ) (r : Option ℕ) → ((w : ℤ) → (Some v ≡ Some w) ↔ IsImmediate text w) → r ≡ number_bits o v → IfNone r ((s : Spelled) → IsNumberOf o text s → ⊥)
unfolding IsNumberOf
number_none o text v (Some b) read e = tt
number_none o text v None read e = λ s p.
    let same : v ≡ p.0 = values v p.0 ((read p.0).1 p.1) in
    absurd (unlike s.bits (e ∙ ap (number_bits o) same ∙ p.2))

pub no_number : (o : Operand) (text : List ℕ) → ((w : ℤ) → (None ≡ Some w) ↔ IsImmediate text w) → (s : Spelled) → IsNumberOf o text s → ⊥
unfolding IsNumberOf
no_number o text read s p = unlike p.0 ((read p.0).1 p.1)

-- a text spells one mask at most
pub mask_some : (sf : ℕ) (text digits : List ℕ) (v : ℕ) (r : Option ℕ) → text ≡ 35 ∷ digits → ((n : ℕ) → (Some v ≡ Some n) ↔ IsNumber digits n) → IfSome r (IsMask sf v) → IfSome r (λ bits. IsMaskOf sf text (spelled bits None))
unfolding IsMaskOf
mask_some sf text digits v None e read is = tt
mask_some sf text digits v (Some b) e read is = (digits, v, e, (read v).0 refl, is, refl)

pub mask_none : (sf : ℕ) (text digits : List ℕ) (v : ℕ) (r : Option ℕ) → text ≡ 35 ∷ digits → ((n : ℕ) → (Some v ≡ Some n) ↔ IsNumber digits n) → IfNone r ((bits : ℕ) → IsMask sf v bits → ⊥) → IfNone r ((s : Spelled) → IsMaskOf sf text s → ⊥)
unfolding IsMaskOf
mask_none sf text digits v (Some b) e read none = tt
mask_none sf text digits v None e read none = λ s p.
    let same : p.0 ≡ digits = tails 35 35 p.0 digits (sym p.2 ∙ e) in
    let is : IsNumber digits p.1 = subst (λ (ds : List ℕ). IsNumber ds p.1) same p.3 in
    let value : v ≡ p.1 = values v p.1 ((read p.1).1 is) in
    none s.bits (subst (λ (n : ℕ). IsMask sf n s.bits) (sym value) p.4)

pub no_digits : (sf : ℕ) (text : List ℕ) → ((rest : List ℕ) → text ≡ 35 ∷ rest → ⊥) → (s : Spelled) → IsMaskOf sf text s → ⊥
unfolding IsMaskOf
no_digits sf text other s p = other p.0 p.2

pub no_mask : (sf : ℕ) (text digits : List ℕ) → text ≡ 35 ∷ digits → ((n : ℕ) → (None ≡ Some n) ↔ IsNumber digits n) → (s : Spelled) → IsMaskOf sf text s → ⊥
unfolding IsMaskOf
no_mask sf text digits e read s p =
    let same : p.0 ≡ digits = tails 35 35 p.0 digits (sym p.2 ∙ e) in
    let is : IsNumber digits p.1 = subst (λ (ds : List ℕ). IsNumber ds p.1) same p.3 in
    unlike p.1 ((read p.1).1 is)

-- ---- any number word in an operand's place

no_minus_word : (digits : List ℕ) → IsNumberWord (45 ∷ digits) → ⊥
no_minus_word digits is = elim is [
  | inl d ↦ let first = d.1.0 in absurd (omega (arith, first))
  | inr h ↦ let e : 45 ≡ 48 = heads 45 48 _ _ h.1 in absurd (omega (arith, e))
]

pub minus_in : (o : Operand) (text digits : List ℕ) (b : Bool) → text ≡ 35 ∷ 45 ∷ digits → (IsTrue b ↔ ((o.least ≤ℤ pos 0) × IsNumberWord digits)) → IsTrue b ↔ IsNumberIn o text (spelled 0 None)
unfolding IsNumberIn
minus_in o text digits b e test = (
  λ t. let q = test.0 t in (digits, q.1, inr (e, q.0), refl),
  λ p. elim p.2 [
    | inl q ↦ absurd (no_minus_word digits (subst IsNumberWord (tails 35 35 p.0 (45 ∷ digits) (sym q ∙ e)) p.1))
    | inr q ↦ test.1 (q.1, subst IsNumberWord (tails 45 45 p.0 digits (tails 35 35 (45 ∷ p.0) (45 ∷ digits) (sym q.0 ∙ e))) p.1)
  ],
)

pub plus_in : (o : Operand) (text digits : List ℕ) (b : Bool) → ((rest : List ℕ) → text ≡ 35 ∷ 45 ∷ rest → ⊥) → text ≡ 35 ∷ digits → (IsTrue b ↔ IsNumberWord digits) → IsTrue b ↔ IsNumberIn o text (spelled 0 None)
unfolding IsNumberIn
plus_in o text digits b other e test = (
  λ t. (digits, test.0 t, inl e, refl),
  λ p. elim p.2 [
    | inl q ↦ test.1 (subst IsNumberWord (tails 35 35 p.0 digits (sym q ∙ e)) p.1)
    | inr q ↦ absurd (other p.0 q.0)
  ],
)

pub neither_in : (o : Operand) (text : List ℕ) → ((rest : List ℕ) → text ≡ 35 ∷ 45 ∷ rest → ⊥) → ((rest : List ℕ) → text ≡ 35 ∷ rest → ⊥) → IsTrue false ↔ IsNumberIn o text (spelled 0 None)
unfolding IsNumberIn
neither_in o text minus plus = (λ t. cc, λ p. elim p.2 [ inl q ↦ absurd (plus p.0 q) | inr q ↦ absurd (minus p.0 q.0) ])

pub mask_in : (text digits : List ℕ) (b : Bool) → text ≡ 35 ∷ digits → (IsTrue b ↔ IsNumberWord digits) → IsTrue b ↔ IsMaskIn text (spelled 0 None)
unfolding IsMaskIn
mask_in text digits b e test = (
  λ t. (digits, test.0 t, e, refl),
  λ p. test.1 (subst IsNumberWord (tails 35 35 p.0 digits (sym p.2 ∙ e)) p.1),
)

pub no_mask_in : (text : List ℕ) → ((rest : List ℕ) → text ≡ 35 ∷ rest → ⊥) → IsTrue false ↔ IsMaskIn text (spelled 0 None)
unfolding IsMaskIn
no_mask_in text other = (λ t. cc, λ p. absurd (other p.0 p.2))

pub no_other_number : (o : Operand) (text : List ℕ) → (IsNumberIn o text (spelled 0 None) → ⊥) → (s : Spelled) → IsNumberIn o text s → ⊥
unfolding IsNumberIn
no_other_number o text none s p = none (p.0, p.1, p.2, refl)

pub no_other_mask : (text : List ℕ) → (IsMaskIn text (spelled 0 None) → ⊥) → (s : Spelled) → IsMaskIn text s → ⊥
unfolding IsMaskIn
no_other_mask text none s p = none (p.0, p.1, p.2, refl)

-- where the test of a number word fails, nothing is there
pub no_number_as : (n : Numbers) (o : Operand) (text : List ℕ) (b : Bool) → n ≡ Any → b ≡ false → (IsTrue b ↔ IsNumberIn o text (spelled 0 None)) → (s : Spelled) → IsNumberAs n o text s → ⊥
no_number_as n o text b any fails test s p =
    no_other_number o text (λ q. let yes : b ≡ true = test.1 q in absurd cc) s (subst (λ (m : Numbers). IsNumberAs m o text s) any p)

pub no_mask_as : (n : Numbers) (sf : ℕ) (text : List ℕ) (b : Bool) → n ≡ Any → b ≡ false → (IsTrue b ↔ IsMaskIn text (spelled 0 None)) → (s : Spelled) → IsMaskAs n sf text s → ⊥
no_mask_as n sf text b any fails test s p =
    no_other_mask text (λ q. let yes : b ≡ true = test.1 q in absurd cc) s (subst (λ (m : Numbers). IsMaskAs m sf text s) any p)
