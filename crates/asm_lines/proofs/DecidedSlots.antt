-- Whether a text is what a slot stands for.
use Rattle.std.proofs.Common.{◌≡◌, ◌⊎◌, ℕ, Option, Some, None, List, ◌∷◌, refl, ap, subst, ◌∙◌, inl, inr, arith, ℤ, pos, ◌-ℤ◌, ◌≤ℤ◌, option_map}
use Rattle.std.proofs.lemmas.Bool.{cases_eq, cases_lt}
use Rattle.std.proofs.lemmas.Int.{by_lt_z, ints}
use Rattle.a64_inst.specs.declared.kind.Operand.{Operand}
use Rattle.a64_inst.specs.Kinds.{operand}
use Rattle.a64_forms.specs.Number.{IsNumber, IsNumberWord}
use Rattle.a64_forms.specs.declared.form.Numbers.{Numbers}
use Rattle.a64_forms.specs.declared.form.Numbers.TheVariants.{Fitting, Any}
use Rattle.a64_forms.specs.declared.form.Slot.{Slot}
use Rattle.a64_forms.specs.declared.form.Slot.TheVariants as slots
use Rattle.a64_forms.specs.Bits.{IsMask, mask_of, number_bits, placed}
use Rattle.a64_forms.specs.Names.{named_bits, names_of}
use Rattle.a64_forms.specs.Spelling.{IsImmediate, IsMaskAs, IsMaskIn, IsMaskOf, IsNumberAs, IsNumberIn, IsNumberOf, IsSlot, Spelled, begins_name, spelled}
use Rattle.asm_lines.proofs.Decisions.{Decided, as_well, both_decided, either_decided, passes}
use Rattle.asm_lines.proofs.DecidedNumbers.{number_with, number_word}
use Rattle.asm_lines.proofs.Searches.{IsFirst, first_below, headed, some_with}

-- ---- what immediates give

module _ (P : ℤ → Type 0) (decide : (value : ℤ) → Decided (P value)) where
  abbrev Positive : List ℕ → Type 0
  Positive text = (digits : List ℕ) × (text ≡ 35 ∷ digits) × ((n : ℕ) × IsNumber digits n × P (pos n))

  abbrev Negative : List ℕ → Type 0
  Negative text = (rest : List ℕ) × (text ≡ 35 ∷ rest) × ((digits : List ℕ) × (rest ≡ 45 ∷ digits) × ((n : ℕ) × IsNumber digits n × P (pos 0 -ℤ pos n)))

  positive : (text : List ℕ) → Decided (Positive text)
  positive = headed 35 (λ digits. (n : ℕ) × IsNumber digits n × P (pos n)) (number_with (λ n. P (pos n)) (λ n. decide (pos n)))

  negative : (text : List ℕ) → Decided (Negative text)
  negative = headed 35 (λ rest. (digits : List ℕ) × (rest ≡ 45 ∷ digits) × ((n : ℕ) × IsNumber digits n × P (pos 0 -ℤ pos n)))
      (headed 45 (λ digits. (n : ℕ) × IsNumber digits n × P (pos 0 -ℤ pos n)) (number_with (λ n. P (pos 0 -ℤ pos n)) (λ n. decide (pos 0 -ℤ pos n))))

  immediate_with : (text : List ℕ) → Decided ((value : ℤ) × IsImmediate text value × P value)
  immediate_with text = as_well to back (either_decided (positive text) (negative text)) where
    to : Positive text ⊎ Negative text → (value : ℤ) × IsImmediate text value × P value
    to (inl x) = (pos x.2.0, (x.0, x.2.0, x.2.1, inl (x.1, refl)), x.2.2)
    to (inr x) = (pos 0 -ℤ pos x.2.2.0, (x.2.0, x.2.2.0, x.2.2.1, inr (x.1 ∙ ap (λ (l : List ℕ). 35 ∷ l) x.2.1, refl)), x.2.2.2)

    back : (value : ℤ) × IsImmediate text value × P value → Positive text ⊎ Negative text
    back (value, (digits, n, is, inl e), p) = inl (digits, e.0, (n, is, subst P e.1 p))
    back (value, (digits, n, is, inr e), p) = inr (45 ∷ digits, e.0, (digits, refl, (n, is, subst P e.1 p)))

-- ---- which bits are a mask's

mask_decided : (sf value fields : ℕ) → Decided (mask_of sf fields ≡ Some value)
mask_decided sf value fields = as_well
    (λ x. x.1 ∙ ap (λ (n : ℕ). Some n) x.2)
    (λ e. (value, e, refl))
    (some_with (λ n. n ≡ value) (λ n. cases_eq n value) (mask_of sf fields))

module _ (P : ℕ → Type 0) (decide : (bits : ℕ) → Decided (P bits)) (sf value : ℕ) where
  abbrev Spelling : ℕ → Type 0
  Spelling fields = mask_of sf fields ≡ Some value

  one_first : (bound m n : ℕ) → IsFirst Spelling bound m → IsFirst Spelling bound n → m ≡ n
  one_first bound m n p q = elim (cases_lt m n) [
    | inl less ↦ absurd (q.2 m less p.1)
    | inr more ↦ elim (cases_lt n m) [
      | inl less ↦ absurd (p.2 n less q.1)
      | inr most ↦ omega arith
    ]
  ]

  mask_with : Decided ((bits : ℕ) × IsMask sf value bits × P bits)
  mask_with = elim (first_below Spelling (mask_decided sf value) 8192) [
    | inl x ↦ as_well
        (λ p. (placed 10 x.0, (x.0, x.1.0, x.1.1, x.1.2, refl), p))
        (λ y. subst P (y.1.4 ∙ ap (placed 10) (one_first 8192 y.1.0 x.0 (y.1.1, y.1.2, y.1.3) x.1)) y.2)
        (decide (placed 10 x.0))
    | inr none ↦ inr (λ y. none y.1.0 y.1.1 y.1.2)
  ]

-- ---- what a slot stands for

at_most : (a b : ℤ) → Decided (a ≤ℤ b)
at_most a b = by_lt_z b a (λ lt. inr (λ le. absurd (omega (arith, ints)))) (λ le. inl le)

module _ (P : Spelled → Type 0) (decide : (s : Spelled) → Decided (P s)) where
  bits_with : (o : Option ℕ) → Decided ((bits : ℕ) × (o ≡ Some bits) × P (spelled bits None))
  bits_with = some_with (λ bits. P (spelled bits None)) (λ bits. decide (spelled bits None))

  number_of : (o : Operand) (text : List ℕ) → Decided ((s : Spelled) × IsNumberOf o text s × P s)
  unfolding IsNumberOf
  number_of o text = as_well
      (λ x. (spelled x.2.0 None, (x.0, x.1, x.2.1, refl), x.2.2))
      (λ x. (x.1.0, x.1.1, (x.0.bits, x.1.2, subst (λ t. P (spelled x.0.bits t)) x.1.3 x.2)))
      (immediate_with (λ value. (bits : ℕ) × (number_bits o value ≡ Some bits) × P (spelled bits None)) (λ value. bits_with (number_bits o value)) text)

  mask_of_text : (sf : ℕ) (text : List ℕ) → Decided ((s : Spelled) × IsMaskOf sf text s × P s)
  unfolding IsMaskOf
  mask_of_text sf text = as_well
      (λ x. (spelled x.2.2.0 None, (x.0, x.2.0, x.1, x.2.1, x.2.2.1, refl), x.2.2.2))
      (λ x. (x.1.0, x.1.2, (x.1.1, x.1.3, (x.0.bits, x.1.4, subst (λ t. P (spelled x.0.bits t)) x.1.5 x.2))))
      (headed 35 (λ digits. (value : ℕ) × IsNumber digits value × ((bits : ℕ) × IsMask sf value bits × P (spelled bits None)))
      (number_with (λ value. (bits : ℕ) × IsMask sf value bits × P (spelled bits None)) (mask_with (λ bits. P (spelled bits None)) (λ bits. decide (spelled bits None)) sf)) text)

  word_behind : (text : List ℕ) → Decided ((digits : List ℕ) × (text ≡ 35 ∷ digits) × IsNumberWord digits)
  word_behind = headed 35 (λ digits. IsNumberWord digits) number_word

  word_behind_minus : (text : List ℕ) → Decided ((rest : List ℕ) × (text ≡ 35 ∷ rest) × ((digits : List ℕ) × (rest ≡ 45 ∷ digits) × IsNumberWord digits))
  word_behind_minus = headed 35 (λ rest. (digits : List ℕ) × (rest ≡ 45 ∷ digits) × IsNumberWord digits) (headed 45 (λ digits. IsNumberWord digits) number_word)

  mask_in : (text : List ℕ) → Decided ((s : Spelled) × IsMaskIn text s × P s)
  unfolding IsMaskIn
  mask_in text = as_well
      (λ x. (spelled 0 None, (x.0.0, x.0.2, x.0.1, refl), x.1))
      (λ x. ((x.1.0, x.1.2, x.1.1), subst P x.1.3 x.2))
      (both_decided (word_behind text) (decide (spelled 0 None)))

  -- a number word, or one behind a minus sign where the operand takes it
  abbrev Taken : Operand → List ℕ → Type 0
  Taken o text = ((digits : List ℕ) × (text ≡ 35 ∷ digits) × IsNumberWord digits)
      ⊎ (((rest : List ℕ) × (text ≡ 35 ∷ rest) × ((digits : List ℕ) × (rest ≡ 45 ∷ digits) × IsNumberWord digits)) × (o.least ≤ℤ pos 0))

  taken : (o : Operand) (text : List ℕ) → Decided (Taken o text)
  taken o text = either_decided (word_behind text) (both_decided (word_behind_minus text) (at_most o.least (pos 0)))

  number_in : (o : Operand) (text : List ℕ) → Decided ((s : Spelled) × IsNumberIn o text s × P s)
  unfolding IsNumberIn
  number_in o text = as_well to back (both_decided (taken o text) (decide (spelled 0 None))) where
    to : Taken o text × P (spelled 0 None) → (s : Spelled) × IsNumberIn o text s × P s
    to (inl x, p) = (spelled 0 None, (x.0, x.2, inl x.1, refl), p)
    to (inr x, p) = (spelled 0 None, (x.0.2.0, x.0.2.2, inr (x.0.1 ∙ ap (λ (l : List ℕ). 35 ∷ l) x.0.2.1, x.1), refl), p)

    back : (s : Spelled) × IsNumberIn o text s × P s → Taken o text × P (spelled 0 None)
    back (s, (digits, is, inl e, same), p) = (inl (digits, e, is), subst P same p)
    back (s, (digits, is, inr e, same), p) = (inr ((45 ∷ digits, e.0, (digits, refl, is)), e.1), subst P same p)

  number_as : (n : Numbers) (o : Operand) (text : List ℕ) → Decided ((s : Spelled) × IsNumberAs n o text s × P s)
  number_as Fitting o text = number_of o text
  number_as Any o text = number_in o text

  mask_as : (n : Numbers) (sf : ℕ) (text : List ℕ) → Decided ((s : Spelled) × IsMaskAs n sf text s × P s)
  mask_as Fitting sf text = mask_of_text sf text
  mask_as Any sf text = mask_in text

  pub slot_with : (n : Numbers) (slot : Slot) (text : List ℕ) → Decided ((s : Spelled) × IsSlot n slot text s × P s)
  slot_with n (slots.Name list place) text = as_well
      (λ x. (spelled x.0 None, (x.1, refl), x.2))
      (λ x. (x.0.bits, x.1.0, subst (λ t. P (spelled x.0.bits t)) x.1.1 x.2))
      (bits_with (option_map (placed place) (named_bits (names_of list) text)))
  slot_with n (slots.Number o) text = number_as n o text
  slot_with n (slots.Distance kind) text = number_as n (operand kind) text
  slot_with n (slots.Mask sf) text = mask_as n sf text
  slot_with n (slots.Aim aim) text = as_well
      (λ x. (spelled 0 (Some (aim, text)), (x.0, refl), x.1))
      (λ x. (x.1.0, subst P x.1.1 x.2))
      (both_decided (passes (begins_name text)) (decide (spelled 0 (Some (aim, text)))))
