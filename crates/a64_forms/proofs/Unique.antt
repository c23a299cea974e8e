-- A line spells one word at most by each form.
use Rattle.std.proofs.Common.{◌≡◌, ℕ, ℤ, pos, ◌-ℤ◌, ◌<◌, List, [], ◌∷◌, ◌++◌, Option, Some, None, sym, ap, subst, ◌∙◌, inl, inr, arith}
use Rattle.std.proofs.lemmas.Bool.{cases_lt}
use Rattle.std.proofs.lemmas.List.{append_cancel_left, append_cancel_right}
use Rattle.std.specs.Str.Parse.{IsNumeral, digits_value}
use Rattle.a64_inst.specs.declared.kind.Operand.{Operand}
use Rattle.a64_inst.specs.Kinds.{operand}
use Rattle.a64_forms.specs.declared.form.Slot.{Slot}
use Rattle.a64_forms.specs.declared.form.Slot.TheVariants as slots
use Rattle.a64_forms.specs.Bits.{IsMask, number_bits, placed}
use Rattle.a64_forms.specs.Number.{IsDecimal, IsHexadecimal, IsNumber}
use Rattle.a64_forms.specs.declared.form.Numbers.{Numbers}
use Rattle.a64_forms.specs.declared.form.Numbers.TheVariants.{Fitting, Any}
use Rattle.a64_forms.specs.Spelling.{ArePieces, IsImmediate, IsMaskAs, IsMaskIn, IsMaskOf, IsNumberAs, IsNumberIn, IsNumberOf, IsPiece, IsSlot, Piece, Spelled, both, spelled}
use Rattle.a64_forms.proofs.Immediates.{no_minus, tails, values}

-- decimal digits are no hexadecimal numeral
no_mixture : (word : List ℕ) (m n : ℕ) → IsDecimal word m → IsHexadecimal word n → ⊥
no_mixture word m n d h =
    let numeral : IsNumeral 10 (48 ∷ 120 ∷ h.digits) = subst (λ (w : List ℕ). IsNumeral 10 w) h.spelled d.numeral in
    let second = numeral.1.1.0 in
    absurd (omega (arith, second))

pub one_number : (word : List ℕ) (m n : ℕ) → IsNumber word m → IsNumber word n → m ≡ n
one_number word m n a b = elim a.0 [
  | inl d ↦ elim b.0 [
    | inl e ↦ d.value ∙ sym e.value
    | inr h ↦ absurd (no_mixture word m n d h)
  ]
  | inr h ↦ elim b.0 [
    | inl d ↦ absurd (no_mixture word n m d h)
    | inr k ↦
        let same : h.digits ≡ k.digits = tails 120 120 h.digits k.digits (tails 48 48 (120 ∷ h.digits) (120 ∷ k.digits) (sym h.spelled ∙ k.spelled)) in
        h.value ∙ ap (digits_value 16) same ∙ sym k.value
  ]
]

-- a text of other digits
along : (xs ys : List ℕ) (m n : ℕ) → xs ≡ ys → IsNumber xs m → IsNumber ys n → m ≡ n
along xs ys m n e a b = one_number ys m n (subst (λ (w : List ℕ). IsNumber w m) e a) b

pub one_value : (text : List ℕ) (v w : ℤ) → IsImmediate text v → IsImmediate text w → v ≡ w
one_value text v w i j = elim i.3 [
  | inl p ↦ elim j.3 [
    | inl q ↦ p.1 ∙ ap (λ (n : ℕ). pos n) (along i.0 j.0 i.1 j.1 (tails 35 35 i.0 j.0 (sym p.0 ∙ q.0)) i.2 j.2) ∙ sym q.1
    | inr q ↦ absurd (no_minus j.0 i.1 (subst (λ (w : List ℕ). IsNumber w i.1) (tails 35 35 i.0 (45 ∷ j.0) (sym p.0 ∙ q.0)) i.2))
  ]
  | inr p ↦ elim j.3 [
    | inl q ↦ absurd (no_minus i.0 j.1 (subst (λ (w : List ℕ). IsNumber w j.1) (tails 35 35 j.0 (45 ∷ i.0) (sym q.0 ∙ p.0)) j.2))
    | inr q ↦ p.1 ∙ ap (λ (n : ℕ). pos 0 -ℤ pos n) (along i.0 j.0 i.1 j.1 (tails 45 45 i.0 j.0 (tails 35 35 (45 ∷ i.0) (45 ∷ j.0) (sym p.0 ∙ q.0))) i.2 j.2) ∙ sym q.1
  ]
]

same_spelled : (s t : Spelled) → s.bits ≡ t.bits → s.target ≡ t.target → s ≡ t
same_spelled s t e f = ap (λ (b : ℕ). spelled b s.target) e ∙ ap (λ x. spelled t.bits x) f

one_number_of : (o : Operand) (text : List ℕ) (s t : Spelled) → IsNumberOf o text s → IsNumberOf o text t → s ≡ t
unfolding IsNumberOf
one_number_of o text s t p q =
    let same : p.0 ≡ q.0 = one_value text p.0 q.0 p.1 q.1 in
    same_spelled s t (values s.bits t.bits (sym p.2 ∙ ap (number_bits o) same ∙ q.2)) (p.3 ∙ sym q.3)

one_mask : (sf v b c : ℕ) → IsMask sf v b → IsMask sf v c → b ≡ c
one_mask sf v b c p q = elim (cases_lt p.0 q.0) [
  | inl less ↦ absurd (q.3 p.0 less p.2)
  | inr more ↦ elim (cases_lt q.0 p.0) [
    | inl less ↦ absurd (p.3 q.0 less q.2)
    | inr most ↦ let same : p.0 ≡ q.0 = omega arith in p.4 ∙ ap (placed 10) same ∙ sym q.4
  ]
]

one_mask_of : (sf : ℕ) (text : List ℕ) (s t : Spelled) → IsMaskOf sf text s → IsMaskOf sf text t → s ≡ t
unfolding IsMaskOf
one_mask_of sf text s t p q =
    let same : p.1 ≡ q.1 = along p.0 q.0 p.1 q.1 (tails 35 35 p.0 q.0 (sym p.2 ∙ q.2)) p.3 q.3 in
    let mask : IsMask sf q.1 s.bits = subst (λ (n : ℕ). IsMask sf n s.bits) same p.4 in
    same_spelled s t (one_mask sf q.1 s.bits t.bits mask q.4) (p.5 ∙ sym q.5)

one_number_as : (n : Numbers) (o : Operand) (text : List ℕ) (s t : Spelled) → IsNumberAs n o text s → IsNumberAs n o text t → s ≡ t
unfolding IsNumberIn
one_number_as Fitting o text s t p q = one_number_of o text s t p q
one_number_as Any o text s t p q = p.3 ∙ sym q.3

one_mask_as : (n : Numbers) (sf : ℕ) (text : List ℕ) (s t : Spelled) → IsMaskAs n sf text s → IsMaskAs n sf text t → s ≡ t
unfolding IsMaskIn
one_mask_as Fitting sf text s t p q = one_mask_of sf text s t p q
one_mask_as Any sf text s t p q = p.3 ∙ sym q.3

one_slot : (n : Numbers) (slot : Slot) (text : List ℕ) (s t : Spelled) → IsSlot n slot text s → IsSlot n slot text t → s ≡ t
one_slot n (slots.Name list place) text s t p q = same_spelled s t (values s.bits t.bits (sym p.0 ∙ q.0)) (p.1 ∙ sym q.1)
one_slot n (slots.Number o) text s t p q = one_number_as n o text s t p q
one_slot n (slots.Distance kind) text s t p q = one_number_as n (operand kind) text s t p q
one_slot n (slots.Mask sf) text s t p q = one_mask_as n sf text s t p q
one_slot n (slots.Aim aim) text s t p q = p.1 ∙ sym q.1

one_piece : (n : Numbers) (p : Piece) (text : List ℕ) (s t : Spelled) → IsPiece n p text s → IsPiece n p text t → s ≡ t
one_piece n p text s t h k =
    let same : h.0 ≡ k.0 = append_cancel_left p.before h.0 k.0 (append_cancel_right (p.before ++ h.0) (p.before ++ k.0) p.behind (sym h.1 ∙ k.1)) in
    one_slot n p.slot k.0 s t (subst (λ (inside : List ℕ). IsSlot n p.slot inside s) same h.2) k.2

pub one_list : (n : Numbers) (ps : List Piece) (texts : List (List ℕ)) (s t : Spelled) → ArePieces n ps texts s → ArePieces n ps texts t → s ≡ t
unfolding ArePieces
one_list n [] [] s t h k = h ∙ sym k
one_list n [] (text ∷ texts) s t h k = absurd h
one_list n (p ∷ ps) [] s t h k = absurd h
one_list n (p ∷ ps) (text ∷ texts) s t h k =
    let first = one_piece n p text h.0 k.0 h.2 k.2 in
    let rest = one_list n ps texts h.1 k.1 h.3 k.3 in
    h.4 ∙ ap (λ (a : Spelled). both a h.1) first ∙ ap (λ (b : Spelled). both k.0 b) rest ∙ sym k.4
