-- Rows whose fixed bits differ somewhere: no word has the fixed bits of both.
use Rattle.std.proofs.Common.{◌≡◌, ℕ, zero, suc, ◌+◌, ◌-◌, ◌/◌, ◌%◌, ◌^◌, ◌<◌, ◌≤◌, Bool, true, false, nat_le, nat_eq, ◌||◌, not, cond, List, [], ◌∷◌, Option, Some, None, refl, sym, ap, ◌∙◌, arith, inl, inr, ◌⊎◌}
use Rattle.std.proofs.lemmas.Bool.{and_parts, or_cases, leb-true, leb-false, eqb-true, eqb-false, not-true}
use Rattle.std.proofs.lemmas.Nat.{field_of, shr-shr}
use Rattle.std.proofs.Math.Pow.{mod-mod-pow}
use Rattle.a64_inst.specs.Parts.{Part, is, field, bits_at, meets}
use Rattle.a64_inst.proofs.Splitting.{is_sound, sound_is, sound_field}

-- the value of a bit, below the first place, where it is fixed
abbrev pub fixed_bit : ℕ → List Part → ℕ → Option ℕ
fixed_bit top [] place = None
fixed_bit top (is width value ∷ parts) place = cond (nat_le (top - width) place) (Some (value / 2 ^ (place - (top - width)) % 2)) (fixed_bit (top - width) parts place)
fixed_bit top (field width ∷ parts) place = cond (nat_le (top - width) place) None (fixed_bit (top - width) parts place)

-- a bit of a piece is that bit of the word
bit_of_piece : (word end width place : ℕ) → end ≤ place → place < end + width → bits_at end width word / 2 ^ (place - end) % 2 ≡ word / 2 ^ place % 2
bit_of_piece word end width place from below =
    let k = place - end in
    let j = width - k - 1 in
    let split : j + 1 + k ≡ width = omega arith in
    let shifted : end + k ≡ place = omega arith in
    let inner : word / 2 ^ end % 2 ^ width / 2 ^ k ≡ word / 2 ^ end / 2 ^ k % 2 ^ (j + 1) = ap (λ (n : ℕ). word / 2 ^ end % 2 ^ n / 2 ^ k) (sym split) ∙ field_of (word / 2 ^ end) (j + 1) k in
    let one : word / 2 ^ end / 2 ^ k % 2 ^ (j + 1) % 2 ^ 1 ≡ word / 2 ^ end / 2 ^ k % 2 ^ 1 = mod-mod-pow (word / 2 ^ end / 2 ^ k) j 1 in
    ap (λ (n : ℕ). n % 2) inner ∙ one ∙ ap (λ (n : ℕ). n % 2) (shr-shr word end k) ∙ ap (λ (n : ℕ). word / 2 ^ n % 2) shifted

none_some : {A : Type 0} (x : A) → None ≡ Some x → ⊥
none_some x e = cc

some_is : (x y : ℕ) → Some x ≡ Some y → x ≡ y
some_is x y e = cc

cond_is : {A : Type 0} (b : Bool) (x y z : A) → cond b x y ≡ z → ((b ≡ true) × (x ≡ z)) ⊎ ((b ≡ false) × (y ≡ z))
cond_is true x y z e = inl (refl, e)
cond_is false x y z e = inr (refl, e)

-- a word that has the fixed bits has each of them
has_bit : (top : ℕ) (parts : List Part) (word place bit : ℕ) → is_sound top parts ≡ true → meets top parts word ≡ true → place < top → fixed_bit top parts place ≡ Some bit → word / 2 ^ place % 2 ≡ bit
has_bit top [] word place bit sound met below e = absurd cc
has_bit top (is width value ∷ parts) word place bit sound met below e =
    let s = sound_is top width value parts sound in
    let m = and_parts (nat_eq (bits_at (top - width) width word) value) (meets (top - width) parts word) met in
    elim (cond_is (nat_le (top - width) place) (Some (value / 2 ^ (place - (top - width)) % 2)) (fixed_bit (top - width) parts place) (Some bit) e) [
      | inl h ↦
          let from : top - width ≤ place = leb-true _ _ h.0 in
          let bits : bits_at (top - width) width word ≡ value = eqb-true _ _ m.0 in
          sym (bit_of_piece word (top - width) width place from (omega (arith, s.0))) ∙ ap (λ (n : ℕ). n / 2 ^ (place - (top - width)) % 2) bits ∙ some_is _ _ h.1
      | inr h ↦ has_bit (top - width) parts word place bit s.2 m.1 (leb-false _ _ h.0) h.1
    ]
has_bit top (field width ∷ parts) word place bit sound met below e =
    let s = sound_field top width parts sound in
    elim (cond_is (nat_le (top - width) place) None (fixed_bit (top - width) parts place) (Some bit) e) [
      | inl h ↦ absurd (none_some bit h.1)
      | inr h ↦ has_bit (top - width) parts word place bit s.1 met (leb-false _ _ h.0) h.1
    ]

-- two bits that are fixed, and not alike
abbrev pub differ : Option ℕ → Option ℕ → Bool
differ None b = false
differ (Some a) None = false
differ (Some a) (Some b) = not (nat_eq a b)

-- there is such a bit below this place
abbrev pub are_apart : ℕ → List Part → List Part → Bool
are_apart zero p q = false
are_apart (suc place) p q = differ (fixed_bit 32 p place) (fixed_bit 32 q place) || are_apart place p q

differ_at : (a b : Option ℕ) (bit : ℕ) → differ a b ≡ true → ((x : ℕ) → a ≡ Some x → bit ≡ x) → ((x : ℕ) → b ≡ Some x → bit ≡ x) → ⊥
differ_at None b bit e f g = absurd cc
differ_at (Some x) None bit e f g = absurd cc
differ_at (Some x) (Some y) bit e f g = eqb-false x y (not-true (nat_eq x y) e) (sym (f x refl) ∙ g y refl)

pub not_both : (place : ℕ) (p q : List Part) (word : ℕ) → place ≤ 32 → is_sound 32 p ≡ true → is_sound 32 q ≡ true → are_apart place p q ≡ true → meets 32 p word ≡ true → meets 32 q word ≡ true → ⊥
not_both zero p q word below sp sq e mp mq = absurd cc
not_both (suc place) p q word below sp sq e mp mq =
    let here : place < 32 = omega arith in
    elim (or_cases (differ (fixed_bit 32 p place) (fixed_bit 32 q place)) (are_apart place p q) e) [
      | inl h ↦ differ_at (fixed_bit 32 p place) (fixed_bit 32 q place) (word / 2 ^ place % 2) h (λ x f. has_bit 32 p word place x sp mp here f) (λ x f. has_bit 32 q word place x sq mq here f)
      | inr h ↦ not_both place p q word (omega arith) sp sq h mp mq
    ]
