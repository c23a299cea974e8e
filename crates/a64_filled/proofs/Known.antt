-- Which rows of the instruction table can read a word of which some bits are known.
use Rattle.std.proofs.Common.{◌≡◌, ℕ, zero, suc, ◌+◌, ◌-◌, ◌/◌, ◌%◌, ◌^◌, ◌<◌, ◌≤◌, ◌⊎◌, inl, inr, Bool, true, false, nat_le, nat_eq, ◌==◌, ◌&&◌, ◌||◌, not, cond, List, [], ◌∷◌, Option, Some, None, refl, sym, ap, ◌∙◌, arith, min}
use Rattle.std.specs.Prelude.{bit_and}
use Rattle.std.proofs.lemmas.Bool.{and_parts, or_cases, cases_Bool, cond-false, leb-true, leb-false, eqb-true, eqb-false, not-true, false≢true}
use Rattle.std.proofs.lemmas.Nat.{field_of, shr-shr, mod_below}
use Rattle.std.proofs.lemmas.Nat.Bits.{bit_at_and}
use Rattle.std.proofs.Math.Pow.{mod-mod-pow}
use Rattle.a64_inst.specs.declared.inst.Inst.{Inst}
use Rattle.a64_inst.specs.Parts.{Part, is, field, bits_at, meets, at_fields}
use Rattle.a64_inst.specs.Rows.{Row}
use Rattle.a64_inst.specs.Table.{read_rows}

-- the bits of the mask are the value's
pub record IsKnown (mask value word : ℕ) : Type 0 where
  pub bits : (k : ℕ) → k < 32 → mask / 2 ^ k % 2 ≡ 1 → word / 2 ^ k % 2 ≡ value / 2 ^ k % 2

least_one : (a b : ℕ) → a < 2 → b ≡ 1 → min a b ≡ a
least_one a b h k = omega arith

pub known_of : (mask value word : ℕ) → bit_and word mask ≡ value → IsKnown mask value word
known_of mask value word e = record {
  bits = λ k below one.
      let both : bit_and word mask / 2 ^ k % 2 ≡ min (word / 2 ^ k % 2) (mask / 2 ^ k % 2) = bit_at_and word mask k in
      let same : bit_and word mask / 2 ^ k % 2 ≡ value / 2 ^ k % 2 = ap (λ (x : ℕ). x / 2 ^ k % 2) e in
      sym (least_one (word / 2 ^ k % 2) (mask / 2 ^ k % 2) (mod_below (word / 2 ^ k) 2 (omega arith)) one) ∙ (sym both ∙ same);
}

-- ---- the fixed bits of a row

-- the value of a bit, below the first place, where it is fixed
abbrev pub fixed_bit : ℕ → List Part → ℕ → Option ℕ
fixed_bit top [] place = None
fixed_bit top (is width value ∷ parts) place = cond (nat_le (top - width) place) (Some (value / 2 ^ (place - (top - width)) % 2)) (fixed_bit (top - width) parts place)
fixed_bit top (field width ∷ parts) place = cond (nat_le (top - width) place) None (fixed_bit (top - width) parts place)

-- a bit of a piece is that bit of the word
bit_of_piece : (word end width place : ℕ) → end ≤ place → place < end + width → bits_at end width word / 2 ^ (place - end) % 2 ≡ word / 2 ^ place % 2
bit_of_piece word end width place from below =
    let k = place - end in
    let j = width - k - 1 in
    let split : j + 1 + k ≡ width = omega arith in
    let shifted : end + k ≡ place = omega arith in
    let inner : word / 2 ^ end % 2 ^ width / 2 ^ k ≡ word / 2 ^ end / 2 ^ k % 2 ^ (j + 1) = ap (λ (n : ℕ). word / 2 ^ end % 2 ^ n / 2 ^ k) (sym split) ∙ field_of (word / 2 ^ end) (j + 1) k in
    let one : word / 2 ^ end / 2 ^ k % 2 ^ (j + 1) % 2 ^ 1 ≡ word / 2 ^ end / 2 ^ k % 2 ^ 1 = mod-mod-pow (word / 2 ^ end / 2 ^ k) j 1 in
    ap (λ (n : ℕ). n % 2) inner ∙ one ∙ ap (λ (n : ℕ). n % 2) (shr-shr word end k) ∙ ap (λ (n : ℕ). word / 2 ^ n % 2) shifted

none_some : {A : Type 0} (x : A) → None ≡ Some x → ⊥
none_some x e = cc

some_is : (x y : ℕ) → Some x ≡ Some y → x ≡ y
some_is x y e = cc

cond_is : {A : Type 0} (b : Bool) (x y z : A) → cond b x y ≡ z → ((b ≡ true) × (x ≡ z)) ⊎ ((b ≡ false) × (y ≡ z))
cond_is true x y z e = inl (refl, e)
cond_is false x y z e = inr (refl, e)

-- a word that has the fixed bits has each of them
has_bit : (top : ℕ) (parts : List Part) (word place bit : ℕ) → meets top parts word ≡ true → place < top → fixed_bit top parts place ≡ Some bit → word / 2 ^ place % 2 ≡ bit
has_bit top [] word place bit met below e = absurd (none_some bit e)
has_bit top (is width value ∷ parts) word place bit met below e =
    let m = and_parts (nat_eq (bits_at (top - width) width word) value) (meets (top - width) parts word) met in
    elim (cond_is (nat_le (top - width) place) (Some (value / 2 ^ (place - (top - width)) % 2)) (fixed_bit (top - width) parts place) (Some bit) e) [
      | inl h ↦
          let from : top - width ≤ place = leb-true _ _ h.0 in
          let bits : bits_at (top - width) width word ≡ value = eqb-true _ _ m.0 in
          sym (bit_of_piece word (top - width) width place from (omega arith)) ∙ ap (λ (n : ℕ). n / 2 ^ (place - (top - width)) % 2) bits ∙ some_is _ _ h.1
      | inr h ↦ has_bit (top - width) parts word place bit m.1 (leb-false _ _ h.0) h.1
    ]
has_bit top (field width ∷ parts) word place bit met below e =
    elim (cond_is (nat_le (top - width) place) None (fixed_bit (top - width) parts place) (Some bit) e) [
      | inl h ↦ absurd (none_some bit h.1)
      | inr h ↦ has_bit (top - width) parts word place bit met (leb-false _ _ h.0) h.1
    ]

-- ---- rows that a word is not in

-- a bit is fixed, and not so
abbrev pub differs : Option ℕ → ℕ → Bool
differs None b = false
differs (Some a) b = not (a == b)

-- some known bit below this place is fixed otherwise
abbrev pub clashes : ℕ → ℕ → ℕ → List Part → Bool
clashes zero mask value parts = false
clashes (suc k) mask value parts = ((mask / 2 ^ k % 2 == 1) && differs (fixed_bit 32 parts k) (value / 2 ^ k % 2)) || clashes k mask value parts

differ_not : (o : Option ℕ) (b : ℕ) → differs o b ≡ true → ((x : ℕ) → o ≡ Some x → b ≡ x) → ⊥
differ_not None b e f = false≢true e
differ_not (Some x) b e f = eqb-false x b (not-true (x == b) e) (sym (f x refl))

not_met : (place mask value word : ℕ) (parts : List Part) → IsKnown mask value word → place ≤ 32 → clashes place mask value parts ≡ true → meets 32 parts word ≡ true → ⊥
not_met zero mask value word parts known below e met = false≢true e
not_met (suc k) mask value word parts known below e met =
    elim (or_cases ((mask / 2 ^ k % 2 == 1) && differs (fixed_bit 32 parts k) (value / 2 ^ k % 2)) (clashes k mask value parts) e) [
      | inl h ↦
          let both = and_parts (mask / 2 ^ k % 2 == 1) (differs (fixed_bit 32 parts k) (value / 2 ^ k % 2)) h in
          let here : k < 32 = omega arith in
          let mine = known.bits k here (eqb-true (mask / 2 ^ k % 2) 1 both.0) in
          differ_not (fixed_bit 32 parts k) (value / 2 ^ k % 2) both.1 (λ x f. sym mine ∙ has_bit 32 parts word k x met here f)
      | inr h ↦ not_met k mask value word parts known (omega arith) h met
    ]

-- the rows that a word with these bits can be in
abbrev pub narrowed : ℕ → ℕ → List Row → List Row
narrowed mask value [] = []
narrowed mask value (r ∷ rows) = cond (clashes 32 mask value r.parts) (narrowed mask value rows) (r ∷ narrowed mask value rows)

narrowed_first : (mask value word : ℕ) (r : Row) (rows : List Row) (b : Bool) → clashes 32 mask value r.parts ≡ b → IsKnown mask value word → read_rows rows word ≡ read_rows (narrowed mask value rows) word
    → read_rows (r ∷ rows) word ≡ read_rows (cond b (narrowed mask value rows) (r ∷ narrowed mask value rows)) word
narrowed_first mask value word r rows true same known others =
    elim (cases_Bool (meets 32 r.parts word)) [
      | inl h ↦ absurd (not_met 32 mask value word r.parts known (omega arith) same h)
      | inr h ↦ cond-false (meets 32 r.parts word) (Some (at_fields 32 r.parts r.inst word)) (read_rows rows word) h ∙ others
    ]
narrowed_first mask value word r rows false same known others = ap (λ (o : Option Inst). cond (meets 32 r.parts word) (Some (at_fields 32 r.parts r.inst word)) o) others

-- they alone read it
pub read_narrowed : (mask value word : ℕ) (rows : List Row) → IsKnown mask value word → read_rows rows word ≡ read_rows (narrowed mask value rows) word
read_narrowed mask value word [] known = refl
read_narrowed mask value word (r ∷ rows) known = narrowed_first mask value word r rows (clashes 32 mask value r.parts) refl known (read_narrowed mask value word rows known)
