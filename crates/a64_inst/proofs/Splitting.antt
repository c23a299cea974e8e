-- A word that is joined from fields has these fields, and a word is joined from its fields.
use Rattle.std.proofs.Common.{◌≡◌, ℕ, ◌+◌, ◌-◌, ◌*◌, ◌/◌, ◌%◌, ◌^◌, ◌<◌, ◌≤◌, Bool, true, nat_lt, nat_le, nat_eq, ◌&&◌, List, [], ◌∷◌, refl, sym, ap, ◌∙◌, arith}
use Rattle.std.proofs.lemmas.Bool.{and_parts, and_from, ltb-true, leb-true, eqb-true, eq-eqb, lt-ltb}
use Rattle.std.proofs.lemmas.Nat.{pow-add, pow_pos, mul-le, mod-pow-add, field_of, shr_high, mod_low, mod_below}
use Rattle.std.proofs.Math.Pow.{mod-mod-pow}
use Rattle.a64_inst.specs.Parts.{Part, is, field, bits_at, meets, Fields, at_fields, joined, fit_parts}

-- the parts fill the bits below this place, and fixed bits fit their width
abbrev pub is_sound : ℕ → List Part → Bool
is_sound top [] = nat_eq top 0
is_sound top (is width value ∷ parts) = nat_le width top && (nat_lt value (2 ^ width) && is_sound (top - width) parts)
is_sound top (field width ∷ parts) = nat_le width top && is_sound (top - width) parts

-- the values of the fields
abbrev pub values_at : ℕ → List Part → ℕ → List ℕ
values_at top [] word = []
values_at top (is width value ∷ parts) word = values_at (top - width) parts word
values_at top (field width ∷ parts) word = bits_at (top - width) width word ∷ values_at (top - width) parts word

-- a function of fields at these values
abbrev pub applied : {A : Type 0} → (parts : List Part) → Fields parts A → List ℕ → A
applied [] f values = f
applied (is width value ∷ parts) f values = applied parts f values
applied (field width ∷ parts) f [] = applied parts (f 0) []
applied (field width ∷ parts) f (value ∷ values) = applied parts (f value) values

pub at_fields-applied : {A : Type 0} (top : ℕ) (parts : List Part) (f : Fields parts A) (word : ℕ) → at_fields top parts f word ≡ applied parts f (values_at top parts word)
at_fields-applied top [] f word = refl
at_fields-applied top (is width value ∷ parts) f word = at_fields-applied (top - width) parts f word
at_fields-applied top (field width ∷ parts) f word = at_fields-applied (top - width) parts (f (bits_at (top - width) width word)) word

-- the low bits of a word as a piece and what is below it
low_split : (top width word : ℕ) → width ≤ top → word % 2 ^ top ≡ bits_at (top - width) width word * 2 ^ (top - width) + word % 2 ^ (top - width)
low_split top width word within =
    let split : width + (top - width) ≡ top = omega arith in
    ap (λ (k : ℕ). word % 2 ^ k) (sym split) ∙ mod-pow-add word width (top - width)

-- a piece of a word, from what the low bits of the word are
piece_is : (top width word value rest : ℕ) → width ≤ top → value < 2 ^ width → rest < 2 ^ (top - width) → word % 2 ^ top ≡ value * 2 ^ (top - width) + rest
    → (bits_at (top - width) width word ≡ value) × (word % 2 ^ (top - width) ≡ rest)
piece_is top width word value rest within small below e =
    let end = top - width in
    let split : width + end ≡ top = omega arith in
    let bits : bits_at end width word ≡ value = sym (field_of word width end) ∙ ap (λ (k : ℕ). word % 2 ^ k / 2 ^ end) split ∙ ap (λ (n : ℕ). n / 2 ^ end) e ∙ shr_high value end rest below in
    let low : word % 2 ^ end ≡ rest = sym (mod-mod-pow word width end) ∙ ap (λ (k : ℕ). word % 2 ^ k % 2 ^ end) split ∙ ap (λ (n : ℕ). n % 2 ^ end) e ∙ mod_low value end rest below in
    (bits, low)

-- a value on top of what is below it
on_top : (top width value rest : ℕ) → width ≤ top → value < 2 ^ width → rest < 2 ^ (top - width) → value * 2 ^ (top - width) + rest < 2 ^ top
on_top top width value rest within small below =
    let end = top - width in
    let split : end + width ≡ top = omega arith in
    let powers : 2 ^ end * 2 ^ width ≡ 2 ^ top = sym (pow-add 2 end width) ∙ ap (λ (k : ℕ). 2 ^ k) split in
    let much : (value + 1) * 2 ^ end ≤ 2 ^ width * 2 ^ end = mul-le (value + 1) (2 ^ end) (2 ^ width) (2 ^ end) (omega arith) (omega arith) in
    omega (arith, powers, much)

-- what one part asks, and what is asked of the rest
pub sound_is : (top width value : ℕ) (parts : List Part) → is_sound top (is width value ∷ parts) ≡ true → (width ≤ top) × (value < 2 ^ width) × (is_sound (top - width) parts ≡ true)
sound_is top width value parts h =
    let a = and_parts (nat_le width top) (nat_lt value (2 ^ width) && is_sound (top - width) parts) h in
    let b = and_parts (nat_lt value (2 ^ width)) (is_sound (top - width) parts) a.1 in
    (leb-true _ _ a.0, ltb-true _ _ b.0, b.1)

pub sound_field : (top width : ℕ) (parts : List Part) → is_sound top (field width ∷ parts) ≡ true → (width ≤ top) × (is_sound (top - width) parts ≡ true)
sound_field top width parts h =
    let a = and_parts (nat_le width top) (is_sound (top - width) parts) h in
    (leb-true _ _ a.0, a.1)

fit_field : (width value : ℕ) (parts : List Part) (values : List ℕ) → fit_parts (field width ∷ parts) (value ∷ values) ≡ true → (value < 2 ^ width) × (fit_parts parts values ≡ true)
fit_field width value parts values h =
    let a = and_parts (nat_lt value (2 ^ width)) (fit_parts parts values) h in
    (ltb-true _ _ a.0, a.1)

pub joined-below : (top : ℕ) (parts : List Part) (values : List ℕ) → is_sound top parts ≡ true → fit_parts parts values ≡ true → joined top parts values < 2 ^ top
joined-below top [] values sound fit = pow_pos top
joined-below top (is width value ∷ parts) values sound fit =
    let s = sound_is top width value parts sound in
    on_top top width value (joined (top - width) parts values) s.0 s.1 (joined-below (top - width) parts values s.2 fit)
joined-below top (field width ∷ parts) [] sound fit = pow_pos top
joined-below top (field width ∷ parts) (value ∷ values) sound fit =
    let s = sound_field top width parts sound in
    let f = fit_field width value parts values fit in
    on_top top width value (joined (top - width) parts values) s.0 f.0 (joined-below (top - width) parts values s.1 f.1)

-- a word that is joined has the fixed bits, and the fields
pub joined-read : (top : ℕ) (parts : List Part) (values : List ℕ) (word : ℕ) → is_sound top parts ≡ true → fit_parts parts values ≡ true → word % 2 ^ top ≡ joined top parts values
    → (meets top parts word ≡ true) × (values_at top parts word ≡ values)
joined-read top [] [] word sound fit e = (refl, refl)
joined-read top [] (value ∷ values) word sound fit e = absurd cc
joined-read top (is width value ∷ parts) values word sound fit e =
    let s = sound_is top width value parts sound in
    let p = piece_is top width word value (joined (top - width) parts values) s.0 s.1 (joined-below (top - width) parts values s.2 fit) e in
    let r = joined-read (top - width) parts values word s.2 fit p.1 in
    (and_from _ _ (eq-eqb _ _ p.0) r.0, r.1)
joined-read top (field width ∷ parts) [] word sound fit e = absurd cc
joined-read top (field width ∷ parts) (value ∷ values) word sound fit e =
    let s = sound_field top width parts sound in
    let f = fit_field width value parts values fit in
    let p = piece_is top width word value (joined (top - width) parts values) s.0 f.0 (joined-below (top - width) parts values s.1 f.1) e in
    let r = joined-read (top - width) parts values word s.1 f.1 p.1 in
    (r.0, ap (λ (v : ℕ). v ∷ values_at (top - width) parts word) p.0 ∙ ap (λ (vs : List ℕ). value ∷ vs) r.1)

-- a word that has the fixed bits is joined from its fields, which fit
pub read-joined : (top : ℕ) (parts : List Part) (word : ℕ) → is_sound top parts ≡ true → meets top parts word ≡ true
    → (joined top parts (values_at top parts word) ≡ word % 2 ^ top) × (fit_parts parts (values_at top parts word) ≡ true)
read-joined top [] word sound met =
    let none : top ≡ 0 = eqb-true top 0 sound in
    (rw none (omega arith), refl)
read-joined top (is width value ∷ parts) word sound met =
    let s = sound_is top width value parts sound in
    let m = and_parts (nat_eq (bits_at (top - width) width word) value) (meets (top - width) parts word) met in
    let r = read-joined (top - width) parts word s.2 m.1 in
    let bits : bits_at (top - width) width word ≡ value = eqb-true _ _ m.0 in
    (ap (λ (n : ℕ). value * 2 ^ (top - width) + n) r.0 ∙ ap (λ (v : ℕ). v * 2 ^ (top - width) + word % 2 ^ (top - width)) (sym bits) ∙ sym (low_split top width word s.0), r.1)
read-joined top (field width ∷ parts) word sound met =
    let s = sound_field top width parts sound in
    let r = read-joined (top - width) parts word s.1 met in
    (ap (λ (n : ℕ). bits_at (top - width) width word * 2 ^ (top - width) + n) r.0 ∙ sym (low_split top width word s.0), and_from _ _ (lt-ltb _ _ (mod_below (word / 2 ^ (top - width)) (2 ^ width) (pow_pos width))) r.1)
