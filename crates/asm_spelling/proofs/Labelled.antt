-- Labels and offsets that are written are read.
use Rattle.std.proofs.Common.{◌≡◌, ◌≢◌, ◌⊎◌, ◌==◌, ℕ, zero, suc, ◌+◌, ◌^◌, ◌<◌, ◌≤◌, ℤ, pos, negsuc, ◌-ℤ◌, Bool, true, false, cond, ◌&&◌, ◌||◌, List, [], ◌∷◌, ◌++◌, Option, Some, None, refl, sym, ap, subst, ◌∙◌, arith, inl, inr, lit<, append_assoc, get_or}
use Rattle.std.specs.Prelude.{IsUtf8, codes, nat_lt, slice_index, if◌then◌else◌}
use Rattle.std.specs.Fmt.{decimal}
use Rattle.std.specs.List.{list_all}
use Rattle.std.proofs.lemmas.Bool.{cases_Bool, cond-true, cond-false, ltb-true}
use Rattle.std.proofs.lemmas.Fmt.{first_decimal}
use Rattle.a64_forms.specs.Spelling.{begins_name}
use Rattle.asm_lines.specs.declared.line.AsmName.{AsmName}
use Rattle.asm_lines.specs.Labels.{IsLabel, IsName, IsOrdinal, begins_bare, quoted}
use Rattle.asm_spelling.specs.Labels.{is_bare, is_bare_byte, label_text, name_text, ordinal_text}
use Rattle.asm_spelling.specs.Reading.{label, ordinal_in}
use Rattle.asm_spelling.proofs.Numbers.{decimal_is}
use Rattle.asm_spelling.proofs.Tables.{both_true}

-- ---- names

bare_name : (name : List ℕ) → is_bare name ≡ true → IsName name name
bare_name [] e = absurd cc
bare_name (b ∷ bytes) e = let p = both_true (begins_bare b) (list_all is_bare_byte bytes) e in inl ((p.0, p.1), refl)

name_is : (name : List ℕ) → IsName (name_text name) name
name_is name = elim (cases_Bool (is_bare name)) [
  | inl bare ↦ subst (λ (w : List ℕ). IsName w name) (sym (cond-true (is_bare name) name (quoted name) bare)) (bare_name name bare)
  | inr more ↦ subst (λ (w : List ℕ). IsName w name) (sym (cond-false (is_bare name) name (quoted name) more)) (inr refl)
]

-- ---- ordinals

ordinal_is : (k : ℕ) → k < 2 ^ 64 → IsOrdinal (ordinal_text k) (ordinal_in k)
ordinal_is k small = by_test (nat_lt 1 k) refl
  where
    by_test : (b : Bool) → nat_lt 1 k ≡ b → IsOrdinal (if b then codes "#" ++ decimal k else []) (if b then Some k else None)
    by_test true e =
        let some : 1 < k = ltb-true 1 k e in
        let first = first_decimal k (omega arith) small in
        (decimal k, refl, (decimal_is k small, (λ same. absurd (omega (arith, first, same))), small))
    by_test false e = refl

pub label_is : (name : List ℕ) (k : ℕ) → IsUtf8 name → k < 2 ^ 64 → IsLabel (label_text name k) (label name k)
label_is name k utf8 small = record {
  spelling = name_text name;
  ordinal = ordinal_text k;
  parts = refl;
  name_is = name_is name;
  utf8 = utf8;
  ordinal_is = ordinal_is k small;
}

-- ---- how labels begin

left_true : (a b : Bool) → a ≡ true → (a || b) ≡ true
left_true true b e = refl
left_true false b e = cc

bare_begins : (name rest : List ℕ) → is_bare name ≡ true → begins_name (name ++ rest) ≡ true
bare_begins [] rest e = absurd cc
bare_begins (b ∷ bytes) rest e =
    let p = both_true (begins_bare b) (list_all is_bare_byte bytes) e in
    left_true (begins_bare b) (b == 34) p.0

name_begins : (name rest : List ℕ) → begins_name (name_text name ++ rest) ≡ true
name_begins name rest = elim (cases_Bool (is_bare name)) [
  | inl bare ↦ subst (λ (w : List ℕ). begins_name (w ++ rest) ≡ true) (sym (cond-true (is_bare name) name (quoted name) bare)) (bare_begins name rest bare)
  | inr more ↦ subst (λ (w : List ℕ). begins_name (w ++ rest) ≡ true) (sym (cond-false (is_bare name) name (quoted name) more)) refl
]

pub label_begins : (name : List ℕ) (k : ℕ) (rest : List ℕ) → begins_name (label_text name k ++ rest) ≡ true
label_begins name k rest =
    subst (λ (t : List ℕ). begins_name t ≡ true) (sym (append_assoc (name_text name) (ordinal_text k) rest)) (name_begins name (ordinal_text k ++ rest))
