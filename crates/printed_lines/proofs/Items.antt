-- The lines of bytes, addresses and differences are read.
use Rattle.std.proofs.Common.{◌≡◌, ◌≢◌, ◌⊎◌, ◌==◌, ℕ, zero, suc, ◌+◌, ◌^◌, ◌<◌, ◌≤◌, ℤ, pos, Bool, true, false, ◌||◌, List, [], ◌∷◌, ◌++◌, Option, Some, None, Result, Ok, Err, length, get_or, refl, sym, ap, subst, ◌∙◌, append_assoc, arith, inl, inr}
use Rattle.std.specs.Prelude.{codes, IsUtf8, IsTrue}
use Rattle.std.specs.Fmt.{decimal}
use Rattle.std.specs.List.{AllByRecursion, list_all}
use Rattle.std.specs.Str.Parse.{AllDigits, IsNumeral}
use Rattle.std.specs.Char.{digit_value}
use Rattle.std.proofs.lemmas.Bool.{and_parts, cases_Bool, cond-true, cond-false}
use Rattle.std.proofs.lemmas.Bool.Decides.{nat_tests}
use Rattle.std.proofs.lemmas.List.{append-nil}
use Rattle.hex.specs.Hex.{IsBytes, encode_lower}
use Rattle.hex.proofs.HexLemmas.{decode_of-encode_lower}
use Rattle.gt_model.specs.Typed.{AreBytes, IsI64}
use Rattle.a64_forms.specs.Number.{IsNumberWord}
use Rattle.a64_forms.specs.Spelling.{begins_name, is_name_start}
use Rattle.asm_read.specs.Words.{is_some_bytes}
use Rattle.asm_lines.specs.declared.line.AsmExpr.{AsmExpr}
use Rattle.asm_lines.specs.declared.line.AsmItem.TheVariants as items
use Rattle.asm_lines.specs.declared.line.AsmLine.{AsmLine}
use Rattle.asm_lines.specs.declared.line.AsmLine.TheVariants as lines
use Rattle.asm_lines.specs.declared.line.AsmName.{AsmName}
use Rattle.asm_lines.specs.Expressions.{HasExpressionShape, HasOffsetShape, byte_of}
use Rattle.asm_lines.specs.Labels.{EndsLabel, IsLabel, begins_bare, quoted}
use Rattle.asm_lines.specs.Lines.{IsDirectiveWord}
use Rattle.asm_directives.specs.Operands.{IsDistance, IsQuarter}
use Rattle.asm_directives.specs.Lines.{NamedSays}
use Rattle.asm_spelling.specs.Labels.{is_bare, is_bare_byte, label_text, name_text, offset_text, ordinal_text}
use Rattle.asm_spelling.specs.Reading.{label}
use Rattle.printed_lines.specs.Lines.{IsPrinted, difference_text, hex_text, item_text, quarter_text, sum_text, zero_text}
use Rattle.printed_lines.proofs.Texts.{IsText, is_easy}
use Rattle.printed_lines.proofs.Fragments.{difference_is_text, encoded_text, quarter_is_text, some_encoded, sum_is_text}
use Rattle.printed_lines.proofs.Marks.{fixed, some_decimal}
use Rattle.printed_lines.proofs.Numbers.{LabelsAreRead, number_is, sum_is}
use Rattle.printed_lines.proofs.Spaced.{IsSpaced, IsWord, directive_says, directive_word, indented, last, last_word, more_words, one_word, printed}

-- a directive with one operand
pub one_operand : (name operand : List ℕ) (said : AsmLine) → IsWord name → IsDirectiveWord name → IsWord operand → NamedSays name (operand ∷ []) (Ok said) → IsPrinted (item_text (name ++ 32 ∷ operand)) said
one_operand name operand said name_word begins word says =
    printed (item_text (name ++ 32 ∷ operand)) (name ∷ operand ∷ []) said
    (indented (name ++ 32 ∷ operand) (name ∷ operand ∷ []) (more_words name operand (operand ∷ []) name_word (last_word operand word)))
    (directive_says name (operand ∷ []) said begins (word, tt) says)

-- ---- bytes

bytes_fit : (bytes : List ℕ) → AreBytes bytes → IsBytes bytes
bytes_fit [] all i = omega arith
bytes_fit (b ∷ bytes) all zero = all.0
bytes_fit (b ∷ bytes) all (suc i) = bytes_fit bytes all.1 i

pub hex_is : (bytes : List ℕ) → AreBytes bytes → (bytes ≡ [] → ⊥) → IsPrinted (hex_text bytes) (lines.Item (items.Bytes bytes))
hex_is bytes all some =
    let e = encode_lower bytes in
    one_operand (codes ".hex") e (lines.Item (items.Bytes bytes)) (fixed (codes ".hex") refl refl) (directive_word (codes ".hex") (codes "hex") refl (λ e. absurd (omega arith)))
    (one_word e (encoded_text bytes all) (some_encoded bytes some)) (inr (_, refl, (bytes, decode_of-encode_lower bytes (bytes_fit bytes all), some, refl)))

pub zero_is : (count : ℕ) → count ≤ 2 ^ 24 → IsPrinted (zero_text count) (lines.Item (items.Zero count))
zero_is count few =
    let small : count < 2 ^ 64 = omega arith in
    one_operand (codes ".zero") (decimal count) (lines.Item (items.Zero count)) (fixed (codes ".zero") refl refl) (directive_word (codes ".zero") (codes "zero") refl (λ e. absurd (omega arith)))
    (some_decimal count small) (inr (_, refl, (count, number_is count small, few, refl)))

-- ---- labels begin with no digit

left_true : (a b : Bool) → a ≡ true → (a || b) ≡ true
left_true true b e = refl
left_true false b e = cc

bare_begins : (name rest : List ℕ) → is_bare name ≡ true → begins_name (name ++ rest) ≡ true
bare_begins [] rest e = absurd cc
bare_begins (b ∷ bytes) rest e = let p = and_parts (begins_bare b) (list_all is_bare_byte bytes) e in left_true (begins_bare b) (b == 34) p.0

name_begins : (name rest : List ℕ) → begins_name (name_text name ++ rest) ≡ true
name_begins name rest = elim (cases_Bool (is_bare name)) [
  | inl bare ↦ subst (λ (w : List ℕ). begins_name (w ++ rest) ≡ true) (sym (cond-true (is_bare name) name (quoted name) bare)) (bare_begins name rest bare)
  | inr more ↦ subst (λ (w : List ℕ). begins_name (w ++ rest) ≡ true) (sym (cond-false (is_bare name) name (quoted name) more)) refl
]

pub label_begins : (name : List ℕ) (k : ℕ) (rest : List ℕ) → begins_name (label_text name k ++ rest) ≡ true
label_begins name k rest =
    subst (λ (t : List ℕ). begins_name t ≡ true) (sym (append_assoc (name_text name) (ordinal_text k) rest)) (name_begins name (ordinal_text k ++ rest))

no_digit : (b : ℕ) → is_name_start b ≡ true → digit_value b < 10 → ⊥
no_digit b e h = grind (arith, nat_tests)

first_same : (b c : ℕ) (x y : List ℕ) → b ∷ x ≡ c ∷ y → b ≡ c
first_same b c x y e = cc

no_number : (w : List ℕ) → begins_name w ≡ true → IsNumberWord w → ⊥
no_number [] e is = cc
no_number (b ∷ w) e (inl numeral) = no_digit b e numeral.1.0
no_number (b ∷ w) e (inr x) =
    let zero_first : b ≡ 48 = first_same b 48 w (120 ∷ x.0) x.1 in
    let no : false ≡ true = subst (λ (c : ℕ). is_name_start c ≡ true) zero_first e in
    cc

-- ---- addresses and differences

-- ahead of the end or of a sign stands one label at most
abbrev pub OneAhead : Type 0
OneAhead = (text a x b y : List ℕ) (m n : AsmName) → text ≡ a ++ x → text ≡ b ++ y → IsLabel a m → IsLabel b n → EndsLabel x → EndsLabel y → (m ≡ n) × (x ≡ y)

sign_ends : (sign : _) → (byte_of sign ≡ 43) ⊎ (byte_of sign ≡ 45)
sign_ends sign = grind arith

offset_ends : (text : List ℕ) → HasOffsetShape text → EndsLabel text
offset_ends text (inl e) = subst EndsLabel (sym e) tt
offset_ends text (inr s) = subst EndsLabel (sym s.2) (sign_ends s.0)

no_shape : OneAhead → (l rest : List ℕ) (m : AsmName) → IsLabel l m → begins_name rest ≡ true → HasExpressionShape (l ++ 45 ∷ rest) → ⊥
no_shape ahead l rest m is begins s =
    let same = (ahead (l ++ 45 ∷ rest) l (45 ∷ rest) s.label s.offset m s.name refl s.parts is s.label_is (inr refl) (offset_ends s.offset s.offset_is)).1 in
    by_offset s.offset same s.offset_is
  where
    by_offset : (offset : List ℕ) → 45 ∷ rest ≡ offset → HasOffsetShape offset → ⊥
    by_offset offset e (inl none) = let no : 45 ∷ rest ≡ [] = e ∙ none in cc
    by_offset offset e (inr t) =
        let whole : 45 ∷ rest ≡ byte_of t.0 ∷ t.1 = e ∙ t.2 in
        let behind : rest ≡ t.1 = cc in
        no_number rest begins (subst IsNumberWord (sym behind) t.3)

some_before : (w rest : List ℕ) (b : ℕ) → is_some_bytes (w ++ b ∷ rest) ≡ true
some_before [] rest b = refl
some_before (c ∷ w) rest b = refl

pub some_begun : (w : List ℕ) → begins_name w ≡ true → is_some_bytes w ≡ true
some_begun [] e = absurd cc
some_begun (b ∷ w) e = refl

pub quad_sum_is : LabelsAreRead → (name : List ℕ) (k : ℕ) (offset : ℤ) → IsUtf8 name → k < 2 ^ 64 → IsI64 offset
    → IsPrinted (item_text (codes ".quad " ++ sum_text name k offset)) (lines.Item (items.Quad (record { label = label name k; offset = offset })))
quad_sum_is labels name k offset utf8 small fits =
    let text = sum_text name k offset in
    let said = lines.Item (items.Quad (record { label = label name k; offset = offset })) in
    one_operand (codes ".quad") text said (fixed (codes ".quad") refl refl) (directive_word (codes ".quad") (codes "quad") refl (λ e. absurd (omega arith)))
    (one_word text (sum_is_text name k offset utf8 small fits) (some_begun text (label_begins name k (offset_text offset))))
    (inr (_, refl, inl (_, sum_is labels name k offset utf8 small fits, refl)))

module _ (labels : LabelsAreRead) (ahead : OneAhead) (name : List ℕ) (k : ℕ) (other : List ℕ) (n : ℕ) (offset : ℤ) (utf8 : IsUtf8 name) (small : k < 2 ^ 64) (utf8_other : IsUtf8 other) (small_other : n < 2 ^ 64) (fits : IsI64 offset) where
  difference_word : IsWord (difference_text name k other n offset)
  difference_word = one_word (difference_text name k other n offset) (difference_is_text name k other n offset utf8 small utf8_other small_other fits) (some_before (label_text name k) (sum_text other n offset) 45)

  pub quad_difference_is : IsPrinted (item_text (codes ".quad " ++ difference_text name k other n offset)) (lines.Item (items.QuadDiff (label name k) (label other n) offset))
  quad_difference_is =
      one_operand (codes ".quad") (difference_text name k other n offset) (lines.Item (items.QuadDiff (label name k) (label other n) offset)) (fixed (codes ".quad") refl refl)
      (directive_word (codes ".quad") (codes "quad") refl (λ e. absurd (omega arith))) difference_word
      (inr (
        _,
        refl,
        inr (
          no_shape ahead (label_text name k) (sum_text other n offset) (label name k) (labels name k utf8 small) (label_begins other n (offset_text offset)),
          label name k,
          record { label = label other n; offset = offset },
          (label_text name k, sum_text other n offset, refl, labels name k utf8 small, sum_is labels other n offset utf8_other small_other fits),
          refl,
        ),
      ))

  pub word_difference_is : IsPrinted (item_text (codes ".word " ++ difference_text name k other n offset)) (lines.Item (items.WordDiff (label name k) (label other n) offset))
  word_difference_is =
      one_operand (codes ".word") (difference_text name k other n offset) (lines.Item (items.WordDiff (label name k) (label other n) offset)) (fixed (codes ".word") refl refl)
      (directive_word (codes ".word") (codes "word") refl (λ e. absurd (omega arith))) difference_word
      (inr (
        _,
        refl,
        inl (
          label name k,
          record { label = label other n; offset = offset },
          (label_text name k, sum_text other n offset, refl, labels name k utf8 small, sum_is labels other n offset utf8_other small_other fits),
          refl,
        ),
      ))

-- ---- entries of tables

module _ (labels : LabelsAreRead) (name : List ℕ) (k : ℕ) (other : List ℕ) (n : ℕ) (utf8 : IsUtf8 name) (small : k < 2 ^ 64) (utf8_other : IsUtf8 other) (small_other : n < 2 ^ 64) where
  distance_word : IsWord (difference_text name k other n (pos 0))
  distance_word = one_word (difference_text name k other n (pos 0)) (difference_is_text name k other n (pos 0) utf8 small utf8_other small_other (omega arith)) (some_before (label_text name k) (sum_text other n (pos 0)) 45)

  distance : IsDistance (difference_text name k other n (pos 0)) (label name k) (label other n)
  distance = (label_text name k, sum_text other n (pos 0), refl, labels name k utf8 small, subst (λ (t : List ℕ). IsLabel t (label other n)) (sym (append-nil (label_text other n))) (labels other n utf8_other small_other))

  quarter_word : IsWord (quarter_text name k other n)
  quarter_word = one_word (quarter_text name k other n) (quarter_is_text name k other n utf8 small utf8_other small_other) refl

  quarter_is : IsQuarter (quarter_text name k other n) (label name k) (label other n)
  quarter_is = (
    label_text name k ++ 45 ∷ label_text other n,
    ap (λ (t : List ℕ). 40 ∷ t) (sym (append_assoc (label_text name k) (45 ∷ label_text other n) (codes ")/4"))),
    (label_text name k, label_text other n, refl, labels name k utf8 small, labels other n utf8_other small_other),
  )

  pub byte_is : IsPrinted (item_text (codes ".byte " ++ difference_text name k other n (pos 0))) (lines.Item (items.Entry 1 1 (label name k) (label other n)))
  byte_is =
      one_operand (codes ".byte") (difference_text name k other n (pos 0)) (lines.Item (items.Entry 1 1 (label name k) (label other n))) (fixed (codes ".byte") refl refl)
      (directive_word (codes ".byte") (codes "byte") refl (λ e. absurd (omega arith))) distance_word (inr (_, refl, inl (label name k, label other n, distance, refl)))

  pub half_is : IsPrinted (item_text (codes ".hword " ++ difference_text name k other n (pos 0))) (lines.Item (items.Entry 2 1 (label name k) (label other n)))
  half_is =
      one_operand (codes ".hword") (difference_text name k other n (pos 0)) (lines.Item (items.Entry 2 1 (label name k) (label other n))) (fixed (codes ".hword") refl refl)
      (directive_word (codes ".hword") (codes "hword") refl (λ e. absurd (omega arith))) distance_word (inr (_, refl, inl (label name k, label other n, distance, refl)))

  pub byte_quarter_is : IsPrinted (item_text (codes ".byte " ++ quarter_text name k other n)) (lines.Item (items.Entry 1 4 (label name k) (label other n)))
  byte_quarter_is =
      one_operand (codes ".byte") (quarter_text name k other n) (lines.Item (items.Entry 1 4 (label name k) (label other n))) (fixed (codes ".byte") refl refl)
      (directive_word (codes ".byte") (codes "byte") refl (λ e. absurd (omega arith))) quarter_word (inr (_, refl, inr (label name k, label other n, quarter_is, refl)))

  pub half_quarter_is : IsPrinted (item_text (codes ".hword " ++ quarter_text name k other n)) (lines.Item (items.Entry 2 4 (label name k) (label other n)))
  half_quarter_is =
      one_operand (codes ".hword") (quarter_text name k other n) (lines.Item (items.Entry 2 4 (label name k) (label other n))) (fixed (codes ".hword") refl refl)
      (directive_word (codes ".hword") (codes "hword") refl (λ e. absurd (omega arith))) quarter_word (inr (_, refl, inr (label name k, label other n, quarter_is, refl)))

  pub word_quarter_is : IsPrinted (item_text (codes ".word " ++ quarter_text name k other n)) (lines.Item (items.Entry 4 4 (label name k) (label other n)))
  word_quarter_is =
      one_operand (codes ".word") (quarter_text name k other n) (lines.Item (items.Entry 4 4 (label name k) (label other n))) (fixed (codes ".word") refl refl)
      (directive_word (codes ".word") (codes "word") refl (λ e. absurd (omega arith))) quarter_word (inr (_, refl, inr (label name k, label other n, quarter_is, refl)))
