-- The lines that mark places are read.
use Rattle.std.proofs.Common.{◌≡◌, ◌≢◌, ◌⊎◌, ◌==◌, ℕ, zero, suc, ◌+◌, ◌^◌, ◌<◌, ◌≤◌, Bool, true, false, List, [], ◌∷◌, ◌++◌, Option, Some, None, Result, Ok, Err, IfSome, length, refl, sym, ap, subst, ◌∙◌, append_assoc, arith, inl, inr}
use Rattle.std.specs.Prelude.{codes, IsUtf8}
use Rattle.std.specs.Fmt.{decimal, digits}
use Rattle.std.specs.List.{AllByRecursion, list_all}
use Rattle.std.proofs.lemmas.List.{append-nil}
use Rattle.std.proofs.lemmas.List.Elements.{All-from_recursion}
use Rattle.uuid.specs.Text.{hyphenated_text, lower}
use Rattle.uuid.proofs.RoundTrips.{parses_hyphenated_text}
use Rattle.gt_model.specs.Typed.{IsId}
use Rattle.a64_forms.specs.Number.{IsDecimal, IsHexadecimal}
use Rattle.asm_read.specs.Identifier.{identifier_of}
use Rattle.asm_read.specs.Words.{is_some_bytes}
use Rattle.asm_lines.specs.declared.line.AsmLine.TheVariants as lines
use Rattle.asm_lines.specs.Labels.{IsLabel, quoted}
use Rattle.asm_directives.specs.Directives.{IsAlignment, IsResidue, plain}
use Rattle.asm_directives.specs.Lines.{NamedSays}
use Rattle.asm_spelling.specs.Labels.{label_text, name_text}
use Rattle.asm_spelling.specs.Reading.{label}
use Rattle.printed_lines.specs.Lines.{IsPrinted, entry_text, interval_text, label_line, residue_text, section_text, set_text}
use Rattle.printed_lines.proofs.Texts.{IsText, easy_text, is_easy, joined_texts, quoted_text}
use Rattle.printed_lines.proofs.Fragments.{decimal_text, hexadecimal_text, identifier_text, label_is_text, some_identifier}
use Rattle.printed_lines.proofs.Numbers.{LabelsAreRead, hexadecimal_is, number_is}
use Rattle.printed_lines.proofs.Spaced.{IsSpaced, IsWord, before_comma, directive_says, directive_word, last_word, more_words, one_word, printed}

-- a word that stands as it is
pub fixed : (w : List ℕ) → list_all is_easy w ≡ true → is_some_bytes w ≡ true → IsWord w
fixed w easy some = one_word w (easy_text w easy) some

pub some_decimal : (n : ℕ) → n < 2 ^ 64 → IsWord (decimal n)
some_decimal n small = one_word (decimal n) (decimal_text n small) (some_bytes (decimal n) (number_is n small).0)
  where
    by_length : (w : List ℕ) → 0 < length w → is_some_bytes w ≡ true
    by_length [] h = absurd (omega arith)
    by_length (b ∷ w) h = refl

    some_bytes : (w : List ℕ) → IsDecimal w n ⊎ IsHexadecimal w n → is_some_bytes w ≡ true
    some_bytes w (inl d) = by_length w d.numeral.0
    some_bytes w (inr h) = ap is_some_bytes h.spelled

-- ---- the entry

pub entry_is : IsPrinted entry_text lines.Entry
entry_is =
    let word = fixed (codes ".entry") refl refl in
    printed entry_text (codes ".entry" ∷ []) lines.Entry (last_word (codes ".entry") word)
    (directive_says (codes ".entry") [] lines.Entry (directive_word (codes ".entry") (codes "entry") refl (λ e. absurd (omega arith))) tt (inr (_, refl, refl)))

-- ---- absolute labels

pub set_is : LabelsAreRead → (name : List ℕ) (k value : ℕ) → IsUtf8 name → k < 2 ^ 64 → value < 2 ^ 64 → IsPrinted (set_text name k value) (lines.Set (label name k) value)
set_is labels name k value utf8 small fits =
    let l = label_text name k in
    let x = codes "0x" ++ digits 16 false value in
    let text = joined_texts (codes "0x") (digits 16 false value) (easy_text (codes "0x") refl) (hexadecimal_text value fits) in
    let number = one_word x text refl in
    let name_word = before_comma l (label_is_text name k utf8 small) in
    let line = subst (λ (t : List ℕ). IsSpaced t ((l ++ 44 ∷ []) ∷ x ∷ [])) (append_assoc l (44 ∷ []) (32 ∷ x)) (more_words (l ++ 44 ∷ []) x (x ∷ []) name_word (last_word x number)) in
    printed (set_text name k value) (codes ".set" ∷ (l ++ 44 ∷ []) ∷ x ∷ []) (lines.Set (label name k) value)
    (more_words (codes ".set") (l ++ 44 ∷ 32 ∷ x) ((l ++ 44 ∷ []) ∷ x ∷ []) (fixed (codes ".set") refl refl) line)
    (directive_says (codes ".set") ((l ++ 44 ∷ []) ∷ x ∷ []) (lines.Set (label name k) value) (directive_word (codes ".set") (codes "set") refl (λ e. absurd (omega arith))) (name_word, (number, tt))
    (inr (_, refl, (l, label name k, value, refl, labels name k utf8 small, hexadecimal_is value fits, refl))))

-- ---- sections

quoted_label : (name : List ℕ) → IsUtf8 name → IsLabel (quoted name) (plain name)
quoted_label name utf8 = record {
  spelling = quoted name;
  ordinal = [];
  parts = sym (append-nil (quoted name));
  name_is = inr refl;
  utf8 = utf8;
  ordinal_is = refl;
}

pub section_is : (name : List ℕ) → IsUtf8 name → IsPrinted (section_text name) (lines.Section name)
section_is name utf8 =
    let q = quoted name in
    let word = one_word q (quoted_text name utf8) refl in
    printed (section_text name) (codes ".section" ∷ q ∷ []) (lines.Section name)
    (more_words (codes ".section") q (q ∷ []) (fixed (codes ".section") refl refl) (last_word q word))
    (directive_says (codes ".section") (q ∷ []) (lines.Section name) (directive_word (codes ".section") (codes "section") refl (λ e. absurd (omega arith))) (word, tt)
    (inr (_, refl, (name, quoted_label name utf8, refl))))

-- ---- intervals

identifier_is : (id : List ℕ) → IsId id → identifier_of (hyphenated_text lower id) ≡ Some id
identifier_is id is = sym (parses_hyphenated_text lower id (inl refl) is.len (All-from_recursion (λ b. b < 256) id is.bytes))

pub interval_is : (uuid : List ℕ) (align : ℕ) (residue : Option ℕ) → IsId uuid → IsAlignment align → IfSome residue (IsResidue align) → IsPrinted (interval_text uuid align residue) (lines.Interval uuid align residue)
interval_is uuid align None id fits none =
    let u = hyphenated_text lower uuid in
    let most = fits.1 in
    let id_word = one_word u (identifier_text uuid) (some_identifier uuid) in
    let small : align < 2 ^ 64 = omega arith in
    let align_word = some_decimal align small in
    let line = subst (λ (t : List ℕ). IsSpaced (u ++ 32 ∷ t) (u ∷ decimal align ∷ [])) (sym (append-nil (decimal align))) (more_words u (decimal align) (decimal align ∷ []) id_word (last_word (decimal align) align_word)) in
    printed (interval_text uuid align None) (codes ".interval" ∷ u ∷ decimal align ∷ []) (lines.Interval uuid align None)
    (more_words (codes ".interval") (u ++ 32 ∷ (decimal align ++ [])) (u ∷ decimal align ∷ []) (fixed (codes ".interval") refl refl) line)
    (directive_says (codes ".interval") (u ∷ decimal align ∷ []) (lines.Interval uuid align None) (directive_word (codes ".interval") (codes "interval") refl (λ e. absurd (omega arith))) (id_word, (align_word, tt))
    (inr (_, refl, (uuid, align, identifier_is uuid id, number_is align small, fits, refl))))
interval_is uuid align (Some residue) id fits suits =
    let u = hyphenated_text lower uuid in
    let most = fits.1 in
    let id_word = one_word u (identifier_text uuid) (some_identifier uuid) in
    let small : align < 2 ^ 64 = omega arith in
    let align_word = some_decimal align small in
    let below = suits.0 in
    let small_residue : residue < 2 ^ 64 = omega arith in
    let residue_word = some_decimal residue small_residue in
    let line = more_words u (decimal align ++ 32 ∷ decimal residue) (decimal align ∷ decimal residue ∷ []) id_word (more_words (decimal align) (decimal residue) (decimal residue ∷ []) align_word (last_word (decimal residue) residue_word)) in
    printed (interval_text uuid align (Some residue)) (codes ".interval" ∷ u ∷ decimal align ∷ decimal residue ∷ []) (lines.Interval uuid align (Some residue))
    (more_words (codes ".interval") (u ++ 32 ∷ (decimal align ++ 32 ∷ decimal residue)) (u ∷ decimal align ∷ decimal residue ∷ []) (fixed (codes ".interval") refl refl) line)
    (directive_says (codes ".interval") (u ∷ decimal align ∷ decimal residue ∷ []) (lines.Interval uuid align (Some residue)) (directive_word (codes ".interval") (codes "interval") refl (λ e. absurd (omega arith))) (id_word, (align_word, (residue_word, tt)))
    (inr (_, refl, (uuid, align, residue, identifier_is uuid id, number_is align small, fits, number_is residue small_residue, suits, refl))))

-- ---- labels

some_before : (w : List ℕ) (b : ℕ) → is_some_bytes (w ++ b ∷ []) ≡ true
some_before [] b = refl
some_before (c ∷ w) b = refl

pub label_line_is : LabelsAreRead → (name : List ℕ) (k : ℕ) → IsUtf8 name → k < 2 ^ 64 → IsPrinted (label_line name k) (lines.Label (label name k))
label_line_is labels name k utf8 small =
    let l = label_text name k in
    let text = joined_texts l (58 ∷ []) (label_is_text name k utf8 small) (easy_text (58 ∷ []) refl) in
    let word = one_word (l ++ 58 ∷ []) text (some_before l 58) in
    printed (label_line name k) ((l ++ 58 ∷ []) ∷ []) (lines.Label (label name k)) (last_word (l ++ 58 ∷ []) word) (inr (l, refl, labels name k utf8 small))
