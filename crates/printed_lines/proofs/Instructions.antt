-- The lines of words are read.
use Rattle.std.proofs.Common.{◌≡◌, ◌⊎◌, ◌==◌, ℕ, zero, suc, ◌+◌, ◌*◌, ◌^◌, ◌%◌, ◌/◌, ◌<◌, ◌≤◌, ℤ, pos, Bool, true, false, ◌&&◌, List, [], ◌∷◌, ◌++◌, length, get_or, Option, Some, None, IsSome, refl, sym, ap, subst, ◌∙◌, append_assoc, arith, inl, inr, lit≤}
use Rattle.std.specs.Prelude.{codes, if◌then◌else◌, is_some, unwrap_or, IsUtf8}
use Rattle.std.specs.Char.{digit_value}
use Rattle.std.specs.Int.{w32, to_be_bytes}
use Rattle.std.specs.List.{AllByRecursion}
use Rattle.std.specs.Option.{option_map, option_map_or}
use Rattle.std.specs.Ordering.{int_eq}
use Rattle.std.specs.Str.Parse.{AllDigits, digits_value, digits_value_after}
use Rattle.std.proofs.lemmas.Bool.{cases_Bool, cond-true, cond-false}
use Rattle.std.proofs.lemmas.Bool.Decides.{Decides-int_eq}
use Rattle.std.proofs.lemmas.List.{append-nil}
use Rattle.hex.specs.Hex.{encode_lower, encode_with, lower_digits}
use Rattle.hex.proofs.HexLemmas.{length-encode_with}
use Rattle.gt_model.specs.Typed.{AreBytes, IsI64}
use Rattle.a64_inst.specs.declared.kind.Kind.{Kind}
use Rattle.a64_inst.specs.Kinds.{operand, operand_kind}
use Rattle.a64_forms.specs.declared.form.Aim.{Aim}
use Rattle.a64_forms.specs.declared.form.Aim.TheVariants as aims
use Rattle.a64_forms.specs.Number.{IsNumber}
use Rattle.a64_forms.specs.Spelling.{IsSpelling, spelled}
use Rattle.asm_read.specs.Words.{is_some_bytes}
use Rattle.asm_lines.specs.declared.line.AsmItem.{AsmItem}
use Rattle.asm_lines.specs.declared.line.AsmItem.TheVariants as items
use Rattle.asm_lines.specs.declared.line.AsmLine.TheVariants as lines
use Rattle.asm_lines.specs.Instructions.{IsAimed, IsInstruction}
use Rattle.asm_spelling.specs.declared.named.Named.TheVariants.{Nothing, Label}
use Rattle.asm_spelling.specs.declared.written.Texts.{Texts}
use Rattle.asm_spelling.specs.Labels.{label_text, offset_text}
use Rattle.asm_spelling.specs.Slots.{aim_text, without_operand}
use Rattle.asm_spelling.specs.Words.{number_line, spaced, table_texts, word_line, word_texts}
use Rattle.printed_lines.specs.Lines.{IsPrinted, item_text, sum_of, sum_text}
use Rattle.printed_lines.specs.Words.{left_open, read_word}
use Rattle.printed_lines.proofs.Forms.{AreTexts, NamesText, chained, table_words}
use Rattle.printed_lines.proofs.Fragments.{encoded_text, label_is_text, offset_is_text, sum_is_text}
use Rattle.printed_lines.proofs.Items.{label_begins, one_operand, some_begun}
use Rattle.printed_lines.proofs.Marks.{fixed}
use Rattle.printed_lines.proofs.Numbers.{LabelsAreRead, sum_is}
use Rattle.printed_lines.proofs.Spaced.{IsSpaced, IsWord, before_comma, directive_says, directive_word, indented, instruction_says, last_word, more_words, one_word, printed, spaced_words}
use Rattle.printed_lines.proofs.Texts.{IsText, easy_text, joined_texts}

-- ---- words as numbers

table_value : (d : ℕ) → d < 16 → digit_value (get_or lower_digits d 0) ≡ d
table_value zero small = refl
table_value (suc zero) small = refl
table_value (suc (suc zero)) small = refl
table_value (suc (suc (suc zero))) small = refl
table_value (suc (suc (suc (suc zero)))) small = refl
table_value (suc (suc (suc (suc (suc zero))))) small = refl
table_value (suc (suc (suc (suc (suc (suc zero)))))) small = refl
table_value (suc (suc (suc (suc (suc (suc (suc zero))))))) small = refl
table_value (suc (suc (suc (suc (suc (suc (suc (suc zero)))))))) small = refl
table_value (suc (suc (suc (suc (suc (suc (suc (suc (suc zero))))))))) small = refl
table_value (suc (suc (suc (suc (suc (suc (suc (suc (suc (suc zero)))))))))) small = refl
table_value (suc (suc (suc (suc (suc (suc (suc (suc (suc (suc (suc zero))))))))))) small = refl
table_value (suc (suc (suc (suc (suc (suc (suc (suc (suc (suc (suc (suc zero)))))))))))) small = refl
table_value (suc (suc (suc (suc (suc (suc (suc (suc (suc (suc (suc (suc (suc zero))))))))))))) small = refl
table_value (suc (suc (suc (suc (suc (suc (suc (suc (suc (suc (suc (suc (suc (suc zero)))))))))))))) small = refl
table_value (suc (suc (suc (suc (suc (suc (suc (suc (suc (suc (suc (suc (suc (suc (suc zero))))))))))))))) small = refl
table_value (suc (suc (suc (suc (suc (suc (suc (suc (suc (suc (suc (suc (suc (suc (suc (suc d)))))))))))))))) small = absurd (omega arith)

-- the number of bytes behind others, the high one first
abbrev joined_value : ℕ → List ℕ → ℕ
joined_value n [] = n
joined_value n (b ∷ bytes) = joined_value (n * 256 + b) bytes

encoded_value : (n : ℕ) (bytes : List ℕ) → AreBytes bytes → digits_value_after 16 n (encode_lower bytes) ≡ joined_value n bytes
unfolding encode_with
encoded_value n [] all = refl
encoded_value n (b ∷ bytes) all =
    let small = all.0 in
    let high = table_value (b / 16) (omega arith) in
    let low = table_value (b % 16) (omega arith) in
    let is : (n * 16 + digit_value (get_or lower_digits (b / 16) 0)) * 16 + digit_value (get_or lower_digits (b % 16) 0) ≡ n * 256 + b = omega arith in
    ap (λ (m : ℕ). digits_value_after 16 m (encode_lower bytes)) is ∙ encoded_value (n * 256 + b) bytes all.1

encoded_digits : (bytes : List ℕ) → AreBytes bytes → AllDigits 16 (encode_lower bytes)
unfolding encode_with
encoded_digits [] all = tt
encoded_digits (b ∷ bytes) all =
    let small = all.0 in
    let high = table_value (b / 16) (omega arith) in
    let low = table_value (b % 16) (omega arith) in
    (omega arith, (omega arith, encoded_digits bytes all.1))

word_bytes : (word : ℕ) → AreBytes (to_be_bytes w32 word)
word_bytes word = (omega arith, (omega arith, (omega arith, (omega arith, tt))))

word_value : (word : ℕ) → word < 2 ^ 32 → joined_value 0 (to_be_bytes w32 word) ≡ word
word_value word small = omega arith

abbrev digits_of : ℕ → List ℕ
digits_of word = encode_lower (to_be_bytes w32 word)

word_number : (word : ℕ) → word < 2 ^ 32 → IsNumber (codes "0x" ++ digits_of word) word
word_number word small =
    let len : length (digits_of word) ≡ 8 = length-encode_with lower_digits (to_be_bytes w32 word) in
    let fits : word < 2 ^ 64 = omega arith in
    (inr (record { digits = digits_of word; spelled = refl; most = omega arith; numeral = (omega arith, encoded_digits (to_be_bytes w32 word) (word_bytes word)); value = sym (encoded_value 0 (to_be_bytes w32 word) (word_bytes word) ∙ word_value word small) }), fits)

number_text : (word : ℕ) → IsText (codes "0x" ++ digits_of word)
number_text word = joined_texts (codes "0x") (digits_of word) (easy_text (codes "0x") refl) (encoded_text (to_be_bytes w32 word) (word_bytes word))

number_alone : (word : ℕ) → word < 2 ^ 32 → IsPrinted (item_text (number_line word Nothing)) (lines.Item (items.Word word None))
number_alone word small =
    let x = codes "0x" ++ digits_of word in
    subst (λ (t : List ℕ). IsPrinted (item_text (codes ".inst 0x" ++ t)) (lines.Item (items.Word word None))) (sym (append-nil (digits_of word)))
    (one_operand (codes ".inst") x (lines.Item (items.Word word None)) (fixed (codes ".inst") refl refl) (directive_word (codes ".inst") (codes "inst") refl (λ e. absurd (omega arith)))
    (one_word x (number_text word) refl) (inr (_, refl, (word, word_number word small, small, refl))))

-- ---- words with an operand

some_label : (name : List ℕ) (k : ℕ) → is_some_bytes (label_text name k) ≡ true
some_label name k = subst (λ (t : List ℕ). is_some_bytes t ≡ true) (append-nil (label_text name k)) (some_begun (label_text name k ++ []) (label_begins name k []))

module _ (labels : LabelsAreRead) (word : ℕ) (name : List ℕ) (k : ℕ) (offset : ℤ) (small : word < 2 ^ 32) (utf8 : IsUtf8 name) (few : k < 2 ^ 64) (fits : IsI64 offset) where
  named_text : NamesText (Label (label_text name k) offset)
  named_text = (label_is_text name k utf8 few, offset_is_text offset fits, some_label name k)

  number_named : IsSome (operand_kind word) → IsPrinted (item_text (number_line word (Label (label_text name k) offset))) (lines.Item (items.Word word (Some (sum_of name k offset))))
  number_named has =
      let x = codes "0x" ++ digits_of word in
      let s = sum_text name k offset in
      let said = lines.Item (items.Word word (Some (sum_of name k offset))) in
      let number = before_comma x (number_text word) in
      let operand_word = one_word s (sum_is_text name k offset utf8 few fits) (some_begun s (label_begins name k (offset_text offset))) in
      let operands = more_words (x ++ 44 ∷ []) s (s ∷ []) number (last_word s operand_word) in
      let line = subst (λ (t : List ℕ). IsSpaced t ((x ++ 44 ∷ []) ∷ s ∷ [])) (append_assoc x (44 ∷ []) (32 ∷ s)) operands in
      printed (item_text (number_line word (Label (label_text name k) offset))) (codes ".inst" ∷ (x ++ 44 ∷ []) ∷ s ∷ []) said
      (indented (codes ".inst" ++ 32 ∷ (x ++ 44 ∷ 32 ∷ s)) (codes ".inst" ∷ (x ++ 44 ∷ []) ∷ s ∷ []) (more_words (codes ".inst") (x ++ 44 ∷ 32 ∷ s) ((x ++ 44 ∷ []) ∷ s ∷ []) (fixed (codes ".inst") refl refl) line))
      (directive_says (codes ".inst") ((x ++ 44 ∷ []) ∷ s ∷ []) said (directive_word (codes ".inst") (codes "inst") refl (λ e. absurd (omega arith))) (number, (operand_word, tt))
      (inr (_, refl, (x, word, sum_of name k offset, refl, word_number word small, (small, has), sum_is labels name k offset utf8 few fits, refl))))

-- ---- instructions

spaced_says : (ts : List (List ℕ)) (item : AsmItem) → AreTexts ts → IsInstruction ts item → IsPrinted (item_text (spaced ts)) (lines.Item item)
spaced_says ts item a is =
    subst (λ (us : List (List ℕ)). IsPrinted (item_text (spaced us)) (lines.Item item)) (sym a.are)
    (printed (item_text (spaced (a.mnemonic ∷ a.operands))) (a.mnemonic ∷ a.operands) (lines.Item item)
    (indented (spaced (a.mnemonic ∷ a.operands)) (a.mnemonic ∷ a.operands) (spaced_words a.mnemonic a.operands a.first a.rest))
    (instruction_says a.mnemonic a.operands item a.rest (subst (λ (us : List (List ℕ)). IsInstruction us item) a.are is)))

-- the laws of words that are written
abbrev pub PlainRead : Type 0
PlainRead = (word : ℕ) (x : Texts) → word_texts word Nothing ≡ Some x → IsSpelling x.texts (spelled word None)

abbrev pub NamedRead : Type 0
NamedRead = (word k : ℕ) (name : List ℕ) (offset : ℤ) (x : Texts) → word_texts word (Label (label_text name k) offset) ≡ Some x → (kind : Kind) × (aim : Aim) × (text : List ℕ) × (operand_kind word ≡ Some kind) × (aim_text aim (Label (label_text name k) offset) ≡ Some text) × IsSpelling x.texts (spelled (without_operand (operand kind) word) (Some (aim, text)))

pub plain_word_is : PlainRead → (word : ℕ) → word < 2 ^ 32 → IsPrinted (item_text (word_line word Nothing)) (lines.Item (items.Word word None))
plain_word_is plain word small = by_texts (word_texts word Nothing) refl
  where
    by_texts : (o : Option Texts) → word_texts word Nothing ≡ o → IsPrinted (item_text (unwrap_or (option_map (λ (x : Texts). spaced x.texts) o) (number_line word Nothing))) (lines.Item (items.Word word None))
    by_texts None e = number_alone word small
    by_texts (Some x) e = spaced_says x.texts (items.Word word None) (table_words word Nothing x tt e) (spelled word None, plain word x e, refl, tt)

same_values : {A : Type 0} (a b : A) → Some a ≡ Some b → a ≡ b
same_values a b e = cc

zero_offset : (z : ℤ) → int_eq z (pos 0) ≡ true → z ≡ pos 0
zero_offset z e = (Decides-int_eq z (pos 0)).0 e

aimed : LabelsAreRead → (name : List ℕ) (k : ℕ) (offset : ℤ) → IsUtf8 name → k < 2 ^ 64 → IsI64 offset → (aim : Aim) (text : List ℕ) → aim_text aim (Label (label_text name k) offset) ≡ Some text → IsAimed aim text (sum_of name k offset)
aimed labels name k offset utf8 few fits aims.Label text e = elim (cases_Bool (int_eq offset (pos 0))) [
  | inl none ↦
      let same : Some (label_text name k) ≡ Some text = sym (cond-true (int_eq offset (pos 0)) (Some (label_text name k)) None none) ∙ e in
      subst (λ (t : List ℕ). IsAimed aims.Label t (sum_of name k offset)) (same_values (label_text name k) text same) (labels name k utf8 few, zero_offset offset none)
  | inr some ↦
      let no : None ≡ Some text = sym (cond-false (int_eq offset (pos 0)) (Some (label_text name k)) None some) ∙ e in
      absurd cc
]
aimed labels name k offset utf8 few fits aims.Expression text e =
    subst (λ (t : List ℕ). IsAimed aims.Expression t (sum_of name k offset)) (same_values (sum_text name k offset) text e) (sum_is labels name k offset utf8 few fits)

pub named_word_is : LabelsAreRead → NamedRead → (word : ℕ) (name : List ℕ) (k : ℕ) (offset : ℤ) → word < 2 ^ 32 → IsUtf8 name → k < 2 ^ 64 → IsI64 offset → IsSome (operand_kind word)
    → IsPrinted (item_text (word_line word (Label (label_text name k) offset))) (lines.Item (items.Word (read_word word (Label (label_text name k) offset)) (Some (sum_of name k offset))))
named_word_is labels named word name k offset small utf8 few fits has = by_texts (word_texts word (Label (label_text name k) offset)) refl
  where
    instruction : (x : Texts) → word_texts word (Label (label_text name k) offset) ≡ Some x → IsInstruction x.texts (items.Word (left_open word) (Some (sum_of name k offset)))
    instruction x e =
        let r = named word k name offset x e in
        let open_is : left_open word ≡ without_operand (operand r.0) word = ap (λ (o : Option Kind). option_map_or (λ kind. without_operand (operand kind) word) o word) r.3 in
        (spelled (without_operand (operand r.0) word) (Some (r.1, r.2)), r.5, open_is, aimed labels name k offset utf8 few fits r.1 r.2 r.4)

    by_texts : (o : Option Texts) → word_texts word (Label (label_text name k) offset) ≡ o
        → IsPrinted (item_text (unwrap_or (option_map (λ (x : Texts). spaced x.texts) o) (number_line word (Label (label_text name k) offset)))) (lines.Item (items.Word (if is_some o then left_open word else word) (Some (sum_of name k offset))))
    by_texts None e = number_named labels word name k offset small utf8 few fits has
    by_texts (Some x) e =
        let c = chained (λ kind. table_texts (without_operand (operand kind) word) (Label (label_text name k) offset)) (operand_kind word) x e in
        spaced_says x.texts (items.Word (left_open word) (Some (sum_of name k offset)))
        (table_words (without_operand (operand c.0) word) (Label (label_text name k) offset) x (named_text labels word name k offset small utf8 few fits) c.2)
        (instruction x e)
