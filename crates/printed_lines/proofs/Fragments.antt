-- Names, labels, numbers and identifiers are texts.
use Rattle.std.proofs.Common.{◌≡◌, ◌≢◌, ◌⊎◌, ◌==◌, ℕ, zero, suc, ◌+◌, ◌^◌, ◌<◌, ◌≤◌, ◌%◌, ◌/◌, ℤ, pos, negsuc, Bool, true, false, cond, ◌&&◌, ◌||◌, List, [], ◌∷◌, ◌++◌, length, get_or, refl, sym, ap, subst, ◌∙◌, arith, inl, inr, lit≤}
use Rattle.std.specs.Prelude.{codes, int_lt, nat_lt, if◌then◌else◌}
use Rattle.std.specs.Char.{digit_value}
use Rattle.std.specs.Fmt.{decimal, digits, signed_decimal}
use Rattle.std.specs.List.{AllByRecursion, list_all}
use Rattle.std.specs.Str.{IsUtf8}
use Rattle.std.specs.Str.Parse.{AllDigits}
use Rattle.std.proofs.lemmas.Bool.{and_parts, cases_Bool, cond-true, cond-false}
use Rattle.std.proofs.lemmas.Bool.Decides.{nat_tests}
use Rattle.std.proofs.lemmas.Fmt.{decimal_is_IsNumeral, digits_is_IsNumeral}
use Rattle.hex.specs.Hex.{encode_lower, encode_with, lower_digits}
use Rattle.uuid.specs.Text.{by_index, lower, hex_digit, nibble, digit_place, is_hyphen_place, hyphenated_text}
use Rattle.asm_read.specs.Words.{is_some_bytes}
use Rattle.asm_lines.specs.Labels.{begins_bare, quoted}
use Rattle.asm_spelling.specs.Labels.{is_bare, is_bare_byte, label_text, name_text, offset_text, ordinal_text}
use Rattle.gt_model.specs.Typed.{AreBytes, IsI64}
use Rattle.printed_lines.specs.Lines.{difference_text, quarter_text, sum_text}
use Rattle.printed_lines.proofs.Texts.{IsEasy, IsText, easy_byte, easy_is, easy_text, is_easy, joined_texts, no_text, quarter, quoted_text}

pub easy_bytes : (w : List ℕ) → AllByRecursion IsEasy w → IsText w
easy_bytes [] e = no_text
easy_bytes (b ∷ w) e = joined_texts (b ∷ []) w (easy_byte b e.0) (easy_bytes w e.1)

-- ---- names and labels

bare_byte : (b : ℕ) → is_bare_byte b ≡ true → IsEasy b
bare_byte b e = record { low = grind (arith, nat_tests); high = grind (arith, nat_tests); no_quote = grind (arith, nat_tests); no_slash = grind (arith, nat_tests); no_comma = grind (arith, nat_tests) }

left_true : (a b : Bool) → a ≡ true → (a || b) ≡ true
left_true true b e = refl
left_true false b e = cc

bare_bytes : (w : List ℕ) → list_all is_bare_byte w ≡ true → AllByRecursion IsEasy w
bare_bytes [] e = tt
bare_bytes (b ∷ w) e = let p = and_parts (is_bare_byte b) (list_all is_bare_byte w) e in (bare_byte b p.0, bare_bytes w p.1)

bare_name : (name : List ℕ) → is_bare name ≡ true → AllByRecursion IsEasy name
bare_name [] e = tt
bare_name (b ∷ w) e = let p = and_parts (begins_bare b) (list_all is_bare_byte w) e in (bare_byte b (left_true (begins_bare b) _ p.0), bare_bytes w p.1)

pub name_is_text : (name : List ℕ) → IsUtf8 name → IsText (name_text name)
name_is_text name utf8 = elim (cases_Bool (is_bare name)) [
  | inl bare ↦ subst IsText (sym (cond-true (is_bare name) name (quoted name) bare)) (easy_bytes name (bare_name name bare))
  | inr more ↦ subst IsText (sym (cond-false (is_bare name) name (quoted name) more)) (quoted_text name utf8)
]

pub digit_easy : (c : ℕ) → digit_value c < 16 → IsEasy c
digit_easy c h = record { low = grind (arith, nat_tests); high = grind (arith, nat_tests); no_quote = grind (arith, nat_tests); no_slash = grind (arith, nat_tests); no_comma = grind (arith, nat_tests) }

digits_easy : (base : ℕ) (w : List ℕ) → base ≤ 16 → AllDigits base w → AllByRecursion IsEasy w
digits_easy base [] most all = tt
digits_easy base (c ∷ w) most all = let first = all.0 in (digit_easy c (omega arith), digits_easy base w most all.1)

pub decimal_text : (n : ℕ) → n < 2 ^ 64 → IsText (decimal n)
decimal_text n small = let is = decimal_is_IsNumeral n small in easy_bytes (decimal n) (digits_easy 10 (decimal n) (omega arith) is.0.1)

pub hexadecimal_text : (n : ℕ) → n < 2 ^ 64 → IsText (digits 16 false n)
hexadecimal_text n small =
    let most : 2 ^ 64 ≤ 16 ^ 64 = lit≤ tt in
    let is = digits_is_IsNumeral 16 false (lit≤ tt) (lit≤ tt) n (omega arith) in
    easy_bytes (digits 16 false n) (digits_easy 16 (digits 16 false n) (omega arith) is.0.1)

ordinal_is_text : (k : ℕ) → k < 2 ^ 64 → IsText (ordinal_text k)
ordinal_is_text k small = by_test (nat_lt 1 k)
  where
    by_test : (b : Bool) → IsText (if b then codes "#" ++ decimal k else [])
    by_test true = joined_texts (codes "#") (decimal k) (easy_text (codes "#") refl) (decimal_text k small)
    by_test false = no_text

pub label_is_text : (name : List ℕ) (k : ℕ) → IsUtf8 name → k < 2 ^ 64 → IsText (label_text name k)
label_is_text name k utf8 small = joined_texts (name_text name) (ordinal_text k) (name_is_text name utf8) (ordinal_is_text k small)

-- ---- offsets

-- its digits without a sign have at most 64 bits
abbrev pub IsSmall : ℤ → Type 0
IsSmall (pos n) = n < 2 ^ 64
IsSmall (negsuc n) = suc n < 2 ^ 64

pub signed_text : (z : ℤ) → IsSmall z → IsText (signed_decimal z)
signed_text (pos n) small = decimal_text n small
signed_text (negsuc n) small = joined_texts (45 ∷ []) (decimal (suc n)) (easy_text (45 ∷ []) refl) (decimal_text (suc n) small)

pub small_offset : (z : ℤ) → IsI64 z → IsSmall z
small_offset (pos n) small = omega arith
small_offset (negsuc n) small = omega arith

pub offset_is_text : (z : ℤ) → IsI64 z → IsText (offset_text z)
offset_is_text z small = by_tests (int_lt z (pos 0)) (int_lt (pos 0) z)
  where
    by_tests : (a b : Bool) → IsText (if a then signed_decimal z else if b then codes "+" ++ signed_decimal z else [])
    by_tests true b = signed_text z (small_offset z small)
    by_tests false true = joined_texts (codes "+") (signed_decimal z) (easy_text (codes "+") refl) (signed_text z (small_offset z small))
    by_tests false false = no_text

pub sum_is_text : (name : List ℕ) (k : ℕ) (offset : ℤ) → IsUtf8 name → k < 2 ^ 64 → IsI64 offset → IsText (sum_text name k offset)
sum_is_text name k offset utf8 small fits = joined_texts (label_text name k) (offset_text offset) (label_is_text name k utf8 small) (offset_is_text offset fits)

pub difference_is_text : (name : List ℕ) (k : ℕ) (other : List ℕ) (n : ℕ) (offset : ℤ) → IsUtf8 name → k < 2 ^ 64 → IsUtf8 other → n < 2 ^ 64 → IsI64 offset → IsText (difference_text name k other n offset)
difference_is_text name k other n offset utf8 small utf8_other small_other fits =
    joined_texts (label_text name k) (45 ∷ sum_text other n offset) (label_is_text name k utf8 small)
    (joined_texts (45 ∷ []) (sum_text other n offset) (easy_text (45 ∷ []) refl) (sum_is_text other n offset utf8_other small_other fits))

pub quarter_is_text : (name : List ℕ) (k : ℕ) (other : List ℕ) (n : ℕ) → IsUtf8 name → k < 2 ^ 64 → IsUtf8 other → n < 2 ^ 64 → IsText (quarter_text name k other n)
quarter_is_text name k other n utf8 small utf8_other small_other =
    joined_texts (40 ∷ []) (label_text name k ++ 45 ∷ (label_text other n ++ codes ")/4")) (easy_text (40 ∷ []) refl)
    (joined_texts (label_text name k) (45 ∷ (label_text other n ++ codes ")/4")) (label_is_text name k utf8 small)
    (joined_texts (45 ∷ []) (label_text other n ++ codes ")/4") (easy_text (45 ∷ []) refl)
    (joined_texts (label_text other n) (codes ")/4") (label_is_text other n utf8_other small_other)
    (joined_texts (41 ∷ []) (47 ∷ 52 ∷ []) (easy_text (41 ∷ []) refl) quarter))))

-- ---- identifiers and bytes

hex_digit_easy : (d : ℕ) → d < 16 → IsEasy (hex_digit lower d)
hex_digit_easy d small = record { low = grind (arith, nat_tests); high = grind (arith, nat_tests); no_quote = grind (arith, nat_tests); no_slash = grind (arith, nat_tests); no_comma = grind (arith, nat_tests) }

nibble_small : (xs : List ℕ) (k : ℕ) → nibble xs k < 16
nibble_small xs k = grind (arith, nat_tests)

hyphen_easy : IsEasy 45
hyphen_easy = record { low = omega arith; high = omega arith; no_quote = omega arith; no_slash = omega arith; no_comma = omega arith }

character_easy : (xs : List ℕ) (k : ℕ) → IsEasy (cond (is_hyphen_place k) 45 (hex_digit lower (nibble xs (digit_place k))))
character_easy xs k =
    elim (cases_Bool (is_hyphen_place k)) [
      | inl hyphen ↦ subst IsEasy (sym (cond-true (is_hyphen_place k) 45 (hex_digit lower (nibble xs (digit_place k))) hyphen)) hyphen_easy
      | inr digit ↦ subst IsEasy (sym (cond-false (is_hyphen_place k) 45 (hex_digit lower (nibble xs (digit_place k))) digit)) (hex_digit_easy (nibble xs (digit_place k)) (nibble_small xs (digit_place k)))
    ]

text_by_index : (n : ℕ) (f : ℕ → ℕ) → ((k : ℕ) → IsEasy (f k)) → IsText (by_index n f)
unfolding by_index
text_by_index zero f each = no_text
text_by_index (suc n) f each = joined_texts (by_index n f) (f n ∷ []) (text_by_index n f each) (easy_byte (f n) (each n))

some_pushed : (xs : List ℕ) (x : ℕ) → is_some_bytes (xs ++ x ∷ []) ≡ true
some_pushed [] x = refl
some_pushed (y ∷ xs) x = refl

some_by_index : (n : ℕ) (f : ℕ → ℕ) → is_some_bytes (by_index (suc n) f) ≡ true
unfolding by_index
some_by_index n f = some_pushed (by_index n f) (f n)

pub identifier_text : (id : List ℕ) → IsText (hyphenated_text lower id)
identifier_text id = text_by_index 36 (λ k. cond (is_hyphen_place k) 45 (hex_digit lower (nibble id (digit_place k)))) (character_easy id)

pub some_identifier : (id : List ℕ) → is_some_bytes (hyphenated_text lower id) ≡ true
some_identifier id = some_by_index 35 (λ k. cond (is_hyphen_place k) 45 (hex_digit lower (nibble id (digit_place k))))

all_easy : (w : List ℕ) → list_all is_easy w ≡ true → AllByRecursion IsEasy w
all_easy [] e = tt
all_easy (b ∷ w) e = let p = and_parts (is_easy b) (list_all is_easy w) e in (easy_is b p.0, all_easy w p.1)

easy_at : (w : List ℕ) (d : ℕ) → AllByRecursion IsEasy w → d < length w → IsEasy (get_or w d 0)
easy_at [] d all h = absurd (omega arith)
easy_at (b ∷ w) zero all h = all.0
easy_at (b ∷ w) (suc d) all h = easy_at w d all.1 (omega arith)

table_easy : (d : ℕ) → d < 16 → IsEasy (get_or lower_digits d 0)
table_easy d small = easy_at lower_digits d (all_easy lower_digits refl) small

pub encoded_text : (bytes : List ℕ) → AreBytes bytes → IsText (encode_lower bytes)
unfolding encode_with
encoded_text [] all = no_text
encoded_text (b ∷ bytes) all =
    let small = all.0 in
    let rest = encode_lower bytes in
    joined_texts (get_or lower_digits (b / 16) 0 ∷ []) (get_or lower_digits (b % 16) 0 ∷ rest) (easy_byte (get_or lower_digits (b / 16) 0) (table_easy (b / 16) (omega arith)))
    (joined_texts (get_or lower_digits (b % 16) 0 ∷ []) rest (easy_byte (get_or lower_digits (b % 16) 0) (table_easy (b % 16) (omega arith))) (encoded_text bytes all.1))

pub some_encoded : (bytes : List ℕ) → (bytes ≡ [] → ⊥) → is_some_bytes (encode_lower bytes) ≡ true
unfolding encode_with
some_encoded [] some = absurd (some refl)
some_encoded (b ∷ bytes) some = refl
