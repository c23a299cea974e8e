-- A printed layout reads back as itself.
use Rattle.std.proofs.Common.{◌≡◌, ◌==◌, ℕ, zero, suc, ◌+◌, ◌*◌, ◌/◌, ◌%◌, ◌^◌, ◌<◌, ◌≤◌, true, false, cond, Some, List, [], ◌∷◌, ◌++◌, length, refl, sym, ap, subst, ◌∙◌, append_assoc, arith, inl, inr, lit<, lit≤}
use Rattle.std.specs.Prelude.{codes}
use Rattle.std.specs.List.{AllByRecursion, flat_map}
use Rattle.std.specs.Fmt.{digits, digits_onto, digit_glyph}
use Rattle.std.specs.Str.Parse.{IsNumeral, digits_value}
use Rattle.std.proofs.Math.Nat.{div-lt_iff_lt-mul, pow-suc}
use Rattle.std.proofs.lemmas.Bool.{cond-true, cond-false, cases_Bool}
use Rattle.std.proofs.lemmas.Bool.Decides.{nat_tests}
use Rattle.std.proofs.lemmas.Fmt.{digits_is_IsNumeral}
use Rattle.std.proofs.lemmas.List.Elements.{All-from_recursion}
use Rattle.uuid.specs.Text.{by_index, lower, hex_digit, nibble, digit_place, is_hyphen_place, hyphenated_text}
use Rattle.uuid.proofs.RoundTrips.{parses_hyphenated_text}
use Rattle.gt_model.specs.Typed.{IsId}
use Rattle.asm_read.specs.Identifier.{identifier_of}
use Rattle.asm_read.specs.Number.{IsNumber}
use Rattle.asm_read.specs.Words.{is_some_bytes}
use Rattle.sym_expr.specs.declared.layout.Layout.{Layout}
use Rattle.sym_expr.specs.declared.layout.PlaceAt.{PlaceAt}
use Rattle.sym_expr.specs.Layouts.{IsStackSize, typed_place, typed_layout}
use Rattle.layout_plan.specs.declared.line.LayoutLine.{LayoutLine}
use Rattle.layout_plan.specs.declared.line.LayoutLine.TheVariants.{Place, Stack}
use Rattle.layout_plan.specs.declared.line.StackAt.{StackAt}
use Rattle.layout_plan.specs.Text.{lines_of, Says, Say, places_in, stacks_in, layout_text, hexadecimal, place_line, stack_line, spelling}
use Rattle.layout_plan.proofs.PlainWords.{IsPlain, ArePlain, plain_digits, all_append, joined, joined_bytes, utf8_line, plain_line, line_ends}

-- a number below 16 ^ j has j digits at most
few_digits : (k j n : ℕ) (acc : List ℕ) → n < 16 ^ suc j → length (digits_onto k 16 false n acc) ≤ suc j + length acc
few_digits zero j n acc small = omega arith
few_digits (suc k) zero n acc small =
    let below : n < 16 = small in
    let last : (n / 16 == 0) ≡ true = grind (arith, nat_tests) in
    subst (λ (l : List ℕ). length l ≤ 1 + length acc) (sym (cond-true (n / 16 == 0) (digit_glyph false (n % 16) ∷ acc) (digits_onto k 16 false (n / 16) (digit_glyph false (n % 16) ∷ acc)) last)) (omega arith)
few_digits (suc k) (suc j) n acc small =
    elim (cases_Bool (n / 16 == 0)) [
      | inl last ↦ subst (λ (l : List ℕ). length l ≤ suc (suc j) + length acc) (sym (cond-true (n / 16 == 0) (digit_glyph false (n % 16) ∷ acc) (digits_onto k 16 false (n / 16) (digit_glyph false (n % 16) ∷ acc)) last)) (omega arith)
      | inr more ↦
          let product : n < 16 ^ suc j * 16 = subst (λ m. n < m) (pow-suc 16 (suc j)) small in
          let rest = few_digits k j (n / 16) (digit_glyph false (n % 16) ∷ acc) ((div-lt_iff_lt-mul (lit< tt)).1 product) in
          subst (λ (l : List ℕ). length l ≤ suc (suc j) + length acc) (sym (cond-false (n / 16 == 0) (digit_glyph false (n % 16) ∷ acc) (digits_onto k 16 false (n / 16) (digit_glyph false (n % 16) ∷ acc)) more)) (omega arith)
    ]

hexadecimal_length : (n : ℕ) → n < 2 ^ 64 → length (digits 16 false n) ≤ 16
unfolding digits
hexadecimal_length n small = few_digits 64 15 n [] small

hexadecimal_digits : (n : ℕ) → n < 2 ^ 64 → IsNumeral 16 (digits 16 false n) × (digits_value 16 (digits 16 false n) ≡ n)
hexadecimal_digits n small = let most : 2 ^ 64 ≤ 16 ^ 64 = lit≤ tt in digits_is_IsNumeral 16 false (lit≤ tt) (lit≤ tt) n (omega arith)

pub hexadecimal_is : (n : ℕ) → n < 2 ^ 64 → IsNumber (hexadecimal n) n
hexadecimal_is n small =
    let is = hexadecimal_digits n small in
    (inr (record { digits = digits 16 false n; spelled = refl; most = hexadecimal_length n small; numeral = is.0; value = sym is.1 }), small)

plain_hexadecimal : (n : ℕ) → n < 2 ^ 64 → ArePlain (hexadecimal n)
plain_hexadecimal n small =
    let is = hexadecimal_digits n small in (
      record { low = omega arith; high = omega arith; no_quote = omega arith; no_slash = omega arith },
      (record { low = omega arith; high = omega arith; no_quote = omega arith; no_slash = omega arith }, plain_digits (digits 16 false n) is.0.1),
    )

-- the letters of an identifier
plain_hex_digit : (d : ℕ) → d < 16 → IsPlain (hex_digit lower d)
plain_hex_digit d small = record { low = grind (arith, nat_tests); high = grind (arith, nat_tests); no_quote = grind (arith, nat_tests); no_slash = grind (arith, nat_tests) }

nibble_small : (xs : List ℕ) (k : ℕ) → nibble xs k < 16
nibble_small xs k = grind (arith, nat_tests)

plain_hyphen : IsPlain 45
plain_hyphen = record { low = omega arith; high = omega arith; no_quote = omega arith; no_slash = omega arith }

plain_character : (xs : List ℕ) (k : ℕ) → IsPlain (cond (is_hyphen_place k) 45 (hex_digit lower (nibble xs (digit_place k))))
plain_character xs k =
    elim (cases_Bool (is_hyphen_place k)) [
      | inl hyphen ↦ subst IsPlain (sym (cond-true (is_hyphen_place k) 45 (hex_digit lower (nibble xs (digit_place k))) hyphen)) plain_hyphen
      | inr digit ↦ subst IsPlain (sym (cond-false (is_hyphen_place k) 45 (hex_digit lower (nibble xs (digit_place k))) digit)) (plain_hex_digit (nibble xs (digit_place k)) (nibble_small xs (digit_place k)))
    ]

all_by_index : (P : ℕ → Type 0) (n : ℕ) (f : ℕ → ℕ) → ((k : ℕ) → P (f k)) → AllByRecursion P (by_index n f)
unfolding by_index
all_by_index P zero f each = tt
all_by_index P (suc n) f each = all_append P (by_index n f) (f n ∷ []) (all_by_index P n f each) (each n, tt)

some_pushed : (xs : List ℕ) (x : ℕ) → is_some_bytes (xs ++ x ∷ []) ≡ true
some_pushed [] x = refl
some_pushed (y ∷ xs) x = refl

some_by_index : (n : ℕ) (f : ℕ → ℕ) → is_some_bytes (by_index (suc n) f) ≡ true
unfolding by_index
some_by_index n f = some_pushed (by_index n f) (f n)

plain_identifier : (id : List ℕ) → ArePlain (hyphenated_text lower id)
plain_identifier id = all_by_index IsPlain 36 (λ k. cond (is_hyphen_place k) 45 (hex_digit lower (nibble id (digit_place k)))) (plain_character id)

some_identifier : (id : List ℕ) → is_some_bytes (hyphenated_text lower id) ≡ true
some_identifier id = some_by_index 35 (λ k. cond (is_hyphen_place k) 45 (hex_digit lower (nibble id (digit_place k))))

identifier_is : (id : List ℕ) → IsId id → identifier_of (hyphenated_text lower id) ≡ Some id
identifier_is id is = sym (parses_hyphenated_text lower id (inl refl) is.len (All-from_recursion (λ b. b < 256) id is.bytes))

letter : (b : ℕ) → 97 ≤ b → b ≤ 122 → IsPlain b
letter b low high = record { low = omega arith; high = omega arith; no_quote = omega arith; no_slash = omega arith }

plain_place : ArePlain (codes "place")
plain_place = (letter 112 (lit≤ tt) (lit≤ tt), (letter 108 (lit≤ tt) (lit≤ tt), (letter 97 (lit≤ tt) (lit≤ tt), (letter 99 (lit≤ tt) (lit≤ tt), (letter 101 (lit≤ tt) (lit≤ tt), tt)))))

plain_stack : ArePlain (codes "stack")
plain_stack = (letter 115 (lit≤ tt) (lit≤ tt), (letter 116 (lit≤ tt) (lit≤ tt), (letter 97 (lit≤ tt) (lit≤ tt), (letter 99 (lit≤ tt) (lit≤ tt), (letter 107 (lit≤ tt) (lit≤ tt), tt)))))

-- the lines without their ends
abbrev place_words : PlaceAt → List ℕ
place_words p = joined (codes "place") (hyphenated_text lower p.interval) (hexadecimal p.at)

abbrev stack_words : ℕ → ℕ → List ℕ
stack_words at size = joined (codes "stack") (hexadecimal at) (hexadecimal size)

says_place : (p : PlaceAt) → typed_place p → Says (place_words p) (Place p)
says_place p typed =
    let id = hyphenated_text lower p.interval in
    let at = plain_hexadecimal p.at typed.at in
    record {
      utf8 = utf8_line (place_words p) (joined_bytes (codes "place") id (hexadecimal p.at) plain_place (plain_identifier p.interval) at);
      words = codes "place" ∷ id ∷ hexadecimal p.at ∷ [];
      has = plain_line (codes "place") id (hexadecimal p.at) refl (some_identifier p.interval) refl plain_place (plain_identifier p.interval) at;
      say = (codes "place", id, hexadecimal p.at, refl, (refl, record { interval_is = identifier_is p.interval typed.interval; at_is = hexadecimal_is p.at typed.at }));
    }

says_stack : (at size : ℕ) → at < 2 ^ 64 → IsStackSize size → Says (stack_words at size) (Stack (record { at = at; size = size }))
says_stack at size small fits =
    let most = fits.most in
    let size_small : size < 2 ^ 64 = omega arith in
    let a = plain_hexadecimal at small in
    let b = plain_hexadecimal size size_small in
    record {
      utf8 = utf8_line (stack_words at size) (joined_bytes (codes "stack") (hexadecimal at) (hexadecimal size) plain_stack a b);
      words = codes "stack" ∷ hexadecimal at ∷ hexadecimal size ∷ [];
      has = plain_line (codes "stack") (hexadecimal at) (hexadecimal size) refl refl refl plain_stack a b;
      say = (codes "stack", hexadecimal at, hexadecimal size, refl, (refl, record { at_is = hexadecimal_is at small; size_is = hexadecimal_is size size_small; size_fits = fits }));
    }

place_splits : (p : PlaceAt) (rest : List ℕ) → typed_place p → lines_of (place_line p ++ rest) ≡ place_words p ∷ lines_of rest
place_splits p rest typed =
    let shape : place_line p ++ rest ≡ place_words p ++ 10 ∷ rest = simp append_assoc in
    ap lines_of shape
    ∙ line_ends (place_words p) rest (joined_bytes (codes "place") (hyphenated_text lower p.interval) (hexadecimal p.at) plain_place (plain_identifier p.interval) (plain_hexadecimal p.at typed.at))

stack_splits : (at size : ℕ) → at < 2 ^ 64 → size < 2 ^ 64 → lines_of (stack_line at size) ≡ stack_words at size ∷ []
stack_splits at size small size_small =
    let shape : stack_line at size ≡ stack_words at size ++ 10 ∷ [] = simp append_assoc in
    ap lines_of shape
    ∙ line_ends (stack_words at size) [] (joined_bytes (codes "stack") (hexadecimal at) (hexadecimal size) plain_stack (plain_hexadecimal at small) (plain_hexadecimal size size_small))

-- places and then the stack
abbrev sayings : List PlaceAt → StackAt → List LayoutLine
sayings [] s = Stack s ∷ []
sayings (p ∷ ps) s = Place p ∷ sayings ps s

all_say : (ps : List PlaceAt) (at size : ℕ) → AllByRecursion typed_place ps → at < 2 ^ 64 → IsStackSize size
    → Say (lines_of (flat_map place_line ps ++ stack_line at size)) (sayings ps (record { at = at; size = size }))
all_say [] at size typed small fits =
    let most = fits.most in
    subst (λ ls. Say ls (Stack (record { at = at; size = size }) ∷ [])) (sym (stack_splits at size small (omega arith))) (says_stack at size small fits, tt)
all_say (p ∷ ps) at size typed small fits =
    let rest = flat_map place_line ps ++ stack_line at size in
    subst (λ ls. Say ls (sayings (p ∷ ps) (record { at = at; size = size })))
    (sym (ap lines_of (append_assoc (place_line p) (flat_map place_line ps) (stack_line at size)) ∙ place_splits p rest typed.0))
    (says_place p typed.0, all_say ps at size typed.1 small fits)

places_said : (ps : List PlaceAt) (s : StackAt) → ps ≡ places_in (sayings ps s)
places_said [] s = refl
places_said (p ∷ ps) s = ap (λ l. p ∷ l) (places_said ps s)

stack_said : (ps : List PlaceAt) (s : StackAt) → stacks_in (sayings ps s) ≡ s ∷ []
stack_said [] s = refl
stack_said (p ∷ ps) s = stack_said ps s

pub reads_back : (layout : Layout) → typed_layout layout → IsStackSize layout.stack_size → layout_text (spelling layout) layout
reads_back layout typed fits =
    let s : StackAt = record { at = layout.stack_at; size = layout.stack_size } in
    record {
      said = sayings layout.places s;
      say = all_say layout.places layout.stack_at layout.stack_size typed.places typed.stack_at fits;
      places = places_said layout.places s;
      stack = stack_said layout.places s;
    }
