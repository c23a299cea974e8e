-- Words of plain bytes, and the lines that they make.
use Rattle.std.proofs.Common.{◌≡◌, ◌≢◌, ◌==◌, ℕ, zero, suc, ◌<◌, ◌≤◌, true, false, List, [], ◌∷◌, ◌++◌, get_or, filter, map, refl, sym, ap, ◌∙◌, arith, inl}
use Rattle.std.specs.List.{AllByRecursion, flat_map}
use Rattle.std.specs.Char.{digit_value}
use Rattle.std.specs.Str.{IsUtf8}
use Rattle.std.specs.Str.Parse.{AllDigits}
use Rattle.std.proofs.lemmas.Bool.{cond-false}
use Rattle.std.proofs.lemmas.Bool.Decides.{nat_tests}
use Rattle.std.proofs.lemmas.List.{append-nil}
use Rattle.std.proofs.lemmas.Str.{IsUtf8-from_ascii}
use Rattle.asm_read.specs.Words.{is_white, Bare, bytes_of, before_first, runs, is_some_bytes, words_in, ArePieces, HasWords}
use Rattle.layout_plan.specs.Text.{lines_of}

-- a byte of ASCII that is no white space, no quote and no slash
pub record IsPlain (b : ℕ) : Type 0 where
  pub low : 33 ≤ b
  pub high : b < 128
  pub no_quote : b ≢ 34
  pub no_slash : b ≢ 47

abbrev pub ArePlain : List ℕ → Type 0
ArePlain xs = AllByRecursion IsPlain xs

pub plain_digit : (c : ℕ) → digit_value c < 16 → IsPlain c
plain_digit c h = record { low = grind (arith, nat_tests); high = grind (arith, nat_tests); no_quote = grind (arith, nat_tests); no_slash = grind (arith, nat_tests) }

pub plain_digits : (xs : List ℕ) → AllDigits 16 xs → ArePlain xs
plain_digits [] all = tt
plain_digits (x ∷ xs) all = (plain_digit x all.0, plain_digits xs all.1)

pub all_append : (P : ℕ → Type 0) (xs ys : List ℕ) → AllByRecursion P xs → AllByRecursion P ys → AllByRecursion P (xs ++ ys)
all_append P [] ys a b = b
all_append P (x ∷ xs) ys a b = (a.0, all_append P xs ys a.1 b)

-- a byte that may stand in a line of plain words
pub record IsLineByte (b : ℕ) : Type 0 where
  pub high : b < 128
  pub no_end : b ≢ 10
  pub no_quote : b ≢ 34
  pub no_slash : b ≢ 47

line_byte : (b : ℕ) → IsPlain b → IsLineByte b
line_byte b p = let low = p.low in record { high = p.high; no_end = omega arith; no_quote = p.no_quote; no_slash = p.no_slash }

line_bytes : (xs : List ℕ) → ArePlain xs → AllByRecursion IsLineByte xs
line_bytes [] all = tt
line_bytes (x ∷ xs) all = (line_byte x all.0, line_bytes xs all.1)

space : IsLineByte 32
space = record { high = omega arith; no_end = omega arith; no_quote = omega arith; no_slash = omega arith }

-- three words with a space between
abbrev pub joined : (a b c : List ℕ) → List ℕ
joined a b c = a ++ 32 ∷ (b ++ 32 ∷ c)

pub joined_bytes : (a b c : List ℕ) → ArePlain a → ArePlain b → ArePlain c → AllByRecursion IsLineByte (joined a b c)
joined_bytes a b c x y z = all_append IsLineByte a _ (line_bytes a x) (space, all_append IsLineByte b _ (line_bytes b y) (space, line_bytes c z))

ascii_at : (xs : List ℕ) → AllByRecursion IsLineByte xs → (i : ℕ) → get_or xs i 0 < 128
ascii_at [] all i = omega arith
ascii_at (x ∷ xs) all zero = all.0.high
ascii_at (x ∷ xs) all (suc i) = ascii_at xs all.1 i

pub utf8_line : (xs : List ℕ) → AllByRecursion IsLineByte xs → IsUtf8 xs
utf8_line xs all = IsUtf8-from_ascii xs (ascii_at xs all)

-- each byte is a piece
bare_bytes : (xs : List ℕ) → flat_map bytes_of (map Bare xs) ≡ xs
bare_bytes [] = refl
bare_bytes (x ∷ xs) = ap (λ l. x ∷ l) (bare_bytes xs)

bare_pieces : (xs : List ℕ) → AllByRecursion IsLineByte xs → ArePieces (map Bare xs) []
bare_pieces [] all = tt
bare_pieces (x ∷ xs) all = (all.0.no_quote, λ comment. all.0.no_slash (begins x (flat_map bytes_of (map Bare xs) ++ []) comment.0 comment.1), bare_pieces xs all.1)
  where
    begins : (x : ℕ) (rest behind : List ℕ) → x ∷ rest ≡ 47 ∷ 47 ∷ behind → x ≡ 47
    begins x rest behind e = cc

not_white : (x : ℕ) → IsPlain x → is_white x ≡ false
not_white x p = let low = p.low in grind (arith, nat_tests)

before_twice : (x y : ℕ) (xs : List ℕ) (rs : List (List ℕ)) → before_first (x ∷ []) (before_first (y ∷ xs) rs) ≡ before_first (x ∷ y ∷ xs) rs
before_twice x y xs [] = refl
before_twice x y xs (r ∷ rs) = refl

runs_word : (x : ℕ) (xs ys : List ℕ) → ArePlain (x ∷ xs) → runs (map Bare ((x ∷ xs) ++ ys)) ≡ before_first (x ∷ xs) (runs (map Bare ys))
runs_word x [] ys all = cond-false (is_white x) ([] ∷ runs (map Bare ys)) (before_first (x ∷ []) (runs (map Bare ys))) (not_white x all.0)
runs_word x (y ∷ xs) ys all =
    cond-false (is_white x) ([] ∷ runs (map Bare ((y ∷ xs) ++ ys))) (before_first (x ∷ []) (runs (map Bare ((y ∷ xs) ++ ys)))) (not_white x all.0)
    ∙ ap (before_first (x ∷ [])) (runs_word y xs ys all.1) ∙ before_twice x y xs (runs (map Bare ys))

words_of : (a : ℕ) (xs : List ℕ) (b : ℕ) (ys : List ℕ) (c : ℕ) (zs : List ℕ) → ArePlain (a ∷ xs) → ArePlain (b ∷ ys) → ArePlain (c ∷ zs)
    → words_in (map Bare (joined (a ∷ xs) (b ∷ ys) (c ∷ zs))) ≡ (a ∷ xs) ∷ (b ∷ ys) ∷ (c ∷ zs) ∷ []
words_of a xs b ys c zs px py pz =
    let last : runs (map Bare (c ∷ zs)) ≡ (c ∷ zs) ∷ [] =
    ap (λ l. runs (map Bare l)) (sym (append-nil (c ∷ zs))) ∙ runs_word c zs [] pz ∙ ap (λ l. l ∷ []) (append-nil (c ∷ zs)) in
    let middle : runs (map Bare ((b ∷ ys) ++ 32 ∷ (c ∷ zs))) ≡ (b ∷ ys) ∷ (c ∷ zs) ∷ [] =
    runs_word b ys (32 ∷ c ∷ zs) py ∙ ap (λ rs. before_first (b ∷ ys) ([] ∷ rs)) last ∙ ap (λ l. l ∷ (c ∷ zs) ∷ []) (append-nil (b ∷ ys)) in
    let all : runs (map Bare (joined (a ∷ xs) (b ∷ ys) (c ∷ zs))) ≡ (a ∷ xs) ∷ (b ∷ ys) ∷ (c ∷ zs) ∷ [] =
    runs_word a xs (32 ∷ ((b ∷ ys) ++ 32 ∷ (c ∷ zs))) px ∙ ap (λ rs. before_first (a ∷ xs) ([] ∷ rs)) middle ∙ ap (λ l. l ∷ (b ∷ ys) ∷ (c ∷ zs) ∷ []) (append-nil (a ∷ xs)) in
    ap (filter is_some_bytes) all

pub plain_line : (a b c : List ℕ) → is_some_bytes a ≡ true → is_some_bytes b ≡ true → is_some_bytes c ≡ true → ArePlain a → ArePlain b → ArePlain c
    → HasWords (joined a b c) (a ∷ b ∷ c ∷ [])
plain_line [] b c some_a some_b some_c px py pz = cc
plain_line (a ∷ xs) [] c some_a some_b some_c px py pz = cc
plain_line (a ∷ xs) (b ∷ ys) [] some_a some_b some_c px py pz = cc
plain_line (a ∷ xs) (b ∷ ys) (c ∷ zs) some_a some_b some_c px py pz =
    let line = joined (a ∷ xs) (b ∷ ys) (c ∷ zs) in
    record {
      pieces = map Bare line;
      comment = [];
      parts = sym (bare_bytes line) ∙ sym (append-nil (flat_map bytes_of (map Bare line)));
      each = bare_pieces line (joined_bytes (a ∷ xs) (b ∷ ys) (c ∷ zs) px py pz);
      ends = inl refl;
      are = sym (words_of a xs b ys c zs px py pz);
    }

-- a line that ends
pub line_ends : (xs rest : List ℕ) → AllByRecursion IsLineByte xs → lines_of (xs ++ 10 ∷ rest) ≡ xs ∷ lines_of rest
line_ends [] rest all = refl
line_ends (x ∷ xs) rest all =
    let no_end = all.0.no_end in
    let test : (x == 10) ≡ false = grind (arith, nat_tests) in
    cond-false (x == 10) ([] ∷ lines_of (xs ++ 10 ∷ rest)) (before_first (x ∷ []) (lines_of (xs ++ 10 ∷ rest))) test ∙ ap (before_first (x ∷ [])) (line_ends xs rest all.1)
