-- Bytes and words of an interval whose contents are known from an offset on.
use Rattle.std.proofs.Common.{◌≡◌, ℕ, ◌+◌, ◌*◌, ◌/◌, ◌%◌, ◌^◌, ◌<◌, List, [], ◌∷◌, ◌++◌, length, map, get_or, None, refl, sym, ap, ◌∙◌, arith}
use Rattle.std.specs.Int.{w32, from_le_bytes}
use Rattle.std.specs.List.{AllByRecursion as Every, flat_map}
use Rattle.std.proofs.lemmas.List.{append_assoc, get_or-append-add, length-append}
use Rattle.block_parts.specs.declared.words.PatchedWord.{PatchedWord}
use Rattle.gt_model.specs.declared.intervals.Interval.{Interval}
use Rattle.gt_model.specs.declared.modules.Module.{Module}
use Rattle.repaired_programs.specs.Pieces.{bare_word, plain_word}
use Rattle.sym_expr.specs.Images.{bytes_of}
use Rattle.sym_expr.specs.Modules.{byte_at, bytes_at}
use Rattle.sym_expr.specs.Patches.{no_patches}
use Rattle.sym_expr.specs.Program.{own_words}

-- the interval has these bytes from an offset on
pub record IsAhead (j : Interval) (at : ℕ) (rest : List ℕ) : Type 0 where
  pub front : List ℕ
  pub size : length front ≡ at
  pub whole : j.contents ≡ front ++ rest

pub ahead_on : (j : Interval) (at to : ℕ) (rest more : List ℕ) → at ≡ to → rest ≡ more → IsAhead j at rest → IsAhead j to more
ahead_on j at to rest more e f h = record { front = h.front; size = h.size ∙ e; whole = h.whole ∙ ap (λ l. h.front ++ l) f }

pub advance : (j : Interval) (at : ℕ) (bytes rest : List ℕ) → IsAhead j at (bytes ++ rest) → IsAhead j (at + length bytes) rest
advance j at bytes rest h = record {
  front = h.front ++ bytes;
  size = length-append h.front bytes ∙ ap (λ n. n + length bytes) h.size;
  whole = h.whole ∙ sym (append_assoc h.front bytes rest);
}

first_byte : (j : Interval) (at x : ℕ) (rest : List ℕ) → IsAhead j at (x ∷ rest) → byte_at j at ≡ x
first_byte j at x rest h =
    let size = h.size in
    let place : at ≡ length h.front + 0 = omega (arith, size) in
    ap (λ l. get_or l at 0) h.whole ∙ ap (λ n. get_or (h.front ++ (x ∷ rest)) n 0) place ∙ get_or-append-add h.front (x ∷ rest) 0 0

next_byte : (j : Interval) (at x : ℕ) (rest : List ℕ) → IsAhead j at (x ∷ rest) → IsAhead j (at + 1) rest
next_byte j at x rest h = advance j at (x ∷ []) rest h

-- they are read there
pub bytes_read : (j : Interval) (at : ℕ) (bytes rest : List ℕ) → IsAhead j at (bytes ++ rest) → bytes_at j at (length bytes) ≡ bytes
bytes_read j at [] rest h = refl
bytes_read j at (x ∷ xs) rest h =
    ap (λ y. y ∷ bytes_at j (at + 1) (length xs)) (first_byte j at x (xs ++ rest) h)
    ∙ ap (λ l. x ∷ l) (bytes_read j (at + 1) xs rest (next_byte j at x (xs ++ rest) h))

-- ---- words

abbrev pub IsSmall : PatchedWord → Type 0
IsSmall w = w.word < 2 ^ 32

abbrev pub bytes_in : PatchedWord → List ℕ
bytes_in w = bytes_of 4 w.word

abbrev pub word_bytes : List PatchedWord → List ℕ
word_bytes ws = flat_map bytes_in ws

low_byte : (n : ℕ) → n % 256 + 256 * (n / 256) ≡ n
low_byte n = omega arith

number_of : (n : ℕ) → n < 2 ^ 32 → from_le_bytes w32 (bytes_of 4 n) ≡ n
number_of n small =
    let b : ℕ = n / 256 in
    let c : ℕ = b / 256 in
    let d : ℕ = c / 256 in
    let last : d < 256 = omega (arith, small) in
    let value : from_le_bytes w32 (n % 256 ∷ b % 256 ∷ c % 256 ∷ d % 256 ∷ []) ≡ n % 256 + 256 * (b % 256 + 256 * (c % 256 + 256 * (d % 256))) = omega arith in
    let top : d % 256 ≡ d = omega (arith, last) in
    let x = low_byte n in
    let y = low_byte b in
    let z = low_byte c in
    value ∙ omega (arith, top, x, y, z)

pub length-word_bytes : (ws : List PatchedWord) → length (word_bytes ws) ≡ 4 * length ws
length-word_bytes [] = refl
length-word_bytes (w ∷ ws) = let all = length-append (bytes_in w) (word_bytes ws) in let rest = length-word_bytes ws in omega (arith, all, rest)

pub words_read : (n : Module) (j : Interval) (at : ℕ) (ws : List PatchedWord) (rest : List ℕ) → IsAhead j at (word_bytes ws ++ rest) → Every IsSmall ws → map bare_word (own_words n no_patches j at (length ws)) ≡ map plain_word ws
words_read n j at [] rest h small = refl
words_read n j at (w ∷ ws) rest h small =
    let here : IsAhead j at (bytes_in w ++ (word_bytes ws ++ rest)) = ahead_on j at at (word_bytes (w ∷ ws) ++ rest) (bytes_in w ++ (word_bytes ws ++ rest)) refl (append_assoc (bytes_in w) (word_bytes ws) rest) h in
    let bytes : bytes_at j at 4 ≡ bytes_in w = bytes_read j at (bytes_in w) (word_bytes ws ++ rest) here in
    ap (λ x. record { word = x; target = None } ∷ map bare_word (own_words n no_patches j (at + 4) (length ws))) (ap (from_le_bytes w32) bytes ∙ number_of w.word small.0)
    ∙ ap (λ l. plain_word w ∷ l) (words_read n j (at + 4) ws rest (advance j at (bytes_in w) (word_bytes ws ++ rest) here) small.1)
