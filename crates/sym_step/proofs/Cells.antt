-- Cells that are bytes.
use Rattle.std.proofs.Common.{◌≡◌, ℕ, zero, suc, false, List, [], ◌∷◌, length, take, drop, ◌+◌, ◌≤◌, refl, sym, ap, ◌∙◌, arith}
use Rattle.std.proofs.lemmas.Grind.{common_steps}
use Rattle.std.specs.Prelude.{Option, Some, None}
use Rattle.std.specs.List.{list_any}
use Rattle.sym_expr.specs.declared.value.Value.{Value}
use Rattle.sym_expr.specs.declared.value.Value.TheVariants.{Num, Addr, At, PageOf, Diff, Step}
use Rattle.sym_expr.specs.States.{number_cells, value_cells}
use Rattle.sym_expr.specs.Symbolic.{bytes_in, is_blank}
use Rattle.sym_expr.specs.Values.{Cell, Byte, Part, Quarter, EntryPart, Blank}

known_behind : (b : ℕ) (cells : List Cell) (bytes : List ℕ) (m : Option (List ℕ)) → bytes_in cells ≡ m → bytes_in (Byte b ∷ cells) ≡ Some bytes
    → ((k : List ℕ) → bytes_in cells ≡ Some k → list_any is_blank cells ≡ false) → list_any is_blank cells ≡ false
known_behind b cells bytes (Some k) is e rest = rest k is
known_behind b cells bytes None is e rest = let none = rw is at e in absurd (cc)

-- cells that are bytes are all known
pub bytes_have_no_blank : (cells : List Cell) (bytes : List ℕ) → bytes_in cells ≡ Some bytes → list_any is_blank cells ≡ false
bytes_have_no_blank [] bytes e = refl
bytes_have_no_blank (Byte b ∷ cells) bytes e = known_behind b cells bytes (bytes_in cells) refl e (λ k is. bytes_have_no_blank cells k is)
bytes_have_no_blank (Part k v ∷ cells) bytes e = absurd (cc)
bytes_have_no_blank (Quarter k p q ∷ cells) bytes e = absurd (cc)
bytes_have_no_blank (EntryPart k size scale p q ∷ cells) bytes e = absurd (cc)
bytes_have_no_blank (Blank ∷ cells) bytes e = absurd (cc)

as_many : (b : ℕ) (cells : List Cell) (bytes : List ℕ) (m : Option (List ℕ)) → bytes_in cells ≡ m → bytes_in (Byte b ∷ cells) ≡ Some bytes
    → ((k : List ℕ) → bytes_in cells ≡ Some k → length k ≡ length cells) → length bytes ≡ length (Byte b ∷ cells)
as_many b cells bytes (Some k) is e rest =
    let same = rw is at e in
    let all : length k ≡ length cells = rest k is in
    let whole : b ∷ k ≡ bytes = cc in
    sym (ap length whole) ∙ ap suc all
as_many b cells bytes None is e rest = let none = rw is at e in absurd (cc)

-- and they are as many
pub bytes_have_length : (cells : List Cell) (bytes : List ℕ) → bytes_in cells ≡ Some bytes → length bytes ≡ length cells
bytes_have_length [] bytes e = cc
bytes_have_length (Byte b ∷ cells) bytes e = as_many b cells bytes (bytes_in cells) refl e (λ k is. bytes_have_length cells k is)
bytes_have_length (Part k v ∷ cells) bytes e = absurd (cc)
bytes_have_length (Quarter k p q ∷ cells) bytes e = absurd (cc)
bytes_have_length (EntryPart k size scale p q ∷ cells) bytes e = absurd (cc)
bytes_have_length (Blank ∷ cells) bytes e = absurd (cc)

-- a number has as many cells as it is asked for
pub number_has_length : (count n : ℕ) → length (number_cells count n) ≡ count
number_has_length zero n = refl
number_has_length (suc count) n = ap suc (number_has_length count _)

-- a value has eight
pub value_has_length : (v : Value) → length (value_cells v) ≡ 8
value_has_length (Num n) = refl
value_has_length (Addr o x) = refl
value_has_length (At p) = refl
value_has_length (PageOf t) = refl
value_has_length (Diff a b) = refl
value_has_length (Step p q n) = refl

-- the bytes of so many cells of an object are so many
pub bytes_fill : (cells : List Cell) (at count : ℕ) (bytes : List ℕ) → at + count ≤ length cells → bytes_in (take count (drop at cells)) ≡ Some bytes → length bytes ≡ count
bytes_fill cells at count bytes inside e =
    let all : length bytes ≡ length (take count (drop at cells)) = bytes_have_length (take count (drop at cells)) bytes e in
    grind (arith, common_steps)
