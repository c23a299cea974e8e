-- Cells that are a number.
use Rattle.std.proofs.Common.{◌≡◌, ℕ, false, List, [], ◌∷◌, refl}
use Rattle.std.specs.Prelude.{Option, Some, None}
use Rattle.std.specs.List.{list_any}
use Rattle.sym_expr.specs.Symbolic.{is_blank, number_of_cells}
use Rattle.sym_expr.specs.Values.{Cell, Byte, Part, Quarter, EntryPart, Blank}

number_behind : (b : ℕ) (cells : List Cell) (n : ℕ) (m : Option ℕ) → number_of_cells cells ≡ m → number_of_cells (Byte b ∷ cells) ≡ Some n
    → ((k : ℕ) → number_of_cells cells ≡ Some k → list_any is_blank cells ≡ false) → list_any is_blank cells ≡ false
number_behind b cells n (Some k) is e rest = rest k is
number_behind b cells n None is e rest = let none = rw is at e in absurd (cc)

-- cells that are a number are all known
pub numbers_have_no_blank : (cells : List Cell) (n : ℕ) → number_of_cells cells ≡ Some n → list_any is_blank cells ≡ false
numbers_have_no_blank [] n e = refl
numbers_have_no_blank (Byte b ∷ cells) n e = number_behind b cells n (number_of_cells cells) refl e (λ k is. numbers_have_no_blank cells k is)
numbers_have_no_blank (Part k v ∷ cells) n e = absurd (cc)
numbers_have_no_blank (Quarter k p q ∷ cells) n e = absurd (cc)
numbers_have_no_blank (EntryPart k size scale p q ∷ cells) n e = absurd (cc)
numbers_have_no_blank (Blank ∷ cells) n e = absurd (cc)
