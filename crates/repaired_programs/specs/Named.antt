-- What the words and the data of two programs name, beside each other under a layout.
use Rattle.std.specs.Prelude.{◌≡◌, ℕ, List, [], ◌∷◌, Option, Some, None}
use Rattle.std.specs.List.{AllZip, flat_map}
use Rattle.sym_expr.specs.declared.layout.Layout.{Layout}
use Rattle.sym_expr.specs.declared.program.Filling.{Filling}
use Rattle.sym_expr.specs.declared.program.Filling.TheVariants.{Pointer, Difference, Entry}
use Rattle.sym_expr.specs.declared.program.Piece.{Piece}
use Rattle.sym_expr.specs.declared.program.Piece.TheVariants.{Code as CodePiece, Data as DataPiece, Gap}
use Rattle.sym_expr.specs.declared.program.Program.{Program}
use Rattle.sym_expr.specs.declared.program.Stretch.{Stretch}
use Rattle.sym_expr.specs.declared.program.Word.{Word}
use Rattle.sym_expr.specs.declared.target.Target.{Target}
use Rattle.sym_expr.specs.Images.{all_words, target_value, undefined_in}

-- the words of a piece and of an interval in order, those of the patches with them
abbrev pub piece_words : Piece → List Word
piece_words (CodePiece b) = all_words b
piece_words (DataPiece b) = []
piece_words (Gap bytes) = []

abbrev pub words_of : Stretch → List Word
words_of s = flat_map piece_words s.pieces

-- what stands for expressions in each data block of an interval
abbrev pub piece_fillings : Piece → List (List (ℕ × Filling))
piece_fillings (CodePiece b) = []
piece_fillings (DataPiece b) = b.fillings ∷ []
piece_fillings (Gap bytes) = []

abbrev pub fillings_of : Stretch → List (List (ℕ × Filling))
fillings_of s = flat_map piece_fillings s.pieces

-- two targets of two programs have one value, and one symbol that stands for nothing, or none
pub record IsOneTarget (l : Layout) (new g : Program) (a b : Target) : Type 0 where
  pub value : target_value l new a ≡ target_value l g b
  pub undefined : undefined_in a ≡ undefined_in b

-- both name something that is one, or neither names anything
abbrev pub NameOne : Layout → Program → Program → Option Target → Option Target → Type 0
NameOne l new g None None = Unit {0}
NameOne l new g (Some a) None = ⊥
NameOne l new g None (Some b) = ⊥
NameOne l new g (Some a) (Some b) = IsOneTarget l new g a b

-- the same word that names one target
pub record IsOneWord (l : Layout) (new g : Program) (a b : Word) : Type 0 where
  pub word : a.word ≡ b.word
  pub target : NameOne l new g a.target b.target

-- the same form with targets that are one
abbrev pub FillOne : Layout → Program → Program → Filling → Filling → Type 0
FillOne l new g (Pointer a) (Pointer b) = IsOneTarget l new g a b
FillOne l new g (Difference size p q) (Difference other r s) = (size ≡ other) × IsOneTarget l new g p r × IsOneTarget l new g q s
FillOne l new g (Entry size scale p q) (Entry other step r s) = (size ≡ other) × (scale ≡ step) × IsOneTarget l new g p r × IsOneTarget l new g q s
FillOne l new g _ _ = ⊥

-- at the same offset of a data block
pub record IsOneFilling (l : Layout) (new g : Program) (a b : ℕ × Filling) : Type 0 where
  pub at : a.0 ≡ b.0
  pub filling : FillOne l new g a.1 b.1

-- the words and the fillings of two intervals name one thing each, in order
pub record IsOneStretch (l : Layout) (new g : Program) (a b : Stretch) : Type 0 where
  pub words : AllZip (IsOneWord l new g) (words_of a) (words_of b)
  pub fillings : AllZip (AllZip (IsOneFilling l new g)) (fillings_of a) (fillings_of b)
