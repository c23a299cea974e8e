-- Where linking has no fault, each word and each filling has a number that fits, and names nothing undefined.
use Rattle.std.proofs.Common.{◌≡◌, ℕ, ◌+◌, Option, Some, None, Result, Ok, Err, List, [], ◌∷◌, ◌++◌, refl, sym, subst, arith}
use Rattle.std.specs.Option.{option_and_then}
use Rattle.std.specs.List.{AllByRecursion as Every, flat_map, filter_map, cons_option}
use Rattle.a64_inst.specs.declared.filling.FitFault.{FitFault}
use Rattle.a64_inst.specs.declared.filling.FitFault.TheVariants as fits
use Rattle.sym_expr.specs.declared.layout.Layout.{Layout}
use Rattle.sym_expr.specs.declared.link_fault.LinkFault.{LinkFault}
use Rattle.sym_expr.specs.declared.program.Filling.{Filling}
use Rattle.sym_expr.specs.declared.program.Piece.{Piece}
use Rattle.sym_expr.specs.declared.program.Piece.TheVariants.{Code as CodePiece, Data as DataPiece, Gap}
use Rattle.sym_expr.specs.declared.program.Program.{Program}
use Rattle.sym_expr.specs.declared.program.Stretch.{Stretch}
use Rattle.sym_expr.specs.declared.program.Word.{Word}
use Rattle.sym_expr.specs.Images.{addressed, all_words, fault_of, filled_word, filling_fault, filling_value, first_fault, link_fault, misfit, piece_faults, size_faults, stretch_faults, undefined_in, undefined_of, word_fault, words_at}
use Rattle.sym_expr.specs.Layouts.{address_of}
use Rattle.sym_expr.specs.Placing.{Placed, placed}
use Rattle.placed_images.proofs.Found.{all_addressed}
use Rattle.placed_images.proofs.Lists.{every_flat, every_map, every_weaker}

-- ---- no fault at all

no_first : (fs : List LinkFault) → first_fault fs ≡ None → fs ≡ []
no_first [] e = refl
no_first (f ∷ fs) e = cc

cons_not_nil : {X : Type 0} (x : X) (xs : List X) → x ∷ xs ≡ [] → ⊥
cons_not_nil x xs e = cc

no_front : {X : Type 0} (xs ys : List X) → xs ++ ys ≡ [] → xs ≡ []
no_front [] ys e = refl
no_front (x ∷ xs) ys e = absurd (cons_not_nil x (xs ++ ys) e)

no_back : {X : Type 0} (xs ys : List X) → xs ++ ys ≡ [] → ys ≡ []
no_back [] ys e = e
no_back (x ∷ xs) ys e = absurd (cons_not_nil x (xs ++ ys) e)

pub none_of_flat : {X Y : Type 0} (f : X → List Y) (xs : List X) → flat_map f xs ≡ [] → Every (λ x. f x ≡ []) xs
none_of_flat f [] e = tt
none_of_flat f (x ∷ xs) e = (no_front (f x) (flat_map f xs) e, none_of_flat f xs (no_back (f x) (flat_map f xs) e))

not_some : {Y : Type 0} (o : Option Y) (ys : List Y) → cons_option o ys ≡ [] → (o ≡ None) × (ys ≡ [])
not_some None ys e = (refl, e)
not_some (Some y) ys e = absurd (cons_not_nil y ys e)

pub none_of_filter_map : {X Y : Type 0} (f : X → Option Y) (xs : List X) → filter_map f xs ≡ [] → Every (λ x. f x ≡ None) xs
none_of_filter_map f [] e = tt
none_of_filter_map f (x ∷ xs) e =
    let both = not_some (f x) (filter_map f xs) e in
    (both.0, none_of_filter_map f xs both.1)

-- ---- no fault of one

neither : (symbol : Option (List ℕ)) (other : Option LinkFault) → fault_of symbol other ≡ None → (symbol ≡ None) × (other ≡ None)
neither None other e = (refl, e)
neither (Some s) other e = cc

-- a number fits
abbrev pub Fits : Result ℕ FitFault → Type 0
Fits r = (n : ℕ) × (r ≡ Ok n)

fits_if : (interval : List ℕ) (offset : ℕ) (r : Result ℕ FitFault) → misfit interval offset r ≡ None → Fits r
fits_if interval offset (Ok n) e = (n, refl)
fits_if interval offset (Err (fits.Range value)) e = cc
fits_if interval offset (Err (fits.Unaligned value)) e = cc

module _ (l : Layout) (g : Program) where
  -- a word at an address, and a filling
  abbrev pub WordFits : ℕ → Word → Type 0
  WordFits at w = (option_and_then undefined_in w.target ≡ None) × Fits (filled_word l g at w)

  abbrev pub FillingFits : Filling → Type 0
  FillingFits f = (undefined_of f ≡ None) × Fits (filling_value l g f)

  abbrev PieceFits : ℕ → Piece → Type 0
  PieceFits at (CodePiece b) = Every (λ (w : ℕ × Word). WordFits w.0 w.1) (words_at at (all_words b))
  PieceFits at (DataPiece b) = Every (λ (f : ℕ × Filling). FillingFits f.1) b.fillings
  PieceFits at (Gap bytes) = Unit {0}

  abbrev pub HasFit : Placed → Type 0
  HasFit x = PieceFits x.at x.piece

  word_fits : (s : Stretch) (at : ℕ) (w : Word) → word_fault l g s (at, w) ≡ None → WordFits (address_of l s.id + at) w
  word_fits s at w e =
      let both = neither (option_and_then undefined_in w.target) (misfit s.id at (filled_word l g (address_of l s.id + at) w)) e in
      (both.0, fits_if s.id at (filled_word l g (address_of l s.id + at) w) both.1)

  words_fit : (s : Stretch) (at other : ℕ) (ws : List Word) → other ≡ address_of l s.id + at → Every (λ (w : ℕ × Word). word_fault l g s w ≡ None) (words_at at ws) → Every (λ (w : ℕ × Word). WordFits w.0 w.1) (words_at other ws)
  words_fit s at other [] same h = tt
  words_fit s at other (w ∷ ws) same h =
      let P : ℕ → Type 0 = λ a. WordFits a w in
      let next : other + 4 ≡ address_of l s.id + (at + 4) = omega arith in
      (subst P (sym same) (word_fits s at w h.0), words_fit s (at + 4) (other + 4) ws next h.1)

  filling_fits : (s : Stretch) (at : ℕ) (f : ℕ × Filling) → filling_fault l g s at f ≡ None → FillingFits f.1
  filling_fits s at f e =
      let both = neither (undefined_of f.1) (misfit s.id (at + f.0) (filling_value l g f.1)) e in
      (both.0, fits_if s.id (at + f.0) (filling_value l g f.1) both.1)

  piece_fits : (s : Stretch) (at : ℕ) (p : Piece) → piece_faults l g s at p ≡ [] → PieceFits (address_of l s.id + at) p
  piece_fits s at (CodePiece b) e = words_fit s at (address_of l s.id + at) (all_words b) refl (none_of_filter_map (word_fault l g s) (words_at at (all_words b)) e)
  piece_fits s at (DataPiece b) e =
      every_weaker (λ (f : ℕ × Filling). filling_fault l g s at f ≡ None) (λ (f : ℕ × Filling). FillingFits f.1) (filling_fits s at) b.fillings (none_of_filter_map (filling_fault l g s at) b.fillings e)
  piece_fits s at (Gap bytes) e = tt

  stretch_fits : (s : Stretch) → stretch_faults l g s ≡ [] → Every HasFit (addressed l s)
  stretch_fits s e =
      every_map (λ (x : Placed). record x { at = address_of l s.id + x.at }) HasFit (placed s)
      (every_weaker (λ (x : Placed). piece_faults l g s x.at x.piece ≡ []) (λ (x : Placed). PieceFits (address_of l s.id + x.at) x.piece) (λ x f. piece_fits s x.at x.piece f) (placed s)
      (none_of_flat (λ (x : Placed). piece_faults l g s x.at x.piece) (placed s) e))

  pub all_fit : link_fault g l ≡ None → Every HasFit (all_addressed l g)
  all_fit e =
      every_flat (addressed l) HasFit g.stretches
      (every_weaker (λ s. stretch_faults l g s ≡ []) (λ (s : Stretch). Every HasFit (addressed l s)) stretch_fits g.stretches
      (none_of_flat (stretch_faults l g) g.stretches (no_back (size_faults l g) (flat_map (stretch_faults l g) g.stretches) (no_first (size_faults l g ++ flat_map (stretch_faults l g) g.stretches) e))))
