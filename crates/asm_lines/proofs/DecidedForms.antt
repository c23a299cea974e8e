-- Whether texts have the form of an instruction.
use Rattle.std.proofs.Common.{◌≡◌, ℕ, true, None, List, [], ◌∷◌, ◌++◌, refl, ap, subst, ◌∙◌, inr}
use Rattle.std.specs.List.{list_all}
use Rattle.a64_forms.specs.declared.form.Numbers.{Numbers}
use Rattle.a64_forms.specs.Bits.{are_apart}
use Rattle.a64_forms.specs.Names.{named_bits}
use Rattle.a64_forms.specs.Spelling.{ArePieces, Form, HasForm, IsAccess, IsData, IsFlow, IsPiece, IsSlot, IsWide, OneSpells, Piece, Spelled, Spells, accesses, both, branches, immediates, indexed, pairs, registers, spelled}
use Rattle.asm_lines.proofs.Decisions.{Decided, as_well, both_decided, passes, same_word}
use Rattle.asm_lines.proofs.DecidedSlots.{slot_with}
use Rattle.asm_lines.proofs.Searches.{either_with, some_with, split_with}

module _ (P : Spelled → Type 0) (decide : (s : Spelled) → Decided (P s)) (n : Numbers) (p : Piece) where
  abbrev Inside : List ℕ → Type 0
  Inside inside = (s : Spelled) × IsSlot n p.slot inside s × P s

  abbrev Fronted : List ℕ → Type 0
  Fronted front = (before : List ℕ) × (inside : List ℕ) × (front ≡ before ++ inside) × ((before ≡ p.before) × Inside inside)

  abbrev Parted : List ℕ → Type 0
  Parted text = (front : List ℕ) × (behind : List ℕ) × (text ≡ front ++ behind) × ((behind ≡ p.behind) × Fronted front)

  fronted : (front : List ℕ) → Decided (Fronted front)
  fronted = split_with (λ before inside. (before ≡ p.before) × Inside inside) (λ before inside. both_decided (same_word before p.before) (slot_with P decide n p.slot inside))

  parted : (text : List ℕ) → Decided (Parted text)
  parted = split_with (λ front behind. (behind ≡ p.behind) × Fronted front) (λ front behind. both_decided (same_word behind p.behind) (fronted front))

  piece_with : (text : List ℕ) → Decided ((s : Spelled) × IsPiece n p text s × P s)
  piece_with text = as_well to back (parted text) where
    to : Parted text → (s : Spelled) × IsPiece n p text s × P s
    to (front, behind, whole, (last, (before, inside, parts, (first, (s, is, holds))))) =
        let e : front ≡ p.before ++ inside = parts ∙ ap (λ (l : List ℕ). l ++ inside) first in
        let f : text ≡ (p.before ++ inside) ++ p.behind = whole ∙ ap (λ (l : List ℕ). l ++ behind) e ∙ ap (λ (l : List ℕ). (p.before ++ inside) ++ l) last in
        (s, (inside, f, is), holds)

    back : (s : Spelled) × IsPiece n p text s × P s → Parted text
    back (s, (inside, e, is), holds) = (p.before ++ inside, p.behind, e, (refl, (p.before, inside, refl, (refl, (s, is, holds)))))

pieces_with : (n : Numbers) (ps : List Piece) (texts : List (List ℕ)) (P : Spelled → Type 0) → ((s : Spelled) → Decided (P s)) → Decided ((s : Spelled) × ArePieces n ps texts s × P s)
unfolding ArePieces
pieces_with n [] [] P decide = as_well (λ p. (spelled 0 None, refl, p)) (λ x. subst P x.1 x.2) (decide (spelled 0 None))
pieces_with n [] (text ∷ texts) P decide = inr (λ x. x.1)
pieces_with n (p ∷ ps) [] P decide = inr (λ x. x.1)
pieces_with n (p ∷ ps) (text ∷ texts) P decide = as_well
    (λ x. (both x.0 x.2.0, (x.0, x.2.0, x.1, x.2.1, refl), x.2.2))
    (λ x. (x.1.0, x.1.2, (x.1.1, x.1.3, subst P x.1.4 x.2)))
    (piece_with (λ first. (rest : Spelled) × ArePieces n ps texts rest × P (both first rest))
    (λ first. pieces_with n ps texts (λ rest. P (both first rest)) (λ rest. decide (both first rest))) n p text)

-- ---- forms

module _ (P : Spelled → Type 0) (decide : (s : Spelled) → Decided (P s)) (n : Numbers) where
  abbrev Apart : Form → Spelled → Type 0
  Apart f s = (list_all (are_apart s.bits) f.apart ≡ true) × P s

  apart : (f : Form) (s : Spelled) → Decided (Apart f s)
  apart f s = both_decided (passes (list_all (are_apart s.bits) f.apart)) (decide s)

  spells_with : (f : Form) (texts : List (List ℕ)) → Decided ((s : Spelled) × Spells n f texts s × P s)
  unfolding Spells
  spells_with f [] = inr (λ x. x.1)
  spells_with f (text ∷ texts) = as_well
      (λ x. (both (spelled x.0 None) x.2.0, (x.0, x.2.0, x.1, x.2.1, refl, x.2.2.0), x.2.2.1))
      (λ x. (x.1.0, x.1.2, (x.1.1, x.1.3, subst (Apart f) x.1.4 (x.1.5, x.2))))
      (some_with (λ word. (rest : Spelled) × ArePieces n f.pieces texts rest × Apart f (both (spelled word None) rest))
      (λ word. pieces_with n f.pieces texts (λ rest. Apart f (both (spelled word None) rest)) (λ rest. apart f (both (spelled word None) rest)))
      (named_bits f.mnemonics text))

  one_with : (fs : List Form) (texts : List (List ℕ)) → Decided ((s : Spelled) × OneSpells n fs texts s × P s)
  unfolding OneSpells
  one_with [] texts = inr (λ x. x.1)
  one_with (f ∷ fs) texts = either_with (λ s. Spells n f texts s) (λ s. OneSpells n fs texts s) P (spells_with f texts) (one_with fs texts)

  data_with : (texts : List (List ℕ)) → Decided ((s : Spelled) × IsData n texts s × P s)
  data_with texts = either_with (λ s. OneSpells n immediates texts s) (λ s. OneSpells n registers texts s) P (one_with immediates texts) (one_with registers texts)

  wide_with : (texts : List (List ℕ)) → Decided ((s : Spelled) × IsWide n texts s × P s)
  wide_with texts = either_with (λ s. OneSpells n indexed texts s) (λ s. OneSpells n pairs texts s) P (one_with indexed texts) (one_with pairs texts)

  access_with : (texts : List (List ℕ)) → Decided ((s : Spelled) × IsAccess n texts s × P s)
  access_with texts = either_with (λ s. OneSpells n accesses texts s) (λ s. IsWide n texts s) P (one_with accesses texts) (wide_with texts)

  flow_with : (texts : List (List ℕ)) → Decided ((s : Spelled) × IsFlow n texts s × P s)
  flow_with texts = either_with (λ s. OneSpells n branches texts s) (λ s. IsAccess n texts s) P (one_with branches texts) (access_with texts)

  -- a form that texts have, whose share of a word has a property that is decided of each
  pub form_with : (texts : List (List ℕ)) → Decided ((s : Spelled) × HasForm n texts s × P s)
  form_with texts = either_with (λ s. IsData n texts s) (λ s. IsFlow n texts s) P (data_with texts) (flow_with texts)
