-- The spellings of a form, and of one of several.
use Rattle.std.proofs.Common.{◌≡◌, ◌⊎◌, ℕ, Bool, true, false, List, [], ◌∷◌, map, length, Option, Some, None, IfSome, IfNone, sym, ap, subst, ◌∙◌, inl, inr, arith}
use Rattle.std.specs.List.{list_all}
use Rattle.a64_forms.specs.Bits.{are_apart}
use Rattle.a64_forms.specs.Names.{named_bits}
use Rattle.a64_forms.specs.declared.form.Numbers.{Numbers}
use Rattle.a64_forms.specs.Spelling.{ArePieces, Form, OneSpells, Spelled, Spells, both, spelled}
use Rattle.a64_forms.proofs.Immediates.{unlike, values}
use Rattle.a64_forms.proofs.Unique.{one_list}

-- the word and the rest of a spelling
parts : (n : Numbers) (f : Form) (texts later : List (List ℕ)) (text : List ℕ) → texts ≡ text ∷ later → (s : Spelled) → Spells n f texts s
    → (word : ℕ) × (rest : Spelled) × (named_bits f.mnemonics text ≡ Some word) × ArePieces n f.pieces later rest
    × (s ≡ both (spelled word None) rest) × (list_all (are_apart s.bits) f.apart ≡ true)
unfolding Spells
parts n f texts later text e s p = subst (λ (ts : List (List ℕ)). Spells n f ts s) e p

pub spells : (n : Numbers) (f : Form) (texts later : List (List ℕ)) (text : List ℕ) (word : ℕ) (rest s : Spelled) → texts ≡ text ∷ later → named_bits f.mnemonics text ≡ Some word → ArePieces n f.pieces later rest → s ≡ both (spelled word None) rest → list_all (are_apart s.bits) f.apart ≡ true → Spells n f texts s
unfolding Spells
spells n f texts later text word rest s e named pieces same apart = subst (λ (ts : List (List ℕ)). Spells n f ts s) (sym e) (word, rest, named, pieces, same, apart)

pub no_texts : (n : Numbers) (f : Form) (texts : List (List ℕ)) → length texts ≡ 0 → (s : Spelled) → Spells n f texts s → ⊥
unfolding Spells
no_texts n f [] none s p = p
no_texts n f (text ∷ texts) none s p = absurd (omega (arith, none))

pub no_word : (n : Numbers) (f : Form) (texts later : List (List ℕ)) (text : List ℕ) → texts ≡ text ∷ later → named_bits f.mnemonics text ≡ None → (s : Spelled) → Spells n f texts s → ⊥
no_word n f texts later text e none s p = let q = parts n f texts later text e s p in unlike q.0 (sym none ∙ q.2)

pub no_pieces : (n : Numbers) (f : Form) (texts later : List (List ℕ)) (text : List ℕ) → texts ≡ text ∷ later → ((b : Spelled) → ArePieces n f.pieces later b → ⊥) → (s : Spelled) → Spells n f texts s → ⊥
no_pieces n f texts later text e none s p = let q = parts n f texts later text e s p in none q.1 q.3

pub not_apart : (n : Numbers) (f : Form) (texts later : List (List ℕ)) (text : List ℕ) (word : ℕ) (rest t : Spelled) → texts ≡ text ∷ later → named_bits f.mnemonics text ≡ Some word → ArePieces n f.pieces later rest → t ≡ both (spelled word None) rest → list_all (are_apart t.bits) f.apart ≡ false → (s : Spelled) → Spells n f texts s → ⊥
not_apart n f texts later text word rest t e named pieces same apart s p =
    let q = parts n f texts later text e s p in
    let words : q.0 ≡ word = values q.0 word (sym q.2 ∙ named) in
    let rests : q.1 ≡ rest = one_list n f.pieces later q.1 rest q.3 pieces in
    let both_same : s ≡ t = q.4 ∙ ap (λ (w : ℕ). both (spelled w None) q.1) words ∙ ap (λ (r : Spelled). both (spelled word None) r) rests ∙ sym same in
    let wrong : true ≡ false = sym q.5 ∙ ap (λ (x : Spelled). list_all (are_apart x.bits) f.apart) both_same ∙ apart in
    absurd cc

pub no_forms : {A : Type 0} (n : Numbers) (rows : List A) (F : A → Form) (texts : List (List ℕ)) → length rows ≡ 0 → (s : Spelled) → OneSpells n (map F rows) texts s → ⊥
unfolding OneSpells
no_forms n [] F texts none s p = p
no_forms n (row ∷ rows) F texts none s p = absurd (omega (arith, none))

pub first_spells : {A : Type 0} (n : Numbers) (rows rest : List A) (row : A) (F : A → Form) (texts : List (List ℕ)) (s : Spelled) → rows ≡ row ∷ rest → Spells n (F row) texts s → OneSpells n (map F rows) texts s
unfolding OneSpells
first_spells {A} n rows rest row F texts s e p = subst (λ (rs : List A). OneSpells n (map F rs) texts s) (sym e) (inl p)

later_one : {A : Type 0} (n : Numbers) (rows rest : List A) (row : A) (F : A → Form) (texts : List (List ℕ)) (s : Spelled) → rows ≡ row ∷ rest → OneSpells n (map F rest) texts s → OneSpells n (map F rows) texts s
unfolding OneSpells
later_one {A} n rows rest row F texts s e p = subst (λ (rs : List A). OneSpells n (map F rs) texts s) (sym e) (inr p)

pub later_spells : {A B : Type 0} (n : Numbers) (rows rest : List A) (row : A) (F : A → Form) (texts : List (List ℕ)) (r : Option B) (h : B → Spelled) → rows ≡ row ∷ rest → IfSome r (λ x. OneSpells n (map F rest) texts (h x)) → IfSome r (λ x. OneSpells n (map F rows) texts (h x))
later_spells n rows rest row F texts None h e p = tt
later_spells n rows rest row F texts (Some x) h e p = later_one n rows rest row F texts (h x) e p

neither : {A : Type 0} (n : Numbers) (rows rest : List A) (row : A) (F : A → Form) (texts : List (List ℕ)) → rows ≡ row ∷ rest → ((s : Spelled) → Spells n (F row) texts s → ⊥) → ((s : Spelled) → OneSpells n (map F rest) texts s → ⊥) → (s : Spelled) → OneSpells n (map F rows) texts s → ⊥
unfolding OneSpells
neither {A} n rows rest row F texts e first others s p =
    let q = subst (λ (rs : List A). OneSpells n (map F rs) texts s) e p in
    elim q [ inl a ↦ first s a | inr b ↦ others s b ]

pub none_spells : {A B : Type 0} (n : Numbers) (rows rest : List A) (row : A) (F : A → Form) (texts : List (List ℕ)) (r : Option B) → rows ≡ row ∷ rest → ((s : Spelled) → Spells n (F row) texts s → ⊥) → IfNone r ((s : Spelled) → OneSpells n (map F rest) texts s → ⊥) → IfNone r ((s : Spelled) → OneSpells n (map F rows) texts s → ⊥)
none_spells n rows rest row F texts (Some x) e first others = tt
none_spells n rows rest row F texts None e first others = neither n rows rest row F texts e first others

-- one of two, where the second is asked after the first
pub second_some : {B : Type 0} (P Q : Spelled → Type 0) (r : Option B) (h : B → Spelled) → IfSome r (λ x. Q (h x)) → IfSome r (λ x. P (h x) ⊎ Q (h x))
second_some P Q None h q = tt
second_some P Q (Some x) h q = inr q

pub none_of_two : {B : Type 0} (P Q : Spelled → Type 0) (r : Option B) → ((s : Spelled) → P s → ⊥) → IfNone r ((s : Spelled) → Q s → ⊥) → IfNone r ((s : Spelled) → P s ⊎ Q s → ⊥)
none_of_two P Q (Some x) p q = tt
none_of_two P Q None p q = λ s e. elim e [ inl a ↦ p s a | inr b ↦ q s b ]
