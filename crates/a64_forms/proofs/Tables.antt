-- What all forms of the tables have: no two of them spell one line, and each begins with a mnemonic.
use Rattle.std.proofs.Common.{◌≡◌, ◌⊎◌, ℕ, ◌+◌, ◌*◌, ◌==◌, Bool, true, false, cond, ◌&&◌, length, List, [], ◌∷◌, ◌++◌, Option, Some, None, refl, sym, ap, subst, ◌∙◌, inl, inr, arith}
use Rattle.std.specs.List.{find, list_all, list_any}
use Rattle.std.specs.Option.{option_map}
use Rattle.std.specs.Str.{bytes_eq}
use Rattle.std.proofs.lemmas.Bool.Decides.{Decides-eqb}
use Rattle.std.proofs.lemmas.Slice.Eq.{bytes_eq-Decides}
use Rattle.a64_forms.specs.declared.form.Numbers.{Numbers}
use Rattle.a64_forms.specs.Names.{Name, named_bits}
use Rattle.a64_forms.specs.Spelling.{ArePieces, Form, HasForm, OneSpells, Piece, Spelled, Spells, accesses, begins_small, both, branches, immediates, indexed, pairs, registers, spelled}
use Rattle.a64_forms.proofs.Immediates.{unlike, values}
use Rattle.a64_forms.proofs.OneForm.{apart_lists, both_true, either_true, left_true, lists_apart, right_true}
use Rattle.a64_forms.proofs.Unique.{one_list}

-- ---- what holds of the names of a list and of the one that is found

abbrev Found : List Name → List ℕ → (List ℕ → Bool) → Type 0
Found ns text p = p text ≡ true → list_any (λ (n : Name). p n.text) ns ≡ true

found_step : (g : Bool) (n : Name) (ns : List Name) (text : List ℕ) (bits : ℕ) (p : List ℕ → Bool) → bytes_eq n.text text ≡ g
    → option_map (λ (m : Name). m.bits) (cond g (Some n) (find (λ (m : Name). bytes_eq m.text text) ns)) ≡ Some bits
    → (named_bits ns text ≡ Some bits → Found ns text p) → Found (n ∷ ns) text p
found_step true n ns text bits p told e later h =
    left_true (p n.text) (list_any (λ (m : Name). p m.text) ns) (subst (λ (t : List ℕ). p t ≡ true) (sym ((bytes_eq-Decides n.text text).0 told)) h)
found_step false n ns text bits p told e later h = right_true (p n.text) (list_any (λ (m : Name). p m.text) ns) (later e h)

found : (ns : List Name) (text : List ℕ) (bits : ℕ) (p : List ℕ → Bool) → named_bits ns text ≡ Some bits → Found ns text p
found [] text bits p e = absurd (unlike bits e)
found (n ∷ ns) text bits p e = found_step (bytes_eq n.text text) n ns text bits p refl e (λ more. found ns text bits p more)

every_step : (g : Bool) (n : Name) (ns : List Name) (text : List ℕ) (bits : ℕ) (p : List ℕ → Bool) → bytes_eq n.text text ≡ g
    → option_map (λ (m : Name). m.bits) (cond g (Some n) (find (λ (m : Name). bytes_eq m.text text) ns)) ≡ Some bits
    → p n.text ≡ true → (named_bits ns text ≡ Some bits → p text ≡ true) → p text ≡ true
every_step true n ns text bits p told e first later = subst (λ (t : List ℕ). p t ≡ true) ((bytes_eq-Decides n.text text).0 told) first
every_step false n ns text bits p told e first later = later e

every : (ns : List Name) (text : List ℕ) (bits : ℕ) (p : List ℕ → Bool) → list_all (λ (n : Name). p n.text) ns ≡ true → named_bits ns text ≡ Some bits → p text ≡ true
every [] text bits p all e = absurd (unlike bits e)
every (n ∷ ns) text bits p all e =
    let q = both_true (p n.text) (list_all (λ (m : Name). p m.text) ns) all in
    every_step (bytes_eq n.text text) n ns text bits p refl e q.0 (λ more. every ns text bits p q.1 more)

-- ---- two forms

-- a text as one number, so that texts are compared at once
abbrev key : List ℕ → ℕ
key [] = 0
key (b ∷ bytes) = b + 256 * key bytes

abbrev keys : List Name → List ℕ
keys [] = []
keys (n ∷ ns) = key n.text ∷ keys ns

abbrev among : List ℕ → ℕ → Bool
among ks k = list_any (λ j. k == j) ks

abbrev meet : List ℕ → List ℕ → Bool
meet ks js = list_any (λ k. among js k) ks

-- no line is spelled by both: pieces aren't as many, no mnemonic is in both, or pieces at one place are apart
abbrev apart_forms : Form → Form → Bool
apart_forms f g = elim (length f.pieces == length g.pieces) [ true ↦ elim (meet (keys f.mnemonics) (keys g.mnemonics)) [ true ↦ apart_lists f.pieces g.pieces | false ↦ true ] | false ↦ true ]

named_among : (ns : List Name) (text : List ℕ) (bits : ℕ) → named_bits ns text ≡ Some bits → among (keys ns) (key text) ≡ true
named_among ns text bits e = along ns (found ns text bits (λ t. key text == key t) e ((Decides-eqb (key text) (key text)).1 refl))
  where
    along : (ns : List Name) → list_any (λ (n : Name). key text == key n.text) ns ≡ true → among (keys ns) (key text) ≡ true
    along [] h = h
    along (n ∷ ns) h = elim (either_true (key text == key n.text) (list_any (λ (m : Name). key text == key m.text) ns) h) [
      | inl here ↦ left_true (key text == key n.text) (among (keys ns) (key text)) here
      | inr later ↦ right_true (key text == key n.text) (among (keys ns) (key text)) (along ns later)
    ]

meets : (ks js : List ℕ) (k : ℕ) → among ks k ≡ true → among js k ≡ true → meet ks js ≡ true
meets [] js k h e = h
meets (i ∷ ks) js k h e = elim (either_true (k == i) (among ks k) h) [
  | inl here ↦ left_true (among js i) (meet ks js) (subst (λ (x : ℕ). among js x ≡ true) ((Decides-eqb k i).0 here) e)
  | inr later ↦ right_true (among js i) (meet ks js) (meets ks js k later e)
]

pieces_length : (n : Numbers) (ps : List Piece) (texts : List (List ℕ)) (s : Spelled) → ArePieces n ps texts s → length ps ≡ length texts
unfolding ArePieces
pieces_length n [] [] s h = refl
pieces_length n [] (text ∷ texts) s h = absurd h
pieces_length n (p ∷ ps) [] s h = absurd h
pieces_length n (p ∷ ps) (text ∷ texts) s h = let more = pieces_length n ps texts h.1 h.3 in omega (arith, more)

by_tests : (long shared : Bool) (ps qs : List Piece) → long ≡ true → shared ≡ true → (elim long [ true ↦ elim shared [ true ↦ apart_lists ps qs | false ↦ true ] | false ↦ true ]) ≡ true → apart_lists ps qs ≡ true
by_tests true true ps qs l m e = e
by_tests true false ps qs l m e = cc
by_tests false shared ps qs l m e = cc

forms_apart : (n : Numbers) (f g : Form) (texts : List (List ℕ)) (s t : Spelled) → apart_forms f g ≡ true → Spells n f texts s → Spells n g texts t → ⊥
unfolding Spells
forms_apart n f g [] s t e h k = h
forms_apart n f g (text ∷ texts) s t e h k =
    let long : (length f.pieces == length g.pieces) ≡ true = (Decides-eqb (length f.pieces) (length g.pieces)).1 (pieces_length n f.pieces texts h.1 h.3 ∙ sym (pieces_length n g.pieces texts k.1 k.3)) in
    let shared : meet (keys f.mnemonics) (keys g.mnemonics) ≡ true = meets (keys f.mnemonics) (keys g.mnemonics) (key text) (named_among f.mnemonics text h.0 h.2) (named_among g.mnemonics text k.0 k.2) in
    lists_apart n f.pieces g.pieces texts h.1 k.1 (by_tests (length f.pieces == length g.pieces) (meet (keys f.mnemonics) (keys g.mnemonics)) f.pieces g.pieces long shared e) h.3 k.3

same_form : (n : Numbers) (f : Form) (texts : List (List ℕ)) (s t : Spelled) → Spells n f texts s → Spells n f texts t → s ≡ t
unfolding Spells
same_form n f [] s t h k = absurd h
same_form n f (text ∷ texts) s t h k =
    let word : h.0 ≡ k.0 = values h.0 k.0 (sym h.2 ∙ k.2) in
    let rest : h.1 ≡ k.1 = one_list n f.pieces texts h.1 k.1 h.3 k.3 in
    h.4 ∙ ap (λ (w : ℕ). both (spelled w None) h.1) word ∙ ap (λ (r : Spelled). both (spelled k.0 None) r) rest ∙ sym k.4

-- ---- lists of forms

abbrev apart_from : Form → List Form → Bool
apart_from f gs = list_all (λ (g : Form). apart_forms f g) gs

abbrev all_apart : List Form → List Form → Bool
all_apart fs gs = list_all (λ (f : Form). apart_from f gs) fs

abbrev each_apart : List Form → Bool
each_apart [] = true
each_apart (f ∷ fs) = apart_from f fs && each_apart fs

from_all : (n : Numbers) (f : Form) (gs : List Form) (texts : List (List ℕ)) (s t : Spelled) → apart_from f gs ≡ true → Spells n f texts s → OneSpells n gs texts t → ⊥
unfolding OneSpells
from_all n f [] texts s t e h k = k
from_all n f (g ∷ gs) texts s t e h k =
    let q = both_true (apart_forms f g) (apart_from f gs) e in
    elim k [ inl first ↦ forms_apart n f g texts s t q.0 h first | inr later ↦ from_all n f gs texts s t q.1 h later ]

pub lists_of_forms : (n : Numbers) (fs gs : List Form) (texts : List (List ℕ)) (s t : Spelled) → all_apart fs gs ≡ true → OneSpells n fs texts s → OneSpells n gs texts t → ⊥
unfolding OneSpells
lists_of_forms n [] gs texts s t e h k = h
lists_of_forms n (f ∷ fs) gs texts s t e h k =
    let q = both_true (apart_from f gs) (all_apart fs gs) e in
    elim h [ inl first ↦ from_all n f gs texts s t q.0 first k | inr later ↦ lists_of_forms n fs gs texts s t q.1 later k ]

pub one_of_list : (n : Numbers) (fs : List Form) (texts : List (List ℕ)) (s t : Spelled) → each_apart fs ≡ true → OneSpells n fs texts s → OneSpells n fs texts t → s ≡ t
unfolding OneSpells
one_of_list n [] texts s t e h k = absurd h
one_of_list n (f ∷ fs) texts s t e h k =
    let q = both_true (apart_from f fs) (each_apart fs) e in
    elim h [
      | inl here ↦ elim k [ inl first ↦ same_form n f texts s t here first | inr later ↦ absurd (from_all n f fs texts s t q.0 here later) ]
      | inr more ↦ elim k [ inl first ↦ absurd (from_all n f fs texts t s q.0 first more) | inr later ↦ one_of_list n fs texts s t q.1 more later ]
    ]

-- ---- the tables

each_immediate : each_apart immediates ≡ true
unfolding immediates
each_immediate = refl

each_register : each_apart registers ≡ true
unfolding registers
each_register = refl

each_branch : each_apart branches ≡ true
unfolding branches
each_branch = refl

each_access : each_apart accesses ≡ true
unfolding accesses
each_access = refl

each_indexed : each_apart indexed ≡ true
unfolding indexed
each_indexed = refl

each_pair : each_apart pairs ≡ true
unfolding pairs
each_pair = refl

immediates_registers : all_apart immediates registers ≡ true
unfolding immediates registers
immediates_registers = refl

immediates_branches : all_apart immediates branches ≡ true
unfolding immediates branches
immediates_branches = refl

immediates_accesses : all_apart immediates accesses ≡ true
unfolding immediates accesses
immediates_accesses = refl

immediates_indexed : all_apart immediates indexed ≡ true
unfolding immediates indexed
immediates_indexed = refl

immediates_pairs : all_apart immediates pairs ≡ true
unfolding immediates pairs
immediates_pairs = refl

registers_branches : all_apart registers branches ≡ true
unfolding registers branches
registers_branches = refl

registers_accesses : all_apart registers accesses ≡ true
unfolding registers accesses
registers_accesses = refl

registers_indexed : all_apart registers indexed ≡ true
unfolding registers indexed
registers_indexed = refl

registers_pairs : all_apart registers pairs ≡ true
unfolding registers pairs
registers_pairs = refl

branches_accesses : all_apart branches accesses ≡ true
unfolding branches accesses
branches_accesses = refl

branches_indexed : all_apart branches indexed ≡ true
unfolding branches indexed
branches_indexed = refl

branches_pairs : all_apart branches pairs ≡ true
unfolding branches pairs
branches_pairs = refl

accesses_indexed : all_apart accesses indexed ≡ true
unfolding accesses indexed
accesses_indexed = refl

accesses_pairs : all_apart accesses pairs ≡ true
unfolding accesses pairs
accesses_pairs = refl

indexed_pairs : all_apart indexed pairs ≡ true
unfolding indexed pairs
indexed_pairs = refl

-- ---- a relation of which one thing holds at most

abbrev One : (Spelled → Type 0) → Type 0
One P = (s t : Spelled) → P s → P t → s ≡ t

abbrev Never : (Spelled → Type 0) → (Spelled → Type 0) → Type 0
Never P Q = (s t : Spelled) → P s → Q t → ⊥

one_of_two : (P Q : Spelled → Type 0) → One P → One Q → Never P Q → One (λ s. P s ⊎ Q s)
one_of_two P Q one two never s t h k = elim h [
  | inl a ↦ elim k [ inl b ↦ one s t a b | inr b ↦ absurd (never s t a b) ]
  | inr a ↦ elim k [ inl b ↦ absurd (never t s b a) | inr b ↦ two s t a b ]
]

never_two : (P Q R : Spelled → Type 0) → Never P Q → Never P R → Never P (λ s. Q s ⊎ R s)
never_two P Q R q r s t h k = elim k [ inl b ↦ q s t h b | inr b ↦ r s t h b ]

two_never : (P Q R : Spelled → Type 0) → Never P R → Never Q R → Never (λ s. P s ⊎ Q s) R
two_never P Q R p q s t h k = elim h [ inl a ↦ p s t a k | inr a ↦ q s t a k ]

module _ (n : Numbers) (texts : List (List ℕ)) where
  abbrev By : List Form → Spelled → Type 0
  By fs s = OneSpells n fs texts s

  one_by : (fs : List Form) → each_apart fs ≡ true → One (By fs)
  one_by fs e s t h k = one_of_list n fs texts s t e h k

  never_by : (fs gs : List Form) → all_apart fs gs ≡ true → Never (By fs) (By gs)
  never_by fs gs e s t h k = lists_of_forms n fs gs texts s t e h k

  abbrev Wide : Spelled → Type 0
  Wide s = By indexed s ⊎ By pairs s

  abbrev Access : Spelled → Type 0
  Access s = By accesses s ⊎ Wide s

  abbrev Flow : Spelled → Type 0
  Flow s = By branches s ⊎ Access s

  abbrev Data : Spelled → Type 0
  Data s = By immediates s ⊎ By registers s

  one_wide : One Wide
  one_wide = one_of_two (By indexed) (By pairs) (one_by indexed each_indexed) (one_by pairs each_pair) (never_by indexed pairs indexed_pairs)

  one_access : One Access
  one_access = one_of_two (By accesses) Wide (one_by accesses each_access) one_wide (never_two (By accesses) (By indexed) (By pairs) (never_by accesses indexed accesses_indexed) (never_by accesses pairs accesses_pairs))

  never_flow : (fs : List Form) → all_apart fs branches ≡ true → all_apart fs accesses ≡ true → all_apart fs indexed ≡ true → all_apart fs pairs ≡ true → Never (By fs) Flow
  never_flow fs b a i p = never_two (By fs) (By branches) Access (never_by fs branches b) (never_access fs a i p)
    where
      never_access : (fs : List Form) → all_apart fs accesses ≡ true → all_apart fs indexed ≡ true → all_apart fs pairs ≡ true → Never (By fs) Access
      never_access fs a i p = never_two (By fs) (By accesses) Wide (never_by fs accesses a) (never_two (By fs) (By indexed) (By pairs) (never_by fs indexed i) (never_by fs pairs p))

  one_flow : One Flow
  one_flow = one_of_two (By branches) Access (one_by branches each_branch) one_access (never_two (By branches) (By accesses) Wide (never_by branches accesses branches_accesses) (never_two (By branches) (By indexed) (By pairs) (never_by branches indexed branches_indexed) (never_by branches pairs branches_pairs)))

  one_data : One Data
  one_data = one_of_two (By immediates) (By registers) (one_by immediates each_immediate) (one_by registers each_register) (never_by immediates registers immediates_registers)

  data_or_flow : Never Data Flow
  data_or_flow = two_never (By immediates) (By registers) Flow (never_flow immediates immediates_branches immediates_accesses immediates_indexed immediates_pairs) (never_flow registers registers_branches registers_accesses registers_indexed registers_pairs)

  pub one_form : (s t : Spelled) → HasForm n texts s → HasForm n texts t → s ≡ t
  one_form s t h k = one_of_two Data Flow one_data one_flow data_or_flow s t h k

-- ---- how a line of a form begins

abbrev has_pieces : List Piece → Bool
has_pieces [] = false
has_pieces (p ∷ ps) = true

abbrev begins_well : Form → Bool
begins_well f = has_pieces f.pieces && list_all (λ (m : Name). begins_small m.text) f.mnemonics

abbrev IsBegun : List (List ℕ) → Type 0
IsBegun texts = (first second : List ℕ) × (rest : List (List ℕ)) × (texts ≡ first ∷ second ∷ rest) × (begins_small first ≡ true)

some_text : (n : Numbers) (ps : List Piece) (texts : List (List ℕ)) (s : Spelled) → has_pieces ps ≡ true → ArePieces n ps texts s → (second : List ℕ) × (rest : List (List ℕ)) × (texts ≡ second ∷ rest)
unfolding ArePieces
some_text n [] texts s e h = cc
some_text n (p ∷ ps) [] s e h = absurd h
some_text n (p ∷ ps) (text ∷ texts) s e h = (text, texts, refl)

begun : (n : Numbers) (f : Form) (texts : List (List ℕ)) (s : Spelled) → begins_well f ≡ true → Spells n f texts s → IsBegun texts
unfolding Spells
begun n f [] s e h = absurd h
begun n f (text ∷ texts) s e h =
    let q = both_true (has_pieces f.pieces) (list_all (λ (m : Name). begins_small m.text) f.mnemonics) e in
    let r = some_text n f.pieces texts h.1 q.0 h.3 in
    (text, r.0, r.1, ap (λ (ts : List (List ℕ)). text ∷ ts) r.2, every f.mnemonics text h.0 (λ x. begins_small x) q.1 h.2)

one_begun : (n : Numbers) (fs : List Form) (texts : List (List ℕ)) (s : Spelled) → list_all (λ (f : Form). begins_well f) fs ≡ true → OneSpells n fs texts s → IsBegun texts
unfolding OneSpells
one_begun n [] texts s e h = absurd h
one_begun n (f ∷ fs) texts s e h =
    let q = both_true (begins_well f) (list_all (λ (g : Form). begins_well g) fs) e in
    elim h [ inl first ↦ begun n f texts s q.0 first | inr later ↦ one_begun n fs texts s q.1 later ]

immediates_begin : list_all (λ (f : Form). begins_well f) immediates ≡ true
unfolding immediates
immediates_begin = refl

registers_begin : list_all (λ (f : Form). begins_well f) registers ≡ true
unfolding registers
registers_begin = refl

branches_begin : list_all (λ (f : Form). begins_well f) branches ≡ true
unfolding branches
branches_begin = refl

accesses_begin : list_all (λ (f : Form). begins_well f) accesses ≡ true
unfolding accesses
accesses_begin = refl

indexed_begin : list_all (λ (f : Form). begins_well f) indexed ≡ true
unfolding indexed
indexed_begin = refl

pairs_begin : list_all (λ (f : Form). begins_well f) pairs ≡ true
unfolding pairs
pairs_begin = refl

pub form_begins : (n : Numbers) (texts : List (List ℕ)) (s : Spelled) → HasForm n texts s → IsBegun texts
form_begins n texts s h = elim h [
  | inl d ↦ elim d [ inl a ↦ one_begun n immediates texts s immediates_begin a | inr a ↦ one_begun n registers texts s registers_begin a ]
  | inr f ↦ elim f [
    | inl a ↦ one_begun n branches texts s branches_begin a
    | inr g ↦ elim g [
      | inl a ↦ one_begun n accesses texts s accesses_begin a
      | inr w ↦ elim w [ inl a ↦ one_begun n indexed texts s indexed_begin a | inr a ↦ one_begun n pairs texts s pairs_begin a ]
    ]
  ]
]
