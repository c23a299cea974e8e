-- A line has one form at most: of two forms, no mnemonic is in both, or pieces at one place never are the same text.
use Rattle.std.proofs.Common.{◌≡◌, ◌⊎◌, ℕ, ◌<◌, ◌≤◌, ◌==◌, Bool, true, false, cond, ◌&&◌, ◌||◌, not, IsTrue, List, [], ◌∷◌, ◌++◌, length, map, Option, Some, None, refl, sym, ap, subst, ◌∙◌, append_assoc, inl, inr, arith}
use Rattle.std.specs.Prelude.{nat_lt, is_some}
use Rattle.std.specs.Char.{digit_value}
use Rattle.std.specs.List.{find, list_all, list_any}
use Rattle.std.specs.Option.{option_map}
use Rattle.std.specs.Str.{bytes_eq}
use Rattle.std.specs.Str.Parse.{AllDigits}
use Rattle.std.proofs.lemmas.Bool.Decides.{Decides-eqb}
use Rattle.std.proofs.lemmas.Bool.{lt-ltb}
use Rattle.std.proofs.lemmas.List.{append-nil}
use Rattle.std.proofs.lemmas.Slice.Eq.{bytes_eq-Decides}
use Rattle.a64_inst.specs.declared.kind.Operand.{Operand}
use Rattle.a64_inst.specs.Kinds.{operand}
use Rattle.a64_forms.specs.declared.form.Names.{Names}
use Rattle.a64_forms.specs.declared.form.Names.TheVariants as lists
use Rattle.a64_forms.specs.declared.form.Numbers.{Numbers}
use Rattle.a64_forms.specs.declared.form.Numbers.TheVariants.{Fitting, Any}
use Rattle.a64_forms.specs.declared.form.Slot.{Slot}
use Rattle.a64_forms.specs.declared.form.Slot.TheVariants as slots
use Rattle.a64_forms.specs.Bits.{placed}
use Rattle.a64_forms.specs.Names.{Name, named_bits, names_of}
use Rattle.a64_forms.specs.Number.{IsNumber, IsNumberWord}
use Rattle.a64_forms.specs.Spelling.{ArePieces, IsMaskAs, IsMaskIn, IsMaskOf, IsNumberAs, IsNumberIn, IsNumberOf, IsPiece, IsSlot, Piece, Spelled, begins_name, is_name_start}
use Rattle.a64_forms.proofs.Immediates.{heads, tails, unlike}

-- ---- tests

pub both_true : (a b : Bool) → (a && b) ≡ true → (a ≡ true) × (b ≡ true)
both_true true b e = (refl, e)
both_true false b e = cc

pub either_true : (a b : Bool) → (a || b) ≡ true → (a ≡ true) ⊎ (b ≡ true)
either_true true b e = inl refl
either_true false b e = inr e

pub left_true : (a b : Bool) → a ≡ true → (a || b) ≡ true
left_true true b e = refl
left_true false b e = cc

pub right_true : (a b : Bool) → b ≡ true → (a || b) ≡ true
right_true true b e = refl
right_true false b e = e

no_contrary : (a : Bool) → not a ≡ true → a ≡ true → ⊥
no_contrary true e f = cc
no_contrary false e f = cc

none_of : (p : ℕ → Bool) (ks : List ℕ) (b : ℕ) → list_all (λ a. not (p a)) ks ≡ true → list_any (λ a. b == a) ks ≡ true → p b ≡ true → ⊥
none_of p [] b all some h = cc
none_of p (a ∷ ks) b all some h =
    let q = both_true (not (p a)) (list_all (λ x. not (p x)) ks) all in
    elim (either_true (b == a) (list_any (λ x. b == x) ks) some) [
      | inl e ↦ let same : b ≡ a = (Decides-eqb b a).0 e in no_contrary (p a) q.0 (subst (λ (x : ℕ). p x ≡ true) same h)
      | inr more ↦ none_of p ks b q.1 more h
    ]

-- ---- how a piece begins: with this byte, with one of these, or as a name does

pub data First : Type 0 where
  Byte : ℕ → First
  OneOf : List ℕ → First
  Start : First

abbrev may_begin : First → ℕ → Bool
may_begin (Byte a) b = b == a
may_begin (OneOf ks) b = list_any (λ a. b == a) ks
may_begin Start b = is_name_start b

abbrev apart_first : First → First → Bool
apart_first (Byte a) g = not (may_begin g a)
apart_first (OneOf ks) g = list_all (λ a. not (may_begin g a)) ks
apart_first Start (Byte b) = not (is_name_start b)
apart_first Start (OneOf bs) = list_all (λ b. not (is_name_start b)) bs
apart_first Start Start = false

firsts_apart : (f g : First) (b : ℕ) → apart_first f g ≡ true → may_begin f b ≡ true → may_begin g b ≡ true → ⊥
firsts_apart (Byte a) g b e h k = let same : b ≡ a = (Decides-eqb b a).0 h in no_contrary (may_begin g a) e (subst (λ (x : ℕ). may_begin g x ≡ true) same k)
firsts_apart (OneOf ks) g b e h k = none_of (λ x. may_begin g x) ks b e h k
firsts_apart Start (Byte a) b e h k = let same : b ≡ a = (Decides-eqb b a).0 k in no_contrary (is_name_start a) e (subst (λ (x : ℕ). is_name_start x ≡ true) same h)
firsts_apart Start (OneOf ks) b e h k = none_of (λ x. is_name_start x) ks b e k h
firsts_apart Start Start b e h k = cc

-- the bytes with which names begin, each once
abbrev head_of : List ℕ → ℕ
head_of [] = 0
head_of (b ∷ bytes) = b

abbrev heads_of : List Name → List ℕ
heads_of [] = []
heads_of (n ∷ ns) = let more = heads_of ns in cond (list_any (λ a. head_of n.text == a) more) more (head_of n.text ∷ more)

abbrev is_some_text : List ℕ → Bool
is_some_text [] = false
is_some_text (b ∷ bytes) = true

kept_head : (g : Bool) (a b : ℕ) (bs : List ℕ) → list_any (λ x. a == x) bs ≡ true → list_any (λ x. a == x) (cond g bs (b ∷ bs)) ≡ true
kept_head true a b bs h = h
kept_head false a b bs h = right_true (a == b) (list_any (λ x. a == x) bs) h

new_head : (g : Bool) (b : ℕ) (bs : List ℕ) → list_any (λ x. b == x) bs ≡ g → list_any (λ x. b == x) (cond g bs (b ∷ bs)) ≡ true
new_head true b bs e = e
new_head false b bs e = left_true (b == b) (list_any (λ x. b == x) bs) ((Decides-eqb b b).1 refl)

abbrev Begins : List ℕ → First → Type 0
Begins text f = (b : ℕ) × (rest : List ℕ) × (text ≡ b ∷ rest) × (may_begin f b ≡ true)

begins_as_name : (t text : List ℕ) (more : List ℕ) → is_some_text t ≡ true → t ≡ text → Begins text (OneOf (cond (list_any (λ a. head_of t == a) more) more (head_of t ∷ more)))
begins_as_name [] text more some e = cc
begins_as_name (b ∷ rest) text more some e = (b, rest, sym e, new_head (list_any (λ a. b == a) more) b more refl)

begins_later : (text : List ℕ) (c : ℕ) (more : List ℕ) → Begins text (OneOf more) → Begins text (OneOf (cond (list_any (λ a. c == a) more) more (c ∷ more)))
begins_later text c more h = (h.0, h.1, h.2, kept_head (list_any (λ a. c == a) more) h.0 c more h.3)

named_step : (g : Bool) (n : Name) (ns : List Name) (text : List ℕ) (bits : ℕ) → bytes_eq n.text text ≡ g → is_some_text n.text ≡ true
    → option_map (λ (m : Name). m.bits) (cond g (Some n) (find (λ (m : Name). bytes_eq m.text text) ns)) ≡ Some bits
    → (named_bits ns text ≡ Some bits → Begins text (OneOf (heads_of ns))) → Begins text (OneOf (heads_of (n ∷ ns)))
named_step true n ns text bits told some e later = begins_as_name n.text text (heads_of ns) some ((bytes_eq-Decides n.text text).0 told)
named_step false n ns text bits told some e later = begins_later text (head_of n.text) (heads_of ns) (later e)

named_begins : (ns : List Name) (text : List ℕ) (bits : ℕ) → list_all (λ (n : Name). is_some_text n.text) ns ≡ true → named_bits ns text ≡ Some bits → Begins text (OneOf (heads_of ns))
named_begins [] text bits some e = absurd (unlike bits e)
named_begins (n ∷ ns) text bits some e =
    let q = both_true (is_some_text n.text) (list_all (λ (m : Name). is_some_text m.text) ns) some in
    named_step (bytes_eq n.text text) n ns text bits refl q.0 e (λ more. named_begins ns text bits q.1 more)

some_names : (list : Names) → list_all (λ (n : Name). is_some_text n.text) (names_of list) ≡ true
some_names lists.X = refl
some_names lists.XOrSp = refl
some_names lists.W = refl
some_names lists.WOrSp = refl
some_names lists.Condition = refl
some_names lists.Shift = refl
some_names lists.ShiftOrTurn = refl
some_names lists.Left = refl
some_names lists.ExtendW = refl
some_names lists.ExtendX = refl
some_names lists.Extend = refl
some_names lists.OffsetW = refl
some_names lists.OffsetX = refl

abbrev first_in : List ℕ → Slot → First
first_in (b ∷ before) slot = Byte b
first_in [] (slots.Name list place) = OneOf (heads_of (names_of list))
first_in [] (slots.Number o) = Byte 35
first_in [] (slots.Distance kind) = Byte 35
first_in [] (slots.Mask sf) = Byte 35
first_in [] (slots.Aim aim) = Start

mapped : (f : ℕ → ℕ) (r : Option ℕ) (v : ℕ) → option_map f r ≡ Some v → (w : ℕ) × (r ≡ Some w)
mapped f None v e = absurd (unlike v e)
mapped f (Some w) v e = (w, refl)

-- a text that begins with `#`
sharp : (text rest : List ℕ) → text ≡ 35 ∷ rest → Begins text (Byte 35)
sharp text rest e = (35, rest, e, refl)

number_begins : (n : Numbers) (o : Operand) (text : List ℕ) (s : Spelled) → IsNumberAs n o text s → Begins text (Byte 35)
unfolding IsNumberOf IsNumberIn
number_begins Fitting o text s p = elim p.1.3 [ inl q ↦ sharp text p.1.0 q.0 | inr q ↦ sharp text (45 ∷ p.1.0) q.0 ]
number_begins Any o text s p = elim p.2 [ inl q ↦ sharp text p.0 q | inr q ↦ sharp text (45 ∷ p.0) q.0 ]

mask_begins : (n : Numbers) (sf : ℕ) (text : List ℕ) (s : Spelled) → IsMaskAs n sf text s → Begins text (Byte 35)
unfolding IsMaskOf IsMaskIn
mask_begins Fitting sf text s p = sharp text p.0 p.2
mask_begins Any sf text s p = sharp text p.0 p.2

name_begins : (text : List ℕ) → begins_name text ≡ true → Begins text Start
name_begins [] e = cc
name_begins (b ∷ rest) e = (b, rest, refl, e)

slot_begins : (n : Numbers) (slot : Slot) (text : List ℕ) (s : Spelled) → IsSlot n slot text s → Begins text (first_in [] slot)
slot_begins n (slots.Name list place) text s p = let q = mapped (placed place) (named_bits (names_of list) text) s.bits p.0 in named_begins (names_of list) text q.0 (some_names list) q.1
slot_begins n (slots.Number o) text s p = number_begins n o text s p
slot_begins n (slots.Distance kind) text s p = number_begins n (operand kind) text s p
slot_begins n (slots.Mask sf) text s p = mask_begins n sf text s p
slot_begins n (slots.Aim aim) text s p = name_begins text p.0

begins_in : (n : Numbers) (before : List ℕ) (slot : Slot) (inside behind text : List ℕ) (s : Spelled) → text ≡ before ++ inside ++ behind → IsSlot n slot inside s → Begins text (first_in before slot)
begins_in n (b ∷ before) slot inside behind text s e p = (b, before ++ inside ++ behind, e, (Decides-eqb b b).1 refl)
begins_in n [] slot inside behind text s e p = let q = slot_begins n slot inside s p in (q.0, q.1 ++ behind, e ∙ ap (λ (x : List ℕ). x ++ behind) q.2, q.3)

-- ---- how a piece ends: with this byte, with a digit, or in some way

pub data Last : Type 0 where
  Ends : ℕ → Last
  Digit : Last
  Open : Last

abbrev EndsAs : Last → List ℕ → Type 0
EndsAs (Ends a) text = (front : List ℕ) × (text ≡ front ++ a ∷ [])
EndsAs Digit text = (front : List ℕ) × (d : ℕ) × (text ≡ front ++ d ∷ []) × (digit_value d < 36)
EndsAs Open text = Unit {0}

abbrev apart_last : Last → Last → Bool
apart_last (Ends a) (Ends b) = not (a == b)
apart_last (Ends a) Digit = not (nat_lt (digit_value a) 36)
apart_last (Ends a) Open = false
apart_last Digit (Ends a) = not (nat_lt (digit_value a) 36)
apart_last Digit Digit = false
apart_last Digit Open = false
apart_last Open g = false

no_end : (y : List ℕ) (b : ℕ) → [] ≡ y ++ b ∷ [] → ⊥
no_end [] b e = cc
no_end (c ∷ y) b e = cc

one_last : (x y : List ℕ) (a b : ℕ) → x ++ a ∷ [] ≡ y ++ b ∷ [] → a ≡ b
one_last [] [] a b e = cc
one_last [] (c ∷ y) a b e = absurd (no_end y b (tails a c [] (y ++ b ∷ []) e))
one_last (c ∷ x) [] a b e = absurd (no_end x a (sym (tails c b (x ++ a ∷ []) [] e)))
one_last (c ∷ x) (d ∷ y) a b e = one_last x y a b (tails c d (x ++ a ∷ []) (y ++ b ∷ []) e)

no_digit : (text front back : List ℕ) (a d : ℕ) → not (nat_lt (digit_value a) 36) ≡ true → text ≡ front ++ a ∷ [] → text ≡ back ++ d ∷ [] → digit_value d < 36 → ⊥
no_digit text front back a d e h k digit =
    let same : d ≡ a = one_last back front d a (sym k ∙ h) in
    no_contrary (nat_lt (digit_value a) 36) e (lt-ltb (digit_value a) 36 (subst (λ (x : ℕ). digit_value x < 36) same digit))

lasts_apart : (l m : Last) (text : List ℕ) → apart_last l m ≡ true → EndsAs l text → EndsAs m text → ⊥
lasts_apart (Ends a) (Ends b) text e h k = no_contrary (a == b) e ((Decides-eqb a b).1 (one_last h.0 k.0 a b (sym h.1 ∙ k.1)))
lasts_apart (Ends a) Digit text e h k = no_digit text h.0 k.0 a k.1 e h.1 k.2 k.3
lasts_apart (Ends a) Open text e h k = cc
lasts_apart Digit (Ends a) text e h k = no_digit text k.0 h.0 a h.1 e k.1 h.2 h.3
lasts_apart Digit Digit text e h k = cc
lasts_apart Digit Open text e h k = cc
lasts_apart Open g text e h k = cc

ends_behind : (l : Last) (x text : List ℕ) → EndsAs l text → EndsAs l (x ++ text)
ends_behind (Ends a) x text h = (x ++ h.0, ap (λ (t : List ℕ). x ++ t) h.1 ∙ sym (append_assoc x h.0 (a ∷ [])))
ends_behind Digit x text h = (x ++ h.0, h.1, ap (λ (t : List ℕ). x ++ t) h.2 ∙ sym (append_assoc x h.0 (h.1 ∷ [])), h.3)
ends_behind Open x text h = tt

numeral_ends : (base : ℕ) (digits : List ℕ) → base ≤ 36 → 0 < length digits → AllDigits base digits → EndsAs Digit digits
numeral_ends base [] most some all = absurd (omega (arith, some))
numeral_ends base (d ∷ []) most some all = ([], d, refl, omega (arith, all.0))
numeral_ends base (d ∷ e ∷ digits) most some all =
    let more : 0 < length (e ∷ digits) = omega arith in
    ends_behind Digit (d ∷ []) (e ∷ digits) (numeral_ends base (e ∷ digits) most more all.1)

hexadecimal_ends : (word digits : List ℕ) → word ≡ 48 ∷ 120 ∷ digits → 0 < length digits → AllDigits 16 digits → EndsAs Digit word
hexadecimal_ends word digits e some all = subst (EndsAs Digit) (sym e) (ends_behind Digit (48 ∷ 120 ∷ []) digits (numeral_ends 16 digits (omega arith) some all))

word_ends : (word : List ℕ) → IsNumberWord word → EndsAs Digit word
word_ends word is = elim is [
  | inl d ↦ numeral_ends 10 word (omega arith) d.0 d.1
  | inr h ↦ hexadecimal_ends word h.0 h.1 h.2.0 h.2.1
]

number_ends : (word : List ℕ) (n : ℕ) → IsNumber word n → EndsAs Digit word
number_ends word n is = elim is.0 [
  | inl d ↦ numeral_ends 10 word (omega arith) d.numeral.0 d.numeral.1
  | inr h ↦ hexadecimal_ends word h.digits h.spelled h.numeral.0 h.numeral.1
]

-- a text that ends as the digits in it
along_end : (text x digits : List ℕ) → text ≡ x ++ digits → EndsAs Digit digits → EndsAs Digit text
along_end text x digits e h = subst (EndsAs Digit) (sym e) (ends_behind Digit x digits h)

operand_ends : (n : Numbers) (o : Operand) (text : List ℕ) (s : Spelled) → IsNumberAs n o text s → EndsAs Digit text
unfolding IsNumberOf IsNumberIn
operand_ends Fitting o text s p =
    let ends = number_ends p.1.0 p.1.1 p.1.2 in
    elim p.1.3 [ inl q ↦ along_end text (35 ∷ []) p.1.0 q.0 ends | inr q ↦ along_end text (35 ∷ 45 ∷ []) p.1.0 q.0 ends ]
operand_ends Any o text s p =
    let ends = word_ends p.0 p.1 in
    elim p.2 [ inl q ↦ along_end text (35 ∷ []) p.0 q ends | inr q ↦ along_end text (35 ∷ 45 ∷ []) p.0 q.0 ends ]

mask_ends : (n : Numbers) (sf : ℕ) (text : List ℕ) (s : Spelled) → IsMaskAs n sf text s → EndsAs Digit text
unfolding IsMaskOf IsMaskIn
mask_ends Fitting sf text s p = along_end text (35 ∷ []) p.0 p.2 (number_ends p.0 p.1 p.3)
mask_ends Any sf text s p = along_end text (35 ∷ []) p.0 p.2 (word_ends p.0 p.1)

abbrev last_byte : ℕ → List ℕ → ℕ
last_byte b [] = b
last_byte b (c ∷ bytes) = last_byte c bytes

abbrev last_in : List ℕ → Slot → Last
last_in (b ∷ behind) slot = Ends (last_byte b behind)
last_in [] (slots.Name list place) = Open
last_in [] (slots.Number o) = Digit
last_in [] (slots.Distance kind) = Digit
last_in [] (slots.Mask sf) = Digit
last_in [] (slots.Aim aim) = Open

slot_ends : (n : Numbers) (slot : Slot) (text : List ℕ) (s : Spelled) → IsSlot n slot text s → EndsAs (last_in [] slot) text
slot_ends n (slots.Name list place) text s p = tt
slot_ends n (slots.Number o) text s p = operand_ends n o text s p
slot_ends n (slots.Distance kind) text s p = operand_ends n (operand kind) text s p
slot_ends n (slots.Mask sf) text s p = mask_ends n sf text s p
slot_ends n (slots.Aim aim) text s p = tt

own_last : (b : ℕ) (bytes : List ℕ) → EndsAs (Ends (last_byte b bytes)) (b ∷ bytes)
own_last b [] = ([], refl)
own_last b (c ∷ bytes) = ends_behind (Ends (last_byte c bytes)) (b ∷ []) (c ∷ bytes) (own_last c bytes)

ends_in : (n : Numbers) (behind : List ℕ) (slot : Slot) (before inside text : List ℕ) (s : Spelled) → text ≡ before ++ inside ++ behind → IsSlot n slot inside s → EndsAs (last_in behind slot) text
ends_in n (b ∷ behind) slot before inside text s e p = subst (EndsAs (Ends (last_byte b behind))) (sym e) (ends_behind (Ends (last_byte b behind)) (before ++ inside) (b ∷ behind) (own_last b behind))
ends_in n [] slot before inside text s e p = subst (EndsAs (last_in [] slot)) (sym (e ∙ append-nil (before ++ inside))) (ends_behind (last_in [] slot) before inside (slot_ends n slot inside s p))

-- ---- pieces at one place

abbrev pub apart_pieces : Piece → Piece → Bool
apart_pieces p q = apart_first (first_in p.before p.slot) (first_in q.before q.slot) || apart_last (last_in p.behind p.slot) (last_in q.behind q.slot)

same_begin : (f g : First) (text : List ℕ) → apart_first f g ≡ true → Begins text f → Begins text g → ⊥
same_begin f g text e h k =
    let same : h.0 ≡ k.0 = heads h.0 k.0 h.1 k.1 (sym h.2 ∙ k.2) in
    firsts_apart f g k.0 e (subst (λ (b : ℕ). may_begin f b ≡ true) same h.3) k.3

pub pieces_apart : (n : Numbers) (p q : Piece) (text : List ℕ) (s t : Spelled) → apart_pieces p q ≡ true → IsPiece n p text s → IsPiece n q text t → ⊥
pieces_apart n p q text s t e h k =
    elim (either_true (apart_first (first_in p.before p.slot) (first_in q.before q.slot)) (apart_last (last_in p.behind p.slot) (last_in q.behind q.slot)) e) [
      | inl first ↦ same_begin (first_in p.before p.slot) (first_in q.before q.slot) text first (begins_in n p.before p.slot h.0 p.behind text s h.1 h.2) (begins_in n q.before q.slot k.0 q.behind text t k.1 k.2)
      | inr last ↦ lasts_apart (last_in p.behind p.slot) (last_in q.behind q.slot) text last (ends_in n p.behind p.slot p.before h.0 text s h.1 h.2) (ends_in n q.behind q.slot q.before k.0 text t k.1 k.2)
    ]

abbrev pub apart_lists : List Piece → List Piece → Bool
apart_lists [] [] = false
apart_lists [] (q ∷ qs) = true
apart_lists (p ∷ ps) [] = true
apart_lists (p ∷ ps) (q ∷ qs) = apart_pieces p q || apart_lists ps qs

pub lists_apart : (n : Numbers) (ps qs : List Piece) (texts : List (List ℕ)) (s t : Spelled) → apart_lists ps qs ≡ true → ArePieces n ps texts s → ArePieces n qs texts t → ⊥
unfolding ArePieces
lists_apart n [] [] texts s t e h k = cc
lists_apart n [] (q ∷ qs) [] s t e h k = k
lists_apart n [] (q ∷ qs) (text ∷ texts) s t e h k = h
lists_apart n (p ∷ ps) [] [] s t e h k = h
lists_apart n (p ∷ ps) [] (text ∷ texts) s t e h k = k
lists_apart n (p ∷ ps) (q ∷ qs) [] s t e h k = h
lists_apart n (p ∷ ps) (q ∷ qs) (text ∷ texts) s t e h k =
    elim (either_true (apart_pieces p q) (apart_lists ps qs) e) [
      | inl first ↦ pieces_apart n p q text h.0 k.0 first h.2 k.2
      | inr later ↦ lists_apart n ps qs texts h.1 k.1 later h.3 k.3
    ]
