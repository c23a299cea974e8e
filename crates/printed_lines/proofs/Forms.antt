-- The texts of instructions are words.
use Rattle.std.proofs.Common.{◌≡◌, ◌⊎◌, ◌==◌, ℕ, zero, suc, ◌+◌, ◌^◌, ◌%◌, ◌/◌, ◌<◌, ◌≤◌, ℤ, pos, negsuc, Bool, true, false, cond, ◌&&◌, ◌||◌, List, [], ◌∷◌, ◌++◌, Option, Some, None, refl, sym, ap, subst, ◌∙◌, append_assoc, arith, inl, inr}
use Rattle.std.specs.Prelude.{if◌then◌else◌, codes, nat_lt, pos, IsUtf8}
use Rattle.std.specs.Fmt.{decimal, digits, digits_onto, digit_glyph, signed_decimal}
use Rattle.std.specs.List.{AllByRecursion, find, list_all}
use Rattle.std.specs.Option.{option_and_then, option_map, option_or}
use Rattle.std.specs.Ordering.{int_eq}
use Rattle.std.proofs.lemmas.Bool.{and_parts, cases_Bool, cond-true, cond-false}
use Rattle.std.proofs.lemmas.Bool.Decides.{nat_tests}
use Rattle.std.proofs.lemmas.List.{append-nil}
use Rattle.a64_inst.specs.Kinds.{operand}
use Rattle.a64_inst.specs.Parts.{bits_at}
use Rattle.a64_inst.specs.declared.kind.Operand.{Operand}
use Rattle.a64_forms.specs.declared.form.Aim.{Aim}
use Rattle.a64_forms.specs.declared.form.Aim.TheVariants as aims
use Rattle.a64_forms.specs.declared.form.Names.{Names}
use Rattle.a64_forms.specs.declared.form.Names.TheVariants as lists
use Rattle.a64_forms.specs.declared.form.Slot.{Slot}
use Rattle.a64_forms.specs.declared.form.Slot.TheVariants as slots
use Rattle.a64_forms.specs.Bits.{mask_of, number_bits, placed}
use Rattle.a64_forms.specs.Names.{Name, names_of}
use Rattle.a64_forms.specs.Spelling.{Form, Piece, accesses, branches, immediates, indexed, pairs, registers}
use Rattle.asm_read.specs.Words.{is_some_bytes}
use Rattle.asm_spelling.specs.declared.named.Named.{Named}
use Rattle.asm_spelling.specs.declared.named.Named.TheVariants.{Nothing, Label}
use Rattle.asm_spelling.specs.declared.written.Texts.{Texts}
use Rattle.asm_spelling.specs.declared.written.Written.{Written}
use Rattle.asm_spelling.specs.Labels.{offset_text}
use Rattle.asm_spelling.specs.Slots.{aim_text, name_of, name_width, units_in, value_bits, value_in, written, written_mask, written_name, written_number, written_slot, written_value}
use Rattle.asm_spelling.specs.Words.{before, first_written, give, names_it, table_texts, texts, with_mnemonic, without_pieces, written_form, written_piece, written_pieces}
use Rattle.printed_lines.proofs.Texts.{IsEasy, IsText, easy_text, is_easy, joined_texts}
use Rattle.printed_lines.proofs.Fragments.{easy_bytes}
use Rattle.printed_lines.proofs.Spaced.{IsWord, before_comma, one_word}

-- ---- options

values : {A : Type 0} (a b : A) → Some a ≡ Some b → a ≡ b
values a b e = cc

mapped : {A B : Type 0} (f : A → B) (o : Option A) (y : B) → option_map f o ≡ Some y → (x : A) × (o ≡ Some x) × (f x ≡ y)
mapped f None y e = absurd cc
mapped f (Some x) y e = (x, refl, values (f x) y e)

pub chained : {A B : Type 0} (f : A → Option B) (o : Option A) (y : B) → option_and_then f o ≡ Some y → (x : A) × (o ≡ Some x) × (f x ≡ Some y)
chained f None y e = absurd cc
chained f (Some x) y e = (x, refl, e)

either_some : {A : Type 0} (a b : Option A) (x : A) → option_or a b ≡ Some x → (a ≡ Some x) ⊎ (b ≡ Some x)
either_some None b x e = inr e
either_some (Some y) b x e = inl e

when_true : (b : Bool) (o : Option Texts) (x : Texts) → (if b then o else None) ≡ Some x → o ≡ Some x
when_true true o x e = e
when_true false o x e = absurd cc

-- ---- digits

glyph_easy : (d : ℕ) → d < 16 → IsEasy (digit_glyph false d)
glyph_easy d small = record { low = grind (arith, nat_tests); high = grind (arith, nat_tests); no_quote = grind (arith, nat_tests); no_slash = grind (arith, nat_tests); no_comma = grind (arith, nat_tests) }

module _ (base : ℕ) (some : 0 < base) (most : base ≤ 16) where
  last_digit : (n : ℕ) → IsEasy (digit_glyph false (n % base))
  last_digit n = glyph_easy (n % base) (omega arith)

  onto_easy : (k n : ℕ) (acc : List ℕ) → AllByRecursion IsEasy acc → AllByRecursion IsEasy (digits_onto k base false n acc)
  onto_easy zero n acc all = all
  onto_easy (suc k) n acc all =
      elim (cases_Bool (n / base == 0)) [
        | inl last ↦ subst (λ (l : List ℕ). AllByRecursion IsEasy l) (sym (cond-true (n / base == 0) (digit_glyph false (n % base) ∷ acc) (digits_onto k base false (n / base) (digit_glyph false (n % base) ∷ acc)) last)) (last_digit n, all)
        | inr more ↦ subst (λ (l : List ℕ). AllByRecursion IsEasy l) (sym (cond-false (n / base == 0) (digit_glyph false (n % base) ∷ acc) (digits_onto k base false (n / base) (digit_glyph false (n % base) ∷ acc)) more)) (onto_easy k (n / base) (digit_glyph false (n % base) ∷ acc) (last_digit n, all))
      ]

any_digits : (base : ℕ) → 0 < base → base ≤ 16 → (n : ℕ) → IsText (digits base false n)
unfolding digits
any_digits base some most n = easy_bytes (digits base false n) (onto_easy base some most 64 n [] tt)

any_signed : (z : ℤ) → IsText (signed_decimal z)
any_signed (pos n) = any_digits 10 (omega arith) (omega arith) n
any_signed (negsuc n) = joined_texts (45 ∷ []) (decimal (suc n)) (easy_text (45 ∷ []) refl) (any_digits 10 (omega arith) (omega arith) (suc n))

-- ---- what the tables have

abbrev is_fine : List ℕ → Bool
is_fine w = is_some_bytes w && list_all is_easy w

-- easy bytes, the last of which may be a comma
abbrev ends_well : List ℕ → Bool
ends_well [] = true
ends_well (b ∷ []) = is_easy b || (b == 44)
ends_well (b ∷ c ∷ w) = is_easy b && ends_well (c ∷ w)

abbrev is_fine_piece : Piece → Bool
is_fine_piece p = list_all is_easy p.before && ends_well p.behind

abbrev is_fine_name : Name → Bool
is_fine_name n = is_fine n.text

abbrev is_fine_form : Form → Bool
is_fine_form f = list_all is_fine_name f.mnemonics && list_all is_fine_piece f.pieces

lists_fine : (list : Names) → list_all is_fine_name (names_of list) ≡ true
lists_fine lists.X = refl
lists_fine lists.XOrSp = refl
lists_fine lists.W = refl
lists_fine lists.WOrSp = refl
lists_fine lists.Condition = refl
lists_fine lists.Shift = refl
lists_fine lists.ShiftOrTurn = refl
lists_fine lists.Left = refl
lists_fine lists.ExtendW = refl
lists_fine lists.ExtendX = refl
lists_fine lists.Extend = refl
lists_fine lists.OffsetW = refl
lists_fine lists.OffsetX = refl

immediates_fine : list_all is_fine_form immediates ≡ true
unfolding immediates
immediates_fine = refl

registers_fine : list_all is_fine_form registers ≡ true
unfolding registers
registers_fine = refl

branches_fine : list_all is_fine_form branches ≡ true
unfolding branches
branches_fine = refl

accesses_fine : list_all is_fine_form accesses ≡ true
unfolding accesses
accesses_fine = refl

indexed_fine : list_all is_fine_form indexed ≡ true
unfolding indexed
indexed_fine = refl

pairs_fine : list_all is_fine_form pairs ≡ true
unfolding pairs
pairs_fine = refl

-- ---- slots

-- a text that isn't empty
abbrev IsSome : List ℕ → Type 0
IsSome w = IsText w × (is_some_bytes w ≡ true)

fine_is : (w : List ℕ) → is_fine w ≡ true → IsSome w
fine_is w e = let p = and_parts (is_some_bytes w) (list_all is_easy w) e in (easy_text w p.1, p.0)

found_fine : (p : Name → Bool) (ns : List Name) (n : Name) → list_all is_fine_name ns ≡ true → find p ns ≡ Some n → IsSome n.text
found_fine p [] n all e = absurd cc
found_fine p (m ∷ ms) n all e =
    let parts = and_parts (is_fine_name m) (list_all is_fine_name ms) all in
    elim (cases_Bool (p m)) [
      | inl here ↦
          let same : Some m ≡ Some n = sym (cond-true (p m) (Some m) (find p ms) here) ∙ e in
          let is : m ≡ n = cc in
          subst (λ (x : Name). IsSome x.text) is (fine_is m.text parts.0)
      | inr later ↦ found_fine p ms n parts.1 (sym (cond-false (p m) (Some m) (find p ms) later) ∙ e)
    ]

-- what is named is a text, with its offset and alone
abbrev pub NamesText : Named → Type 0
NamesText Nothing = Unit {0}
NamesText (Label text offset) = IsText text × IsText (offset_text offset) × (is_some_bytes text ≡ true)

some_front : (v w : List ℕ) → is_some_bytes v ≡ true → is_some_bytes (v ++ w) ≡ true
some_front [] w e = absurd cc
some_front (b ∷ v) w e = refl

aim_some : (named : Named) (aim : Aim) (text : List ℕ) → NamesText named → aim_text aim named ≡ Some text → IsSome text
aim_some Nothing aim text is e = absurd cc
aim_some (Label label offset) aims.Label text is e = elim (cases_Bool (int_eq offset (pos 0))) [
  | inl none ↦
      let same : Some label ≡ Some text = sym (cond-true (int_eq offset (pos 0)) (Some label) None none) ∙ e in
      subst IsSome (values label text same) (is.0, is.2)
  | inr some ↦
      let no : None ≡ Some text = sym (cond-false (int_eq offset (pos 0)) (Some label) None some) ∙ e in
      absurd cc
]
aim_some (Label label offset) aims.Expression text is e =
    subst IsSome (values (label ++ offset_text offset) text e) (joined_texts label (offset_text offset) is.0 is.1, some_front label (offset_text offset) is.2)

number_some : (word : ℕ) (o : Operand) (x : Written) → written_number word o ≡ Some x → IsSome x.text
number_some word o x e =
    let value = value_in o (units_in o word) in
    let m = mapped (λ bits. written (codes "#" ++ signed_decimal value) bits) (number_bits o value) x e in
    subst (λ (y : Written). IsSome y.text) m.2 (joined_texts (codes "#") (signed_decimal value) (easy_text (codes "#") refl) (any_signed value), refl)

mask_some : (word sf : ℕ) (x : Written) → written_mask word sf ≡ Some x → IsSome x.text
mask_some word sf x e =
    let c = chained (written_value sf) (mask_of sf (bits_at 10 13 word)) x e in
    let value = c.0 in
    let m = mapped (written (codes "#0x" ++ digits 16 false value)) (value_bits sf value) x c.2 in
    subst (λ (y : Written). IsSome y.text) m.2 (joined_texts (codes "#0x") (digits 16 false value) (easy_text (codes "#0x") refl) (any_digits 16 (omega arith) (omega arith) value), refl)

slot_some : (word : ℕ) (named : Named) (slot : Slot) (x : Written) → NamesText named → written_slot word named slot ≡ Some x → IsSome x.text
slot_some word named (slots.Name list place) x is e =
    let bits = bits_at place (name_width list) word in
    let m = mapped (λ (n : Name). written n.text (placed place n.bits)) (name_of (names_of list) bits) x e in
    subst (λ (y : Written). IsSome y.text) m.2 (found_fine (λ n. n.bits == bits) (names_of list) m.0 (lists_fine list) m.1)
slot_some word named (slots.Number o) x is e = number_some word o x e
slot_some word named (slots.Distance kind) x is e = number_some word (operand kind) x e
slot_some word named (slots.Mask sf) x is e = mask_some word sf x e
slot_some word named (slots.Aim aim) x is e =
    let m = mapped (λ text. written text 0) (aim_text aim named) x e in
    subst (λ (y : Written). IsSome y.text) m.2 (aim_some named aim m.0 is m.1)

-- ---- pieces

either_true : (a b : Bool) → (a || b) ≡ true → (a ≡ true) ⊎ (b ≡ true)
either_true true b e = inl refl
either_true false b e = inr e

some_back : (v w : List ℕ) → is_some_bytes w ≡ true → is_some_bytes (v ++ w) ≡ true
some_back [] w e = e
some_back (b ∷ v) w e = refl

ended_word : (w behind : List ℕ) → IsText w → is_some_bytes w ≡ true → ends_well behind ≡ true → IsWord (w ++ behind)
ended_word w [] t some e = subst IsWord (sym (append-nil w)) (one_word w t some)
ended_word w (b ∷ []) t some e = elim (either_true (is_easy b) (b == 44) e) [
  | inl easy ↦ one_word (w ++ b ∷ []) (joined_texts w (b ∷ []) t (easy_text (b ∷ []) (ap (λ (x : Bool). x && true) easy))) (some_front w (b ∷ []) some)
  | inr comma ↦
      let is : 44 ≡ b = grind (arith, nat_tests) in
      subst (λ (c : ℕ). IsWord (w ++ c ∷ [])) is (before_comma w t)
]
ended_word w (b ∷ c ∷ behind) t some e =
    let p = and_parts (is_easy b) (ends_well (c ∷ behind)) e in
    subst IsWord (append_assoc w (b ∷ []) (c ∷ behind))
    (ended_word (w ++ b ∷ []) (c ∷ behind) (joined_texts w (b ∷ []) t (easy_text (b ∷ []) (ap (λ (x : Bool). x && true) p.0))) (some_front w (b ∷ []) some) p.1)

piece_word : (word : ℕ) (named : Named) (p : Piece) (x : Written) → NamesText named → is_fine_piece p ≡ true → written_piece word named p ≡ Some x → IsWord x.text
piece_word word named p x is fine e =
    let parts = and_parts (list_all is_easy p.before) (ends_well p.behind) fine in
    let m = mapped (λ (y : Written). written (p.before ++ y.text ++ p.behind) y.bits) (written_slot word named p.slot) x e in
    let s = slot_some word named p.slot m.0 is m.1 in
    subst (λ (y : Written). IsWord y.text) m.2
    (ended_word (p.before ++ m.0.text) p.behind (joined_texts p.before m.0.text (easy_text p.before parts.0) s.0) (some_back p.before m.0.text s.1) parts.1)

pieces_words : (word : ℕ) (named : Named) (ps : List Piece) (x : Texts) → NamesText named → list_all is_fine_piece ps ≡ true → written_pieces word named ps ≡ Some x → AllByRecursion IsWord x.texts
pieces_words word named [] x is fine e = subst (λ (y : Texts). AllByRecursion IsWord y.texts) (values (texts [] 0) x e) tt
pieces_words word named (p ∷ ps) x is fine e =
    let goods = and_parts (is_fine_piece p) (list_all is_fine_piece ps) fine in
    let c = chained (λ first. option_map (before first) (written_pieces word named ps)) (written_piece word named p) x e in
    let m = mapped (before c.0) (written_pieces word named ps) x c.2 in
    subst (λ (y : Texts). AllByRecursion IsWord y.texts) m.2 (piece_word word named p c.0 is goods.0 c.1, pieces_words word named ps m.0 is goods.1 m.1)

-- ---- forms

-- a mnemonic, and the words behind it
pub record AreTexts (ts : List (List ℕ)) : Type 0 where
  pub mnemonic : List ℕ
  pub operands : List (List ℕ)
  pub are : ts ≡ mnemonic ∷ operands
  pub first : IsWord mnemonic
  pub rest : AllByRecursion IsWord operands

form_texts : (word : ℕ) (named : Named) (f : Form) (x : Texts) → NamesText named → is_fine_form f ≡ true → written_form word named f ≡ Some x → AreTexts x.texts
form_texts word named f x is fine e =
    let goods = and_parts (list_all is_fine_name f.mnemonics) (list_all is_fine_piece f.pieces) fine in
    let w = when_true (names_it named f.pieces) (option_and_then (with_mnemonic word named f) (name_of f.mnemonics (without_pieces f.pieces word))) x e in
    let c = chained (with_mnemonic word named f) (name_of f.mnemonics (without_pieces f.pieces word)) x w in
    let n = c.0 in
    let d = chained (λ (y : Texts). if give word f y then Some y else None) (option_map (before (written n.text n.bits)) (written_pieces word named f.pieces)) x c.2 in
    let k = values d.0 x (when_true (give word f d.0) (Some d.0) x d.2) in
    let m = mapped (before (written n.text n.bits)) (written_pieces word named f.pieces) d.0 d.1 in
    let s = found_fine (λ (y : Name). y.bits == without_pieces f.pieces word) f.mnemonics n goods.0 c.1 in
    subst (λ (y : Texts). AreTexts y.texts) (m.2 ∙ k)
    (record { mnemonic = n.text; operands = m.0.texts; are = refl; first = one_word n.text s.0 s.1; rest = pieces_words word named f.pieces m.0 is goods.1 m.1 })

forms_texts : (word : ℕ) (named : Named) (fs : List Form) (x : Texts) → NamesText named → list_all is_fine_form fs ≡ true → first_written word named fs ≡ Some x → AreTexts x.texts
forms_texts word named [] x is fine e = absurd cc
forms_texts word named (f ∷ fs) x is fine e =
    let goods = and_parts (is_fine_form f) (list_all is_fine_form fs) fine in
    elim (either_some (written_form word named f) (first_written word named fs) x e) [
      | inl here ↦ form_texts word named f x is goods.0 here
      | inr later ↦ forms_texts word named fs x is goods.1 later
    ]

pub table_words : (word : ℕ) (named : Named) (x : Texts) → NamesText named → table_texts word named ≡ Some x → AreTexts x.texts
unfolding table_texts
table_words word named x is e =
    let from = λ (fs : List Form). first_written word named fs in
    elim (either_some (from immediates) (option_or (from registers) (option_or (from branches) (option_or (from accesses) (option_or (from indexed) (from pairs))))) x e) [
      | inl a ↦ forms_texts word named immediates x is immediates_fine a
      | inr more ↦ elim (either_some (from registers) (option_or (from branches) (option_or (from accesses) (option_or (from indexed) (from pairs)))) x more) [
        | inl a ↦ forms_texts word named registers x is registers_fine a
        | inr more ↦ elim (either_some (from branches) (option_or (from accesses) (option_or (from indexed) (from pairs))) x more) [
          | inl a ↦ forms_texts word named branches x is branches_fine a
          | inr more ↦ elim (either_some (from accesses) (option_or (from indexed) (from pairs)) x more) [
            | inl a ↦ forms_texts word named accesses x is accesses_fine a
            | inr more ↦ elim (either_some (from indexed) (from pairs) x more) [
              | inl a ↦ forms_texts word named indexed x is indexed_fine a
              | inr a ↦ forms_texts word named pairs x is pairs_fine a
            ]
          ]
        ]
      ]
    ]
