-- What is written is read: slots, pieces, forms and tables.
use Rattle.std.proofs.Common.{◌≡◌, ◌⊎◌, ◌==◌, ℕ, zero, suc, ◌+◌, ◌^◌, ◌%◌, ◌/◌, ◌<◌, ◌≤◌, ℤ, pos, negsuc, Bool, true, false, cond, ◌&&◌, ◌||◌, List, [], ◌∷◌, ◌++◌, Option, Some, None, refl, sym, ap, subst, ◌∙◌, arith, inl, inr, lit<}
use Rattle.std.specs.Prelude.{if◌then◌else◌, IsTrue, bit_or, codes, int_le, nat_lt, IsSome}
use Rattle.std.specs.Fmt.{digits, signed_decimal}
use Rattle.std.specs.List.{list_all, list_any}
use Rattle.std.specs.Option.{option_and_then, option_map, option_or}
use Rattle.std.specs.Ordering.{int_eq}
use Rattle.std.proofs.lemmas.Int.{ints}
use Rattle.std.proofs.lemmas.List.{append-nil}
use Rattle.std.proofs.lemmas.Bool.{cases_Bool, cond-true, cond-false, leb-true, ltb-true}
use Rattle.std.proofs.lemmas.Bool.Decides.{Decides-eqb}
use Rattle.a64_inst.specs.declared.kind.Operand.{Operand}
use Rattle.a64_inst.specs.Fitting.{is_aligned, is_in_range}
use Rattle.a64_inst.specs.Kinds.{operand}
use Rattle.a64_inst.specs.Parts.{bits_at}
use Rattle.a64_forms.specs.declared.form.Aim.{Aim}
use Rattle.a64_forms.specs.declared.form.Aim.TheVariants as aims
use Rattle.a64_forms.specs.declared.form.Names.{Names}
use Rattle.a64_forms.specs.declared.form.Numbers.{Numbers}
use Rattle.a64_forms.specs.declared.form.Numbers.TheVariants.{Fitting}
use Rattle.a64_forms.specs.declared.form.Slot.{Slot}
use Rattle.a64_forms.specs.declared.form.Slot.TheVariants as slots
use Rattle.a64_forms.specs.Bits.{IsMask, are_apart, mask_of, number_bits, placed, unit_bits, units}
use Rattle.a64_forms.specs.Names.{Name, named_bits, names_of}
use Rattle.a64_forms.specs.Spelling.{ArePieces, Form, HasForm, IsMaskOf, IsNumberOf, IsPiece, IsSlot, OneSpells, Piece, Spelled, Spells, accesses, begins_name, both, branches, immediates, indexed, pairs, registers, spelled}
use Rattle.asm_spelling.specs.declared.named.Named.{Named}
use Rattle.asm_spelling.specs.declared.named.Named.TheVariants.{Nothing, Label}
use Rattle.asm_spelling.specs.declared.written.Texts.{Texts}
use Rattle.asm_spelling.specs.declared.written.Written.{Written}
use Rattle.asm_spelling.specs.Labels.{offset_text}
use Rattle.asm_spelling.specs.Slots.{aim_text, fields_of, name_of, name_width, units_in, value_bits, value_in, written, written_mask, written_name, written_number, written_slot, written_value}
use Rattle.asm_spelling.specs.Words.{before, first_written, give, is_aim, names_it, table_texts, texts, with_mnemonic, without_pieces, written_form, written_piece, written_pieces}
use Rattle.asm_spelling.proofs.Fields.{fields_is}
use Rattle.asm_spelling.proofs.Masks.{mask_below}
use Rattle.asm_spelling.proofs.Numbers.{IsSmall, hexadecimal_is, immediate_is}
use Rattle.asm_spelling.proofs.Tables.{accesses_good, all_read, are_good, are_plain, both_true, branches_good, found_reads, immediates_good, indexed_good, is_good, is_narrow, is_plain, lists_read, pairs_good, registers_good}

-- ---- options

values : {A : Type 0} (a b : A) → Some a ≡ Some b → a ≡ b
values a b e = cc

-- what a mapped option comes from
pub mapped : {A B : Type 0} (f : A → B) (o : Option A) (y : B) → option_map f o ≡ Some y → (x : A) × (o ≡ Some x) × (f x ≡ y)
mapped f None y e = absurd cc
mapped f (Some x) y e = (x, refl, values (f x) y e)

pub chained : {A B : Type 0} (f : A → Option B) (o : Option A) (y : B) → option_and_then f o ≡ Some y → (x : A) × (o ≡ Some x) × (f x ≡ Some y)
chained f None y e = absurd cc
chained f (Some x) y e = (x, refl, e)

-- ---- slots

narrow_small : (z : ℤ) → int_le (negsuc 0xffffffffffff) z ≡ true → int_le z (pos 0xffffffffffff) ≡ true → IsSmall z
narrow_small (pos n) low high = let most : n ≤ 0xffffffffffff = leb-true n 0xffffffffffff high in omega arith
narrow_small (negsuc n) low high = let most : n ≤ 0xffffffffffff = leb-true n 0xffffffffffff low in omega arith

le_chain : (a b c : ℤ) → int_le a b ≡ true → int_le b c ≡ true → int_le a c ≡ true
le_chain a b c p q = grind (arith, ints)

narrow_between : (o : Operand) (z : ℤ) → is_narrow o ≡ true → is_in_range o z ≡ true → IsSmall z
narrow_between o z narrow within =
    let p = both_true (int_le (negsuc 0xffffffffffff) o.least) (int_le o.most (pos 0xffffffffffff)) narrow in
    let q = both_true (int_le o.least z) (int_le z o.most) within in
    narrow_small z (le_chain (negsuc 0xffffffffffff) o.least z p.0 q.0) (le_chain z o.most (pos 0xffffffffffff) q.1 p.1)

number_within : (o : Operand) (z : ℤ) (bits : ℕ) → number_bits o z ≡ Some bits → is_in_range o z ≡ true
number_within o z bits e =
    elim (cases_Bool (o.unit == 0)) [
      | inl none ↦
          let no : None ≡ Some bits = sym (cond-true (o.unit == 0) None (cond (is_in_range o z && is_aligned o z) (Some (unit_bits o (units o z))) None) none) ∙ e in
          absurd cc
      | inr some ↦ elim (cases_Bool (is_in_range o z && is_aligned o z)) [
        | inl fits ↦ (both_true (is_in_range o z) (is_aligned o z) fits).0
        | inr unfit ↦
            let no : None ≡ Some bits =
            sym (cond-false (o.unit == 0) None (cond (is_in_range o z && is_aligned o z) (Some (unit_bits o (units o z))) None) some
            ∙ cond-false (is_in_range o z && is_aligned o z) (Some (unit_bits o (units o z))) None unfit)
            ∙ e in
            absurd cc
      ]
    ]

number_read : (word : ℕ) (o : Operand) (x : Written) → is_narrow o ≡ true → written_number word o ≡ Some x → IsNumberOf o x.text (spelled x.bits None)
unfolding IsNumberOf
number_read word o x narrow e =
    let value = value_in o (units_in o word) in
    let m = mapped (λ bits. written (codes "#" ++ signed_decimal value) bits) (number_bits o value) x e in
    let small = narrow_between o value narrow (number_within o value m.0 m.1) in
    subst (λ (y : Written). IsNumberOf o y.text (spelled y.bits None)) m.2 (value, immediate_is value small, m.1, refl)

mask_read : (word sf : ℕ) (x : Written) → written_mask word sf ≡ Some x → IsMaskOf sf x.text (spelled x.bits None)
unfolding IsMaskOf
mask_read word sf x e =
    let c = chained (written_value sf) (mask_of sf (bits_at 10 13 word)) x e in
    let value = c.0 in
    let m = mapped (written (codes "#0x" ++ digits 16 false value)) (value_bits sf value) x c.2 in
    let f = mapped (placed 10) (fields_of sf value) m.0 m.1 in
    let is = subst (λ (bits : ℕ). IsMask sf value bits) f.2 (fields_is sf value f.0 f.1) in
    let small : value < 2 ^ 64 = mask_below sf (bits_at 10 13 word) value c.1 in
    subst
    (λ (y : Written). IsMaskOf sf y.text (spelled y.bits None)) m.2
    (codes "0x" ++ digits 16 false value, value, refl, hexadecimal_is value small, is, refl)

-- what a slot names
abbrev pub slot_target : Named → Slot → Option (Aim × List ℕ)
slot_target named (slots.Aim aim) = option_map (λ text. (aim, text)) (aim_text aim named)
slot_target named _ = None

-- what is named begins as a name does
abbrev pub begins_well : Named → Type 0
begins_well Nothing = Unit {0}
begins_well (Label text offset) = (rest : List ℕ) → begins_name (text ++ rest) ≡ true

aim_begins : (named : Named) (aim : Aim) (text : List ℕ) → begins_well named → aim_text aim named ≡ Some text → begins_name text ≡ true
aim_begins Nothing aim text begins e = absurd cc
aim_begins (Label label offset) aims.Label text begins e = elim (cases_Bool (int_eq offset (pos 0))) [
  | inl none ↦
      let same : Some label ≡ Some text = sym (cond-true (int_eq offset (pos 0)) (Some label) None none) ∙ e in
      let is : label ≡ text = values label text same in
      let whole : begins_name (label ++ []) ≡ true = begins [] in
      subst (λ (t : List ℕ). begins_name t ≡ true) (append-nil label ∙ is) whole
  | inr some ↦
      let no : None ≡ Some text = sym (cond-false (int_eq offset (pos 0)) (Some label) None some) ∙ e in
      absurd cc
]
aim_begins (Label label offset) aims.Expression text begins e =
    let is : label ++ offset_text offset ≡ text = values (label ++ offset_text offset) text e in
    subst (λ (t : List ℕ). begins_name t ≡ true) is (begins (offset_text offset))

pub slot_read : (word : ℕ) (named : Named) (slot : Slot) (x : Written) → begins_well named → is_plain slot ≡ true → written_slot word named slot ≡ Some x → IsSlot Fitting slot x.text (spelled x.bits (slot_target named slot))
slot_read word named (slots.Name list place) x begins plain e =
    let bits = bits_at place (name_width list) word in
    let m = mapped (λ (n : Name). written n.text (placed place n.bits)) (name_of (names_of list) bits) x e in
    let reads = found_reads (names_of list) bits m.0 (lists_read list) m.1 in
    subst (λ (y : Written). IsSlot Fitting (slots.Name list place) y.text (spelled y.bits None)) m.2 (ap (option_map (placed place)) reads, refl)
slot_read word named (slots.Number o) x begins plain e = number_read word o x plain e
slot_read word named (slots.Distance kind) x begins plain e = number_read word (operand kind) x plain e
slot_read word named (slots.Mask sf) x begins plain e = mask_read word sf x e
slot_read word named (slots.Aim aim) x begins plain e =
    let m = mapped (λ text. written text 0) (aim_text aim named) x e in
    let starts = aim_begins named aim m.0 begins m.1 in
    subst (λ (y : Written). IsSlot Fitting (slots.Aim aim) y.text (spelled y.bits (option_map (λ text. (aim, text)) (aim_text aim named)))) m.2
    (starts, ap (λ (o : Option (List ℕ)). spelled 0 (option_map (λ text. (aim, text)) o)) m.1)

-- ---- pieces

abbrev pub target_of : Named → List Piece → Option (Aim × List ℕ)
target_of named [] = None
target_of named (p ∷ ps) = option_or (slot_target named p.slot) (target_of named ps)

piece_read : (word : ℕ) (named : Named) (p : Piece) (x : Written) → begins_well named → is_plain p.slot ≡ true → written_piece word named p ≡ Some x → IsPiece Fitting p x.text (spelled x.bits (slot_target named p.slot))
piece_read word named p x begins plain e =
    let m = mapped (λ (y : Written). written (p.before ++ y.text ++ p.behind) y.bits) (written_slot word named p.slot) x e in
    subst (λ (y : Written). IsPiece Fitting p y.text (spelled y.bits (slot_target named p.slot))) m.2
    (m.0.text, refl, slot_read word named p.slot m.0 begins plain m.1)

pub pieces_read : (word : ℕ) (named : Named) (ps : List Piece) (x : Texts) → begins_well named → are_plain ps ≡ true → written_pieces word named ps ≡ Some x → ArePieces Fitting ps x.texts (spelled x.bits (target_of named ps))
unfolding ArePieces
pieces_read word named [] x begins plain e =
    let is : texts [] 0 ≡ x = values (texts [] 0) x e in
    subst (λ (y : Texts). ArePieces Fitting [] y.texts (spelled y.bits None)) is refl
pieces_read word named (p ∷ ps) x begins plain e =
    let goods = both_true (is_plain p.slot) (are_plain ps) plain in
    let c = chained (λ first. option_map (before first) (written_pieces word named ps)) (written_piece word named p) x e in
    let m = mapped (before c.0) (written_pieces word named ps) x c.2 in
    subst (λ (y : Texts). ArePieces Fitting (p ∷ ps) y.texts (spelled y.bits (target_of named (p ∷ ps)))) m.2
    (spelled c.0.bits (slot_target named p.slot), spelled m.0.bits (target_of named ps), piece_read word named p c.0 begins goods.0 c.1, pieces_read word named ps m.0 begins goods.1 m.1, refl)

-- ---- forms

-- the texts that a form has give the word, and name what its pieces name
pub record IsFormOf (word : ℕ) (named : Named) (f : Form) (x : Texts) : Type 0 where
  pub reads : Spells Fitting f x.texts (spelled word (target_of named f.pieces))
  pub names : names_it named f.pieces ≡ true
  pub pieces : (rest : Texts) × (written_pieces word named f.pieces ≡ Some rest)

abbrev kept : Bool → Texts → Option Texts
kept b x = if b then Some x else None

kept_is : (b : Bool) (x y : Texts) → kept b x ≡ Some y → (b ≡ true) × (x ≡ y)
kept_is true x y e = (refl, values x y e)
kept_is false x y e = absurd cc

when_true : (b : Bool) (o : Option Texts) (x : Texts) → (if b then o else None) ≡ Some x → (b ≡ true) × (o ≡ Some x)
when_true true o x e = (refl, e)
when_true false o x e = absurd cc

pub form_read : (word : ℕ) (named : Named) (f : Form) (x : Texts) → begins_well named → is_good f ≡ true → written_form word named f ≡ Some x → IsFormOf word named f x
unfolding Spells
form_read word named f x begins good e =
    let goods = both_true (are_plain f.pieces) (all_read f.mnemonics) good in
    let w = when_true (names_it named f.pieces) (option_and_then (with_mnemonic word named f) (name_of f.mnemonics (without_pieces f.pieces word))) x e in
    let c = chained (with_mnemonic word named f) (name_of f.mnemonics (without_pieces f.pieces word)) x w.1 in
    let n = c.0 in
    let d = chained (λ (y : Texts). if give word f y then Some y else None) (option_map (before (written n.text n.bits)) (written_pieces word named f.pieces)) x c.2 in
    let k = kept_is (give word f d.0) d.0 x d.2 in
    let m = mapped (before (written n.text n.bits)) (written_pieces word named f.pieces) d.0 d.1 in
    let tests = both_true (d.0.bits == word) (list_all (are_apart word) f.apart) k.0 in
    let bits : d.0.bits ≡ word = (Decides-eqb d.0.bits word).0 tests.0 in
    let whole : bit_or n.bits m.0.bits ≡ word = ap (λ (y : Texts). y.bits) m.2 ∙ bits in
    let named_is = found_reads f.mnemonics (without_pieces f.pieces word) n goods.1 c.1 in
    let rest = pieces_read word named f.pieces m.0 begins goods.0 m.1 in
    let is : before (written n.text n.bits) m.0 ≡ x = m.2 ∙ k.1 in
    record {
      reads =
          subst (λ (y : Texts). Spells Fitting f y.texts (spelled word (target_of named f.pieces))) is
          (n.bits, spelled m.0.bits (target_of named f.pieces), named_is, rest, ap (λ (b : ℕ). spelled b (target_of named f.pieces)) (sym whole), tests.1);
      names = w.0;
      pieces = (m.0, m.1);
    }

-- ---- tables

-- one of the forms has them
pub record IsOneOf (word : ℕ) (named : Named) (fs : List Form) (x : Texts) : Type 0 where
  pub form : Form
  pub reads : OneSpells Fitting fs x.texts (spelled word (target_of named form.pieces))
  pub has : IsFormOf word named form x

either_some : {A : Type 0} (a b : Option A) (x : A) → option_or a b ≡ Some x → (a ≡ Some x) ⊎ (b ≡ Some x)
either_some None b x e = inr e
either_some (Some y) b x e = inl e

pub forms_read : (word : ℕ) (named : Named) (fs : List Form) (x : Texts) → begins_well named → are_good fs ≡ true → first_written word named fs ≡ Some x → IsOneOf word named fs x
unfolding OneSpells
forms_read word named [] x begins good e = absurd cc
forms_read word named (f ∷ fs) x begins good e =
    let goods = both_true (is_good f) (are_good fs) good in
    elim (either_some (written_form word named f) (first_written word named fs) x e) [
      | inl here ↦ let r = form_read word named f x begins goods.0 here in record { form = f; reads = inl r.reads; has = r }
      | inr later ↦ let r = forms_read word named fs x begins goods.1 later in record { form = r.form; reads = inr r.reads; has = r.has }
    ]

-- a form of the table has them
pub record IsOfTable (word : ℕ) (named : Named) (x : Texts) : Type 0 where
  pub form : Form
  pub reads : HasForm Fitting x.texts (spelled word (target_of named form.pieces))
  pub has : IsFormOf word named form x

pub table_read : (word : ℕ) (named : Named) (x : Texts) → begins_well named → table_texts word named ≡ Some x → IsOfTable word named x
unfolding table_texts
table_read word named x begins e =
    let from = λ (fs : List Form). first_written word named fs in
    elim (either_some (from immediates) (option_or (from registers) (option_or (from branches) (option_or (from accesses) (option_or (from indexed) (from pairs))))) x e) [
      | inl a ↦ let r = forms_read word named immediates x begins immediates_good a in record { form = r.form; reads = inl (inl r.reads); has = r.has }
      | inr more ↦ elim (either_some (from registers) (option_or (from branches) (option_or (from accesses) (option_or (from indexed) (from pairs)))) x more) [
        | inl a ↦ let r = forms_read word named registers x begins registers_good a in record { form = r.form; reads = inl (inr r.reads); has = r.has }
        | inr more ↦ elim (either_some (from branches) (option_or (from accesses) (option_or (from indexed) (from pairs))) x more) [
          | inl a ↦ let r = forms_read word named branches x begins branches_good a in record { form = r.form; reads = inr (inl r.reads); has = r.has }
          | inr more ↦ elim (either_some (from accesses) (option_or (from indexed) (from pairs)) x more) [
            | inl a ↦ let r = forms_read word named accesses x begins accesses_good a in record { form = r.form; reads = inr (inr (inl r.reads)); has = r.has }
            | inr more ↦ elim (either_some (from indexed) (from pairs) x more) [
              | inl a ↦ let r = forms_read word named indexed x begins indexed_good a in record { form = r.form; reads = inr (inr (inr (inl r.reads))); has = r.has }
              | inr a ↦ let r = forms_read word named pairs x begins pairs_good a in record { form = r.form; reads = inr (inr (inr (inr r.reads))); has = r.has }
            ]
          ]
        ]
      ]
    ]

-- ---- what the pieces name

pub nothing_named : (ps : List Piece) → target_of Nothing ps ≡ None
nothing_named [] = refl
nothing_named (p ∷ ps) = by_slot p.slot (nothing_named ps)
  where
    by_slot : (slot : Slot) → target_of Nothing ps ≡ None → option_or (slot_target Nothing slot) (target_of Nothing ps) ≡ None
    by_slot (slots.Name list place) rest = rest
    by_slot (slots.Number o) rest = rest
    by_slot (slots.Distance kind) rest = rest
    by_slot (slots.Mask sf) rest = rest
    by_slot (slots.Aim aim) rest = rest

-- what is named, and how
abbrev pub IsNamed : Named → Option (Aim × List ℕ) → Type 0
IsNamed named target = (aim : Aim) × (text : List ℕ) × (target ≡ Some (aim, text)) × (aim_text aim named ≡ Some text)

pub label_named : (word : ℕ) (named : Named) (ps : List Piece) (x : Texts) → list_any (λ (p : Piece). is_aim p.slot) ps ≡ true → written_pieces word named ps ≡ Some x → IsNamed named (target_of named ps)
label_named word named [] x some e = absurd cc
label_named word named (p ∷ ps) x some e =
    let c = chained (λ first. option_map (before first) (written_pieces word named ps)) (written_piece word named p) x e in
    let m = mapped (before c.0) (written_pieces word named ps) x c.2 in
    let s = mapped (λ (y : Written). written (p.before ++ y.text ++ p.behind) y.bits) (written_slot word named p.slot) c.0 c.1 in
    by_slot p.slot s.0 s.1 some (λ more. label_named word named ps m.0 more m.1)
  where
    by_slot : (slot : Slot) (y : Written) → written_slot word named slot ≡ Some y → (is_aim slot || list_any (λ (q : Piece). is_aim q.slot) ps) ≡ true
        → (list_any (λ (q : Piece). is_aim q.slot) ps ≡ true → IsNamed named (target_of named ps)) → IsNamed named (option_or (slot_target named slot) (target_of named ps))
    by_slot (slots.Name list place) y e some more = more some
    by_slot (slots.Number o) y e some more = more some
    by_slot (slots.Distance kind) y e some more = more some
    by_slot (slots.Mask sf) y e some more = more some
    by_slot (slots.Aim aim) y e some more =
        let t = mapped (λ text. written text 0) (aim_text aim named) y e in
        (aim, t.0, ap (λ (o : Option (List ℕ)). option_or (option_map (λ text. (aim, text)) o) (target_of named ps)) t.1, t.1)
