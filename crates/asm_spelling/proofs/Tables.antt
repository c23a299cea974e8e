-- What the tables of names and of forms have: each name is read as itself, and numbers fit 64 bits.
use Rattle.std.proofs.Common.{◌≡◌, ◌⊎◌, ◌==◌, ℕ, zero, suc, ◌+◌, ◌^◌, ◌<◌, ◌≤◌, ℤ, pos, negsuc, Bool, true, false, cond, ◌&&◌, ◌||◌, List, [], ◌∷◌, Option, Some, None, refl, sym, ap, subst, ◌∙◌, arith, inl, inr}
use lib.Dec.{eqb}
use Rattle.std.specs.Prelude.{int_le, nat_lt}
use Rattle.std.specs.List.{find, list_all}
use Rattle.std.specs.Option.{option_eq}
use Rattle.std.proofs.lemmas.Bool.{cases_Bool, cond-true, cond-false}
use Rattle.std.proofs.lemmas.Bool.Decides.{Decides-eqb}
use Rattle.a64_inst.specs.declared.kind.Operand.{Operand}
use Rattle.a64_inst.specs.Kinds.{operand}
use Rattle.a64_forms.specs.declared.form.Names.{Names}
use Rattle.a64_forms.specs.declared.form.Names.TheVariants as lists
use Rattle.a64_forms.specs.declared.form.Slot.{Slot}
use Rattle.a64_forms.specs.declared.form.Slot.TheVariants as slots
use Rattle.a64_forms.specs.Names.{Name, named_bits, names_of}
use Rattle.a64_forms.specs.Spelling.{Form, Piece, accesses, branches, immediates, indexed, pairs, registers}
use Rattle.asm_spelling.specs.Slots.{name_of}

pub both_true : (a b : Bool) → (a && b) ≡ true → (a ≡ true) × (b ≡ true)
both_true true b e = (refl, e)
both_true false b e = cc

pub either_true : (a b : Bool) → (a || b) ≡ true → (a ≡ true) ⊎ (b ≡ true)
either_true true b e = inl refl
either_true false b e = inr e

pub option_tells : (r : Option ℕ) (v : ℕ) → option_eq eqb r (Some v) ≡ true → r ≡ Some v
option_tells None v e = cc
option_tells (Some x) v e = ap (λ (y : ℕ). Some y) ((Decides-eqb x v).0 e)

-- ---- names

-- the text of each name gives its bits
abbrev pub reads_itself : List Name → Name → Bool
reads_itself names n = option_eq eqb (named_bits names n.text) (Some n.bits)

abbrev pub all_read : List Name → Bool
all_read names = list_all (λ n. reads_itself names n) names

-- what passes a test on all is so of what is found
pub found_passes : (p q : Name → Bool) (ns : List Name) (n : Name) → list_all q ns ≡ true → find p ns ≡ Some n → q n ≡ true
found_passes p q [] n all e = cc
found_passes p q (m ∷ ms) n all e =
    let parts = both_true (q m) (list_all q ms) all in
    elim (cases_Bool (p m)) [
      | inl here ↦
          let same : Some m ≡ Some n = sym (cond-true (p m) (Some m) (find p ms) here) ∙ e in
          let is : m ≡ n = cc in
          subst (λ (x : Name). q x ≡ true) is parts.0
      | inr later ↦ found_passes p q ms n parts.1 (sym (cond-false (p m) (Some m) (find p ms) later) ∙ e)
    ]

pub found_reads : (names : List Name) (bits : ℕ) (n : Name) → all_read names ≡ true → name_of names bits ≡ Some n → named_bits names n.text ≡ Some n.bits
found_reads names bits n all e =
    option_tells (named_bits names n.text) n.bits (found_passes (λ m. m.bits == bits) (λ m. reads_itself names m) names n all e)

pub lists_read : (list : Names) → all_read (names_of list) ≡ true
lists_read lists.X = refl
lists_read lists.XOrSp = refl
lists_read lists.W = refl
lists_read lists.WOrSp = refl
lists_read lists.Condition = refl
lists_read lists.Shift = refl
lists_read lists.ShiftOrTurn = refl
lists_read lists.Left = refl
lists_read lists.ExtendW = refl
lists_read lists.ExtendX = refl
lists_read lists.Extend = refl
lists_read lists.OffsetW = refl
lists_read lists.OffsetX = refl

-- ---- slots and forms

-- the operand's values have fewer than 64 bits
abbrev pub is_narrow : Operand → Bool
is_narrow o = int_le (negsuc 0xffffffffffff) o.least && int_le o.most (pos 0xffffffffffff)

abbrev pub is_plain : Slot → Bool
is_plain (slots.Name list place) = true
is_plain (slots.Number o) = is_narrow o
is_plain (slots.Distance kind) = is_narrow (operand kind)
is_plain (slots.Mask sf) = true
is_plain (slots.Aim aim) = true

abbrev pub are_plain : List Piece → Bool
are_plain ps = list_all (λ (p : Piece). is_plain p.slot) ps

abbrev pub is_good : Form → Bool
is_good f = are_plain f.pieces && all_read f.mnemonics

abbrev pub are_good : List Form → Bool
are_good fs = list_all is_good fs

pub immediates_good : are_good immediates ≡ true
unfolding immediates
immediates_good = refl

pub registers_good : are_good registers ≡ true
unfolding registers
registers_good = refl

pub branches_good : are_good branches ≡ true
unfolding branches
branches_good = refl

pub accesses_good : are_good accesses ≡ true
unfolding accesses
accesses_good = refl

pub indexed_good : are_good indexed ≡ true
unfolding indexed
indexed_good = refl

pub pairs_good : are_good pairs ≡ true
unfolding pairs
pairs_good = refl
