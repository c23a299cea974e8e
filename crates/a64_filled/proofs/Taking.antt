-- Each word that has an operand is in a row that has it: row by row of the table of such words.
use Rattle.std.proofs.Common.{◌≡◌, ℕ, ◌+◌, ◌*◌, ◌/◌, ◌%◌, ◌^◌, Bool, true, false, List, [], ◌∷◌, Option, Some, None, refl, sym, ap, ◌∙◌, subst, arith}
use Rattle.std.specs.Prelude.{◌==◌, ◌&&◌, bit_and, if◌then◌else◌, option_and_then}
use Rattle.std.specs.List.{AllByRecursion as Every}
use Rattle.std.proofs.lemmas.Bool.{eqb-true, and_from}
use Rattle.std.proofs.lemmas.Option.{none-some}
use Rattle.a64_inst.specs.declared.inst.Inst.{Inst}
use Rattle.a64_inst.specs.declared.kind.Kind.{Kind}
use Rattle.a64_inst.specs.declared.kind.KindWords.{KindWords}
use Rattle.a64_inst.specs.declared.kind.TheConstants.{KIND_WORDS}
use Rattle.a64_inst.specs.Kinds.{operand_kind, is_in, words_among}
use Rattle.a64_inst.specs.Parts.{meets, at_fields}
use Rattle.a64_inst.specs.Reserved.{is_reserved}
use Rattle.a64_inst.specs.Rows.{Row, table}
use Rattle.a64_inst.specs.Table.{read_rows, row, unreserved}
use Rattle.a64_filled.specs.Taken.{Takes}
use Rattle.a64_filled.proofs.Known.{IsKnown, known_of, narrowed, read_narrowed}
use Rattle.a64_filled.proofs.Each.{found_one, entry_of}

-- what words of known bits are read as by these rows has an operand of the kind
abbrev AllTake : Kind → ℕ → ℕ → List Row → Type 0
AllTake kind mask value [] = Unit {0}
AllTake kind mask value (r ∷ rows) = ((word : ℕ) → IsKnown mask value word → Takes kind (at_fields 32 r.parts r.inst word)) × AllTake kind mask value rows

some_is : (i j : Inst) → ◌≡◌ {A = Option Inst} (Some i) (Some j) → i ≡ j
some_is i j e = cc

either_takes : (b : Bool) (kind : Kind) (i j : Inst) (o : Option Inst) → Takes kind i → (o ≡ Some j → Takes kind j) → (if b then Some i else o) ≡ Some j → Takes kind j
either_takes true kind i j o h k e = subst (λ (x : Inst). Takes kind x) (some_is i j e) h
either_takes false kind i j o h k e = k e

read_takes : (kind : Kind) (mask value word : ℕ) (rows : List Row) (i : Inst) → IsKnown mask value word → AllTake kind mask value rows → read_rows rows word ≡ Some i → Takes kind i
read_takes kind mask value word [] i known h e = absurd (none-some i e)
read_takes kind mask value word (r ∷ rows) i known h e =
    either_takes (meets 32 r.parts word) kind (at_fields 32 r.parts r.inst word) i (read_rows rows word) (h.0 word known) (λ f. read_takes kind mask value word rows i known h.1 f) e

unreserved_is : (b : Bool) (i j : Inst) → (if b then None else Some i) ≡ Some j → i ≡ j
unreserved_is true i j e = absurd (none-some j e)
unreserved_is false i j e = some_is i j e

-- ---- each entry

abbrev IsGood : KindWords → Type 0
IsGood words = AllTake words.kind words.mask words.value (narrowed words.mask words.value table)

-- two bits that are known
two_bits : (word a b : ℕ) → word / 2 ^ 31 % 2 ≡ a → word / 2 ^ 30 % 2 ≡ b → word / 2 ^ 30 % 4 ≡ a * 2 + b
two_bits word a b h k = omega (arith, h, k)

size_takes : (word unit a b : ℕ) → word / 2 ^ 31 % 2 ≡ a → word / 2 ^ 30 % 2 ≡ b → unit ≡ 2 ^ (a * 2 + b) → unit ≡ 2 ^ (word / 2 ^ 30 % 4)
size_takes word unit a b h k e = e ∙ sym (ap (λ (n : ℕ). 2 ^ n) (two_bits word a b h k))

adr_takes : (word : ℕ) → IsKnown 0x9f000000 0x10000000 word → (word / 2 ^ 31 % 2 == 1) ≡ false
adr_takes word known = ap (λ (b : ℕ). b == 1) (known.bits 31 (omega arith) refl)

adrp_takes : (word : ℕ) → IsKnown 0x9f000000 0x90000000 word → (word / 2 ^ 31 % 2 == 1) ≡ true
adrp_takes word known = ap (λ (b : ℕ). b == 1) (known.bits 31 (omega arith) refl)

add_takes : (word : ℕ) → IsKnown 0xffc00000 0x91000000 word → (((word / 2 ^ 31 % 2 == 1) && ((word / 2 ^ 30 % 2 == 0) && ((word / 2 ^ 29 % 2 == 0) && (word / 2 ^ 22 % 2 == 0)))) ≡ true) × (◌≡◌ {A = ℕ} 1 1)
add_takes word known =
    let b31 : (word / 2 ^ 31 % 2 == 1) ≡ true = ap (λ (b : ℕ). b == 1) (known.bits 31 (omega arith) refl) in
    let b30 : (word / 2 ^ 30 % 2 == 0) ≡ true = ap (λ (b : ℕ). b == 0) (known.bits 30 (omega arith) refl) in
    let b29 : (word / 2 ^ 29 % 2 == 0) ≡ true = ap (λ (b : ℕ). b == 0) (known.bits 29 (omega arith) refl) in
    let b22 : (word / 2 ^ 22 % 2 == 0) ≡ true = ap (λ (b : ℕ). b == 0) (known.bits 22 (omega arith) refl) in
    (and_from _ _ b31 (and_from _ _ b30 (and_from _ _ b29 b22)), refl)

scaled_takes : (mask value unit a b word : ℕ) → mask / 2 ^ 31 % 2 ≡ 1 → mask / 2 ^ 30 % 2 ≡ 1 → value / 2 ^ 31 % 2 ≡ a → value / 2 ^ 30 % 2 ≡ b → unit ≡ 2 ^ (a * 2 + b) → IsKnown mask value word → unit ≡ 2 ^ (word / 2 ^ 30 % 4)
scaled_takes mask value unit a b word h k x y e known = size_takes word unit a b (known.bits 31 (omega arith) h ∙ x) (known.bits 30 (omega arith) k ∙ y) e

-- in the order of the entries; loads and stores of SIMD and floating-point registers are in no row
all_good : Every IsGood KIND_WORDS
unfolding table
all_good = (
  (λ word known. tt, tt),
  (
    (λ word known. tt, tt),
    (
      (λ word known. tt, tt),
      (
        (λ word known. tt, tt),
        (
          (λ word known. tt, tt),
          (
            tt,
            (
              tt,
              (
                (λ word known. tt, tt),
                (
                  (adr_takes, tt),
                  (
                    (adrp_takes, tt),
                    (
                      (add_takes, tt),
                      (
                        (λ word. scaled_takes 0xff000000 0x39000000 1 0 0 word refl refl refl refl refl, tt),
                        (
                          (λ word. scaled_takes 0xff000000 0x79000000 2 0 1 word refl refl refl refl refl, tt),
                          (
                            (λ word. scaled_takes 0xff800000 0xb9000000 4 1 0 word refl refl refl refl refl, tt),
                            (
                              (λ word. scaled_takes 0xffc00000 0xb9800000 4 1 0 word refl refl refl refl refl, tt),
                              ((λ word. scaled_takes 0xff800000 0xf9000000 8 1 1 word refl refl refl refl refl, tt), (tt, (tt, (tt, (tt, (tt, tt)))))),
                            ),
                          ),
                        ),
                      ),
                    ),
                  ),
                ),
              ),
            ),
          ),
        ),
      ),
    ),
  ),
)

-- words of one entry
pub record IsTaking (words : KindWords) : Type 0 where
  pub takes : (word : ℕ) (i : Inst) → is_in word words ≡ true → row word ≡ Some i → Takes words.kind i

from_row : (o : Option Inst) (kind : Kind) (i : Inst) → ((j : Inst) → o ≡ Some j → Takes kind j) → option_and_then unreserved o ≡ Some i → Takes kind i
from_row None kind i h e = absurd (none-some i e)
from_row (Some j) kind i h e = subst (λ (x : Inst). Takes kind x) (unreserved_is (is_reserved j) j i e) (h j refl)

taking : (words : KindWords) → IsGood words → IsTaking words
taking words good = record {
  takes = λ word i e is.
      let known = known_of words.mask words.value word (eqb-true (bit_and word words.mask) words.value e) in
      from_row (read_rows table word) words.kind i (λ j f. read_takes words.kind words.mask words.value word (narrowed words.mask words.value table) j known good (sym (read_narrowed words.mask words.value word table known) ∙ f)) is;
}

all_taking : (rows : List KindWords) → Every IsGood rows → Every IsTaking rows
all_taking [] h = tt
all_taking (words ∷ rows) h = (taking words h.0, all_taking rows h.1)

pub operand_takes : (kind : Kind) (word : ℕ) (i : Inst) → operand_kind word ≡ Some kind → row word ≡ Some i → Takes kind i
operand_takes kind word i e is =
    let entry = entry_of (words_among KIND_WORDS word) kind e in
    let words : KindWords = entry.0 in
    let found = found_one (is_in word) IsTaking KIND_WORDS words (all_taking KIND_WORDS all_good) entry.1 in
    subst (λ (k : Kind). Takes k i) entry.2 (found.1.takes word i found.0 is)
