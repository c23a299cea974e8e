-- Each word that has an operand keeps its row with another number in it: row by row of the table of such words.
use Rattle.std.proofs.Common.{◌≡◌, ℕ, ◌^◌, ◌<◌, Bool, true, false, List, [], ◌∷◌, Option, Some, None, refl, subst}
use Rattle.std.specs.Prelude.{find, bit_and, if◌then◌else◌}
use Rattle.std.specs.List.{AllByRecursion as Every}
use Rattle.std.specs.Option.{option_map}
use Rattle.std.proofs.lemmas.Bool.{eqb-true}
use Rattle.std.proofs.lemmas.Option.{none-some}
use Rattle.a64_inst.specs.declared.kind.Kind.{Kind}
use Rattle.a64_inst.specs.declared.kind.KindWords.{KindWords}
use Rattle.a64_inst.specs.declared.kind.TheConstants.{KIND_WORDS}
use Rattle.a64_inst.specs.Fitting.{with_operand}
use Rattle.a64_inst.specs.Kinds.{operand, operand_kind, is_in, words_among}
use Rattle.a64_inst.specs.Rows.{table}
use Rattle.a64_inst.specs.Table.{row}
use Rattle.a64_filled.specs.Filled.{operand_bits, with_number}
use Rattle.a64_filled.proofs.Known.{narrowed}
use Rattle.a64_filled.proofs.Kept.{is_other, AllKeep, row_kept, b_bl_keeps, b_cond_keeps, cbz_cbnz_keeps, literal_keeps, tbz_tbnz_keeps, adr_keeps, adrp_keeps, add_keeps, scaled_keeps}

-- words of one entry keep their rows
pub record IsKept (words : KindWords) : Type 0 where
  pub row_alike : (n word : ℕ) → is_in word words ≡ true → n < 2 ^ operand_bits words.kind → row (with_operand (operand words.kind) n word) ≡ option_map (with_number n) (row word)

kept : (words : KindWords) → is_other 32 (operand words.kind) words.mask ≡ true → AllKeep (operand words.kind) (narrowed words.mask words.value table) → IsKept words
kept words other keep = record { row_alike = λ n word e small. row_kept words.mask words.value n word (operand words.kind) (eqb-true (bit_and word words.mask) words.value e) other keep small }

-- none of the bits that an entry asks for is the operand's, and the rows that its words can be in keep their words
abbrev IsGood : KindWords → Type 0
IsGood words = (is_other 32 (operand words.kind) words.mask ≡ true) × AllKeep (operand words.kind) (narrowed words.mask words.value table)

-- in the order of the entries; loads and stores of SIMD and floating-point registers are in no row
all_good : Every IsGood KIND_WORDS
unfolding table
all_good = ((refl, (b_bl_keeps, tt)), ((refl, (b_cond_keeps, tt)), ((refl, (cbz_cbnz_keeps, tt)), ((refl, (literal_keeps, tt)), ((refl, (literal_keeps, tt)), ((refl, tt), ((refl, tt), ((refl, (tbz_tbnz_keeps, tt)), ((refl, (adr_keeps, tt)), ((refl, (adrp_keeps, tt)), ((refl, (add_keeps 1, tt)), ((refl, (scaled_keeps 1, tt)), ((refl, (scaled_keeps 2, tt)), ((refl, (scaled_keeps 4, tt)), ((refl, (scaled_keeps 4, tt)), ((refl, (scaled_keeps 8, tt)), ((refl, tt), ((refl, tt), ((refl, tt), ((refl, tt), ((refl, tt), tt)))))))))))))))))))))

all_kept : (rows : List KindWords) → Every IsGood rows → Every IsKept rows
all_kept [] h = tt
all_kept (words ∷ rows) h = (kept words h.0.0 h.0.1, all_kept rows h.1)

-- ---- the entry of a word

some_is : {X : Type 0} (x y : X) → ◌≡◌ {A = Option X} (Some x) (Some y) → x ≡ y
some_is x y e = cc

first_or : {X : Type 0} (test : X → Bool) (P : X → Type 0) (y : X) (ys : List X) (x : X) → P y → (b : Bool) → test y ≡ b → (find test ys ≡ Some x → (test x ≡ true) × P x) → (if b then Some y else find test ys) ≡ Some x → (test x ≡ true) × P x
first_or {X = X} test P y ys x h true same rest f = let Q : X → Type 0 = λ z. (test z ≡ true) × P z in subst Q (some_is y x f) (same, h)
first_or test P y ys x h false same rest f = rest f

-- what is found passes, and is one of them
pub found_one : {X : Type 0} (test : X → Bool) (P : X → Type 0) (xs : List X) (x : X) → Every P xs → find test xs ≡ Some x → (test x ≡ true) × P x
found_one test P [] x h e = absurd (none-some x e)
found_one test P (y ∷ ys) x h e = first_or test P y ys x h.0 (test y) refl (λ f. found_one test P ys x h.1 f) e

pub entry_of : (o : Option KindWords) (kind : Kind) → option_map (λ (words : KindWords). words.kind) o ≡ Some kind → (words : KindWords) × (o ≡ Some words) × (words.kind ≡ kind)
entry_of None kind e = absurd (none-some kind e)
entry_of (Some words) kind e = (words, refl, some_is words.kind kind e)

pub operand_changes : (kind : Kind) (word n : ℕ) → operand_kind word ≡ Some kind → n < 2 ^ operand_bits kind → row (with_operand (operand kind) n word) ≡ option_map (with_number n) (row word)
operand_changes kind word n e small =
    let entry = entry_of (words_among KIND_WORDS word) kind e in
    let words : KindWords = entry.0 in
    let found = found_one (is_in word) IsKept KIND_WORDS words (all_kept KIND_WORDS all_good) entry.1 in
    let P : Kind → Type 0 = λ k. n < 2 ^ operand_bits k → row (with_operand (operand k) n word) ≡ option_map (with_number n) (row word) in
    subst P entry.2 (λ less. found.1.row_alike n word found.0 less) small
