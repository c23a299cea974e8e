-- An expression fills a word with 0 in its operand's bits as it fills the word.
use Rattle.std.proofs.Common.{◌≡◌, ℕ, ◌+◌, ◌*◌, ◌/◌, ◌%◌, ◌^◌, ◌<◌, ◌≤◌, ℤ, Result, Ok, Err, refl, sym, ap, ◌∙◌, arith}
use Rattle.std.specs.Prelude.{bit_xor, not, if◌then◌else◌}
use Rattle.std.specs.Int.Bits.{xor_zero_r}
use Rattle.a64_inst.specs.declared.filling.FitFault.{FitFault}
use Rattle.a64_inst.specs.declared.filling.FitFault.TheVariants.{Range, Unaligned}
use Rattle.a64_inst.specs.declared.kind.Kind.{Kind}
use Rattle.a64_inst.specs.declared.kind.Kind.TheVariants.{Rel26, Rel19, Rel14, Adr, Page, Low12}
use Rattle.a64_inst.specs.Fitting.{fit, is_aligned, is_in_range, operand_value, units_of, with_operand}
use Rattle.a64_inst.specs.Kinds.{operand}
use Rattle.asm_spelling.specs.Slots.{without, without_operand}
use Rattle.printed_lines.proofs.Opened.{cleared_12, cleared_14, cleared_19, cleared_2, cleared_26}

no_bits : (x : ℕ) → without 0 0 x ≡ x
no_bits x = let f : x / 2 ^ 0 % 2 ^ 0 * 2 ^ 0 % 2 ^ 32 ≡ 0 = omega arith in ap (bit_xor x) f ∙ xor_zero_r x

two_parts : (word m n : ℕ) → m < 4 → word < 2 ^ 32
    → (w1 w2 : ℕ) → w1 ≡ word / 2 ^ 31 * 2 ^ 31 + word % 2 ^ 29 → w2 ≡ w1 / 2 ^ 24 * 2 ^ 24 + w1 % 2 ^ 5
    → (x y : ℕ) → x ≡ w2 / 2 ^ 31 * 2 ^ 31 + m * 2 ^ 29 + w2 % 2 ^ 29 → y ≡ word / 2 ^ 31 * 2 ^ 31 + m * 2 ^ 29 + word % 2 ^ 29
    → x / 2 ^ 24 * 2 ^ 24 + n * 2 ^ 5 + x % 2 ^ 5 ≡ y / 2 ^ 24 * 2 ^ 24 + n * 2 ^ 5 + y % 2 ^ 5
two_parts word m n few small w1 w2 a b x y c d = omega arith

both_cleared : (word : ℕ) → word < 2 ^ 32 → (w1 : ℕ) → w1 ≡ word / 2 ^ 31 * 2 ^ 31 + word % 2 ^ 29 → w1 < 2 ^ 32
both_cleared word small w1 e = omega arith

taken_adr : (n word : ℕ) → word < 2 ^ 32 → with_operand (operand Adr) n (without_operand (operand Adr) word) ≡ with_operand (operand Adr) n word
taken_adr n word small =
    let e1 = cleared_2 word small in
    let fits = both_cleared word small (without 29 2 word) e1 in
    let e2 = cleared_19 (without 29 2 word) fits in
    two_parts word (n % 4) (n / 4) (omega arith) small (without 29 2 word) (without 5 19 (without 29 2 word)) e1 e2 _ _ refl refl

pub taken : (kind : Kind) (n word : ℕ) → word < 2 ^ 32 → with_operand (operand kind) n (without_operand (operand kind) word) ≡ with_operand (operand kind) n word
taken Rel26 n word small = ap (with_operand (operand Rel26) n) (no_bits (without 0 26 word) ∙ cleared_26 word small) ∙ omega arith
taken Rel19 n word small = ap (with_operand (operand Rel19) n) (no_bits (without 5 19 word) ∙ cleared_19 word small) ∙ omega arith
taken Rel14 n word small = ap (with_operand (operand Rel14) n) (no_bits (without 5 14 word) ∙ cleared_14 word small) ∙ omega arith
taken Adr n word small = taken_adr n word small
taken Page n word small = taken_adr n word small
taken (Low12 unit) n word small = ap (with_operand (operand (Low12 unit)) n) (no_bits (without 10 12 word) ∙ cleared_12 word small) ∙ omega arith

pub same_fit : (kind : Kind) (place target word : ℕ) → word < 2 ^ 32 → fit kind place target (without_operand (operand kind) word) ≡ fit kind place target word
same_fit kind place target word small =
    let o = operand kind in
    let v = operand_value kind place target in
    ap (λ (x : ℕ). if not (is_in_range o v) then Err (Range v) else if not (is_aligned o v) then Err (Unaligned v) else Ok x) (taken kind (units_of o v) word small)
