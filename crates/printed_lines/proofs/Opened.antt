-- A word with 0 in its operand's bits takes the same operand.
use Rattle.std.proofs.Common.{◌≡◌, ℕ, zero, suc, ◌+◌, ◌*◌, ◌/◌, ◌%◌, ◌^◌, ◌<◌, ◌≤◌, refl, sym, ap, ap₂, subst, ◌∙◌, arith, lit≤}
use Rattle.std.specs.Prelude.{bit_xor}
use Rattle.std.specs.Int.Bits.{xor_assoc, xor_self, xor_shifted, xor_zero_l}
use Rattle.std.proofs.lemmas.Nat.{xor_comm}
use Rattle.a64_inst.specs.Fitting.{with_bits}
use Rattle.a64_inst.specs.declared.kind.Bits.{Bits}
use Rattle.asm_spelling.specs.Slots.{without}

-- a part in the middle of a number is cleared
clear : (h b l k p : ℕ) → b * 2 ^ p + l < 2 ^ k → l < 2 ^ p → l < 2 ^ k → bit_xor (h * 2 ^ k + (b * 2 ^ p + l)) (b * 2 ^ p) ≡ h * 2 ^ k + l
clear h b l k p below low small =
    let high = h * 2 ^ k in
    let part = b * 2 ^ p in
    let split : high + (part + l) ≡ bit_xor high (bit_xor part l) = sym (ap (bit_xor high) (xor_shifted b p l low) ∙ xor_shifted h k (part + l) below) in
    let turned : bit_xor (bit_xor part l) part ≡ l =
    xor_comm (bit_xor part l) part ∙ sym (xor_assoc part part l) ∙ ap (λ (x : ℕ). bit_xor x l) (xor_self part) ∙ xor_zero_l l in
    ap (λ (x : ℕ). bit_xor x part) split ∙ xor_assoc high (bit_xor part l) part ∙ ap (bit_xor high) turned ∙ xor_shifted h k l small

-- the word without those bits
abbrev IsCleared : ℕ → ℕ → Type 0
IsCleared place width = (word : ℕ) → word < 2 ^ 32 → without place width word ≡ word / 2 ^ (place + width) * 2 ^ (place + width) + word % 2 ^ place

cleared_by : (place width word h b l : ℕ) → h ≡ word / 2 ^ (place + width) → b ≡ word / 2 ^ place % 2 ^ width → l ≡ word % 2 ^ place
    → word ≡ h * 2 ^ (place + width) + (b * 2 ^ place + l) → b * 2 ^ place % 2 ^ 32 ≡ b * 2 ^ place → b * 2 ^ place + l < 2 ^ (place + width) → l < 2 ^ place → l < 2 ^ (place + width)
    → without place width word ≡ h * 2 ^ (place + width) + l
cleared_by place width word h b l hi mid lo parts fits below low small =
    let f : word / 2 ^ place % 2 ^ width * 2 ^ place % 2 ^ 32 ≡ b * 2 ^ place = ap (λ (x : ℕ). x * 2 ^ place % 2 ^ 32) (sym mid) ∙ fits in
    ap₂ bit_xor parts f ∙ clear h b l (place + width) place below low small

pub cleared_26 : IsCleared 0 26
cleared_26 word small =
    cleared_by 0 26 word (word / 2 ^ 26) (word / 2 ^ 0 % 2 ^ 26) (word % 2 ^ 0) refl refl refl (omega arith) (omega arith) (omega arith) (omega arith) (omega arith)

pub cleared_19 : IsCleared 5 19
cleared_19 word small =
    cleared_by 5 19 word (word / 2 ^ 24) (word / 2 ^ 5 % 2 ^ 19) (word % 2 ^ 5) refl refl refl (omega arith) (omega arith) (omega arith) (omega arith) (omega arith)

pub cleared_14 : IsCleared 5 14
cleared_14 word small =
    cleared_by 5 14 word (word / 2 ^ 19) (word / 2 ^ 5 % 2 ^ 14) (word % 2 ^ 5) refl refl refl (omega arith) (omega arith) (omega arith) (omega arith) (omega arith)

pub cleared_2 : IsCleared 29 2
cleared_2 word small =
    cleared_by 29 2 word (word / 2 ^ 31) (word / 2 ^ 29 % 2 ^ 2) (word % 2 ^ 29) refl refl refl (omega arith) (omega arith) (omega arith) (omega arith) (omega arith)

pub cleared_12 : IsCleared 10 12
cleared_12 word small =
    cleared_by 10 12 word (word / 2 ^ 22) (word / 2 ^ 10 % 2 ^ 12) (word % 2 ^ 10) refl refl refl (omega arith) (omega arith) (omega arith) (omega arith) (omega arith)
