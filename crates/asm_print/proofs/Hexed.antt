-- Bytes in lines: it doesn't matter how many lines there may be, as long as they suffice.
use Rattle.std.proofs.Common.{◌≡◌, ℕ, zero, suc, ◌<◌, ◌≤◌, length, take, drop, List, [], ◌∷◌, ◌++◌, refl, ap, ◌∙◌, sym, arith, length-drop, min, eqb, Bool, false}
use Rattle.std.proofs.lemmas.List.{take_min, drop_min}
use Rattle.asm_print.specs.Items.{hex_line, hex_lines}

pub enough : (n m : ℕ) (bytes : List ℕ) → length bytes ≤ n → length bytes ≤ m → hex_lines n bytes ≡ hex_lines m bytes
enough zero zero bytes a b = refl
enough zero (suc m) [] a b = refl
enough zero (suc m) (x ∷ bytes) a b = absurd (omega arith)
enough (suc n) zero [] a b = refl
enough (suc n) zero (x ∷ bytes) a b = absurd (omega arith)
enough (suc n) (suc m) [] a b = refl
enough (suc n) (suc m) (x ∷ bytes) a b =
    let less = length-drop 32 (x ∷ bytes) in
    ap (λ r. hex_line (take 32 (x ∷ bytes)) ++ r) (enough n m (drop 32 (x ∷ bytes)) (omega (arith, less)) (omega (arith, less)))

-- a line's bytes, cut at the length or at 32, and those behind it
pub next_line : (r line behind : List ℕ) (n : ℕ) → 0 < length r → n ≡ min (length r) 32 → line ≡ take n r → behind ≡ drop n r → hex_lines (length r) r ≡ hex_line line ++ hex_lines (length behind) behind
next_line [] line behind n some is front back = absurd (omega arith)
next_line (b ∷ bs) line behind n some is front back =
    let turned : n ≡ min 32 (length (b ∷ bs)) = omega arith in
    let cut = front ∙ ap (λ k. take k (b ∷ bs)) turned ∙ take_min 32 (b ∷ bs) in
    let rest = back ∙ ap (λ k. drop k (b ∷ bs)) turned ∙ drop_min 32 (b ∷ bs) in
    let fewer = length-drop 32 (b ∷ bs) in
    ap (λ l. hex_line (take 32 (b ∷ bs)) ++ l) (enough (length bs) (length (drop 32 (b ∷ bs))) (drop 32 (b ∷ bs)) (omega (arith, fewer)) (omega arith))
    ∙ sym (ap (λ l. hex_line l ++ hex_lines (length behind) behind) cut ∙ ap (λ l. hex_line (take 32 (b ∷ bs)) ++ hex_lines (length l) l) rest)
