-- The value of decimal digits, kept below a limit.
use Rattle.std.proofs.Common.{◌≡◌, ℕ, ◌+◌, ◌-◌, ◌*◌, ◌≤◌, ◌<◌, min, List, [], ◌∷◌, length, get_or, drop, drop-cons, add-one, sym, ◌∙◌, ap, arith}
use Rattle.std.specs.Prelude.{fold, Bool, true, ◌&&◌}
use Rattle.std.specs.List.{list_all}
use Rattle.std.proofs.lemmas.Bool.Decides.{nat_tests}
use Rattle.command_words.specs.Numbers.{is_digit}

-- one digit more
abbrev pub with_digit : ℕ → ℕ → ℕ
with_digit value digit = 10 * value + (digit - 48)

one_digit : (limit v d : ℕ) → min (with_digit (min v limit) d) limit ≡ min (with_digit v d) limit
one_digit limit v d = omega arith

pub capped : (limit : ℕ) (digits : List ℕ) (v : ℕ) → min (fold with_digit (min v limit) digits) limit ≡ min (fold with_digit v digits) limit
capped limit [] v = omega arith
capped limit (d ∷ digits) v =
    sym (capped limit digits (with_digit (min v limit) d))
    ∙ ap (λ (x : ℕ). min (fold with_digit x digits) limit) (one_digit limit v d)
    ∙ capped limit digits (with_digit v d)

-- what is left behind one more digit completes the same value
pub step_value : (limit v : ℕ) (text : List ℕ) (i new : ℕ) → i < length text → new ≡ min (with_digit v (get_or text i 0)) limit
    → min (fold with_digit new (drop (i + 1) text)) limit ≡ min (fold with_digit v (drop i text)) limit
step_value limit v text i new inside e =
    let split : drop i text ≡ get_or text i 0 ∷ drop (i + 1) text = rw (add-one, drop-cons text i 0) in
    ap (λ (x : ℕ). min (fold with_digit x (drop (i + 1) text)) limit) e
    ∙ capped limit (drop (i + 1) text) (with_digit v (get_or text i 0))
    ∙ sym (ap (λ (l : List ℕ). min (fold with_digit v l) limit) split)

pub digit_true : (b : ℕ) → 48 ≤ b → b ≤ 57 → is_digit b ≡ true
digit_true b low high = grind (arith, nat_tests)

-- a digit changes nothing of whether all are digits
pub step_digits : (text : List ℕ) (i : ℕ) → i < length text → is_digit (get_or text i 0) ≡ true
    → list_all is_digit (drop (i + 1) text) ≡ list_all is_digit (drop i text)
step_digits text i inside e =
    let split : drop i text ≡ get_or text i 0 ∷ drop (i + 1) text = rw (add-one, drop-cons text i 0) in
    sym (ap (list_all is_digit) split ∙ ap (λ (b : Bool). b && list_all is_digit (drop (i + 1) text)) e)
