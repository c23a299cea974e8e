-- How many words are inserted below an offset of a block, and how many words a block has.
use Rattle.std.proofs.Common.{◌≡◌, ℕ, suc, ◌+◌, ◌*◌, ◌%◌, ◌<◌, ◌≤◌, Bool, true, false, List, [], ◌∷◌, length, refl, ap, inl, inr, arith}
use Rattle.std.specs.Prelude.{filter, nat_lt, ◌==◌, if◌then◌else◌}
use Rattle.std.specs.List.{AllByRecursion as Every}
use Rattle.std.proofs.lemmas.Bool.{cases_lt, lt-ltb, le-ltb, eq-eqb, ne_eqb}
use Rattle.std.proofs.lemmas.List.{length-append, length-map}
use Rattle.sym_expr.specs.declared.program.CodeBlock.{CodeBlock}
use Rattle.sym_expr.specs.declared.program.Program.{Program}
use Rattle.sym_expr.specs.declared.program.Word.{Word}
use Rattle.sym_expr.specs.Images.{all_words, inserted_below, words_from}
use Rattle.sym_expr.specs.Points.{code_size, ins}
use Rattle.sym_expr.specs.WellMade.{IsCode, IsInserted}
use Rattle.sym_expr.proofs.Lists.{every_weaker}

-- one if it is so
abbrev pub one_if : Bool → ℕ
one_if true = 1
one_if false = 0

abbrev pub count : (ℕ × Word → Bool) → List (ℕ × Word) → ℕ
count test ws = length (filter test ws)

count_either : (w : ℕ × Word) (ws : List (ℕ × Word)) (b : Bool) → length (if b then w ∷ ws else ws) ≡ one_if b + length ws
count_either w ws true = omega arith
count_either w ws false = omega arith

pub count_first : (test : ℕ × Word → Bool) (w : ℕ × Word) (ws : List (ℕ × Word)) → count test (w ∷ ws) ≡ one_if (test w) + count test ws
count_first test w ws = count_either w (filter test ws) (test w)

if_below : (a b : ℕ) → a < b → one_if (nat_lt a b) ≡ 1
if_below a b lt = ap one_if (lt-ltb a b lt)

if_above : (a b : ℕ) → b ≤ a → one_if (nat_lt a b) ≡ 0
if_above a b le = ap one_if (le-ltb a b le)

if_same : (a b : ℕ) → a ≡ b → one_if (a == b) ≡ 1
if_same a b e = ap one_if (eq-eqb a b e)

if_other : (a b : ℕ) → (a ≡ b → ⊥) → one_if (a == b) ≡ 0
if_other a b h = ap one_if (ne_eqb a b h)

-- of two multiples of 4 one is below the other and 4 where it is below it or the same
one_more : (a o : ℕ) → a % 4 ≡ 0 → o % 4 ≡ 0 → one_if (nat_lt a (o + 4)) ≡ one_if (nat_lt a o) + one_if (o == a)
one_more a o ha ho =
    elim (cases_lt a o) [
      | inl below ↦
          let x = if_below a (o + 4) (omega arith) in
          let y = if_below a o below in
          let z = if_other o a (λ e. omega arith) in
          omega arith
      | inr above ↦
          elim (cases_lt o a) [
            | inl past ↦
                let next : o + 4 ≤ a = omega arith in
                let x = if_above a (o + 4) next in
                let y = if_above a o above in
                let z = if_other o a (λ e. omega arith) in
                omega arith
            | inr under ↦
                let x = if_below a (o + 4) (omega arith) in
                let y = if_above a o above in
                let z = if_same o a (omega arith) in
                omega arith
          ]
    ]

abbrev OnFour : ℕ × Word → Type 0
OnFour w = w.0 % 4 ≡ 0

count_more : (o : ℕ) (ws : List (ℕ × Word)) → o % 4 ≡ 0 → Every OnFour ws
    → count (λ (w : ℕ × Word). nat_lt w.0 (o + 4)) ws ≡ count (λ (w : ℕ × Word). nat_lt w.0 o) ws + count (λ (w : ℕ × Word). o == w.0) ws
count_more o [] whole h = omega arith
count_more o (w ∷ ws) whole h =
    let a = count_first (λ (w : ℕ × Word). nat_lt w.0 (o + 4)) w ws in
    let b = count_first (λ (w : ℕ × Word). nat_lt w.0 o) w ws in
    let c = count_first (λ (w : ℕ × Word). o == w.0) w ws in
    let d = one_more w.0 o h.0 whole in
    let rest = count_more o ws whole h.1 in
    omega arith

count_none : (ws : List (ℕ × Word)) → count (λ (w : ℕ × Word). nat_lt w.0 0) ws ≡ 0
count_none [] = refl
count_none (w ∷ ws) =
    let a = count_first (λ (w : ℕ × Word). nat_lt w.0 0) w ws in
    let b = if_above w.0 0 (omega arith) in
    let rest = count_none ws in
    omega arith

count_all : (bound : ℕ) (ws : List (ℕ × Word)) → Every (λ (w : ℕ × Word). w.0 < bound) ws → count (λ (w : ℕ × Word). nat_lt w.0 bound) ws ≡ length ws
count_all bound [] h = refl
count_all bound (w ∷ ws) h =
    let a = count_first (λ (w : ℕ × Word). nat_lt w.0 bound) w ws in
    let b = if_below w.0 bound h.0 in
    let rest = count_all bound ws h.1 in
    omega arith

-- ---- of a block

module _ (g : Program) (b : CodeBlock) (is : IsCode g b) where
  -- four bytes further on the words of an offset have been passed
  pub below_more : (o : ℕ) → o % 4 ≡ 0 → inserted_below (o + 4) b ≡ inserted_below o b + length (ins b o)
  below_more o whole =
      let all : Every OnFour b.inserted = every_weaker (IsInserted g b) OnFour (λ w h. h.0) b.inserted is.inserted in
      let more = count_more o b.inserted whole all in
      let same : length (ins b o) ≡ length (filter (λ (w : ℕ × Word). o == w.0) b.inserted) = length-map (filter (λ (w : ℕ × Word). o == w.0) b.inserted) (λ (w : ℕ × Word). w.1) in
      omega arith

  pub below_none : inserted_below 0 b ≡ 0
  below_none = count_none b.inserted

  -- all words stand up to the end
  pub below_all : inserted_below (code_size b + 4) b ≡ length b.inserted
  below_all =
      count_all (code_size b + 4) b.inserted (every_weaker (IsInserted g b) (λ (w : ℕ × Word). w.0 < code_size b + 4) (λ w h. let most = h.1 in omega arith) b.inserted is.inserted)

  pub length-words_from : (o : ℕ) (ws : List Word) → o % 4 ≡ 0 → length (words_from b o ws) + inserted_below o b ≡ length ws + inserted_below (o + 4 * length ws + 4) b
  length-words_from o [] whole =
      let more = below_more o whole in
      let e : inserted_below (o + 4 * 0 + 4) b ≡ inserted_below (o + 4) b = ap (λ n. inserted_below n b) (omega arith) in
      omega arith
  length-words_from o (w ∷ ws) whole =
      let more = below_more o whole in
      let rest = length-words_from (o + 4) ws (omega arith) in
      let parts = length-append (ins b o) (w ∷ words_from b (o + 4) ws) in
      let e : inserted_below (o + 4 + 4 * length ws + 4) b ≡ inserted_below (o + 4 * suc (length ws) + 4) b = ap (λ n. inserted_below n b) (omega arith) in
      omega arith

  pub length-all_words : length (all_words b) ≡ length b.own + length b.inserted
  length-all_words =
      let whole = length-words_from 0 b.own refl in
      let none = below_none in
      let e : inserted_below (0 + 4 * length b.own + 4) b ≡ inserted_below (code_size b + 4) b = ap (λ n. inserted_below n b) (omega arith) in
      let all = below_all in
      omega arith
