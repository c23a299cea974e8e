-- The words of a code block: how many there are, and what holds of each.
use Rattle.std.proofs.Common.{◌≡◌, ℕ, ◌+◌, ◌*◌, ◌%◌, ◌<◌, ◌≤◌, Bool, true, false, cond, eqb, List, [], ◌∷◌, ◌++◌, length, get_or, take, filter, map, refl, sym, ap, subst, ◌∙◌, inl, inr, arith}
use Rattle.std.specs.List.{AllByRecursion}
use Rattle.std.proofs.lemmas.Bool.{cond-true, cond-false, cases_Bool}
use Rattle.std.proofs.lemmas.Bool.Decides.{nat_tests}
use Rattle.std.proofs.lemmas.List.{length-append, map-append, take_more}
use Rattle.std.proofs.lemmas.List.Elements.{filter-append}
use Rattle.sym_expr.specs.declared.program.CodeBlock.{CodeBlock}
use Rattle.sym_expr.specs.declared.program.Program.{Program}
use Rattle.sym_expr.specs.declared.program.Word.{Word}
use Rattle.sym_expr.specs.Images.{all_words, words_from}
use Rattle.sym_expr.specs.Patches.{inserted_at}
use Rattle.sym_expr.specs.Points.{ins}
use Rattle.sym_expr.specs.WellMade.{IsCode, IsInserted, IsWord}
use Rattle.link_image.proofs.Lists.{all_append}

-- the words of an offset among inserted words and one more
inserted_at-one : (at : ℕ) (x : ℕ × Word) → inserted_at at (x ∷ []) ≡ cond (eqb at x.0) (x.1 ∷ []) []
inserted_at-one at x =
    elim (cases_Bool (eqb at x.0)) [
      | inl here ↦ ap (map (λ (w : ℕ × Word). w.1)) (cond-true (eqb at x.0) (x ∷ []) [] here) ∙ sym (cond-true (eqb at x.0) (x.1 ∷ []) [] here)
      | inr off ↦ ap (map (λ (w : ℕ × Word). w.1)) (cond-false (eqb at x.0) (x ∷ []) [] off) ∙ sym (cond-false (eqb at x.0) (x.1 ∷ []) [] off)
    ]

inserted_at-append : (at : ℕ) (xs ys : List (ℕ × Word)) → inserted_at at (xs ++ ys) ≡ inserted_at at xs ++ inserted_at at ys
inserted_at-append at xs ys =
    ap (map (λ (w : ℕ × Word). w.1)) (filter-append (λ (w : ℕ × Word). eqb at w.0) xs ys)
    ∙ map-append (λ (w : ℕ × Word). w.1) (filter (λ (w : ℕ × Word). eqb at w.0) xs) (filter (λ (w : ℕ × Word). eqb at w.0) ys)

pub inserted_at_more : (at : ℕ) (xs : List (ℕ × Word)) (i : ℕ) (x : ℕ × Word) → i < length xs → x ≡ get_or xs i x
    → inserted_at at (take (i + 1) xs) ≡ inserted_at at (take i xs) ++ cond (eqb at x.0) (x.1 ∷ []) []
inserted_at_more at xs i x lt is =
    ap (inserted_at at) (take_more xs i x lt ∙ ap (λ y. take i xs ++ y ∷ []) (sym is))
    ∙ inserted_at-append at (take i xs) (x ∷ [])
    ∙ ap (λ l. inserted_at at (take i xs) ++ l) (inserted_at-one at x)

-- where nothing is inserted the words are the block's own
pub own_words : (b : CodeBlock) (at : ℕ) (ws : List Word) → b.inserted ≡ [] → words_from b at ws ≡ ws
own_words b at [] none = ap (inserted_at at) none
own_words b at (w ∷ ws) none = ap (λ l. l ++ w ∷ words_from b (at + 4) ws) (ap (inserted_at at) none) ∙ ap (λ l. w ∷ l) (own_words b (at + 4) ws none)

-- ---- how many

-- how often an offset is one of those at which a block's words stand
abbrev hits_at : ℕ → List Word → ℕ → ℕ
hits_at at [] o = cond (eqb at o) 1 0
hits_at at (w ∷ ws) o = cond (eqb at o) 1 0 + hits_at (at + 4) ws o

-- how many inserted words stand at these
abbrev total : ℕ → List Word → List (ℕ × Word) → ℕ
total at [] xs = length (inserted_at at xs)
total at (w ∷ ws) xs = length (inserted_at at xs) + total (at + 4) ws xs

length-words_from : (b : CodeBlock) (at : ℕ) (ws : List Word) → length (words_from b at ws) ≡ length ws + total at ws b.inserted
length-words_from b at [] = omega arith
length-words_from b at (w ∷ ws) = omega (arith, length-append (ins b at) (w ∷ words_from b (at + 4) ws), length-words_from b (at + 4) ws)

length-inserted_at : (at : ℕ) (x : ℕ × Word) (xs : List (ℕ × Word)) → length (inserted_at at (x ∷ xs)) ≡ cond (eqb at x.0) 1 0 + length (inserted_at at xs)
length-inserted_at at x xs =
    ap length (inserted_at-append at (x ∷ []) xs) ∙ length-append (inserted_at at (x ∷ [])) (inserted_at at xs)
    ∙ ap (λ n. n + length (inserted_at at xs)) (ap length (inserted_at-one at x) ∙ one (eqb at x.0) x.1)
  where
    one : (v : Bool) (w : Word) → length (cond v (w ∷ []) []) ≡ cond v 1 0
    one true w = refl
    one false w = refl

total-none : (at : ℕ) (ws : List Word) → total at ws [] ≡ 0
total-none at [] = refl
total-none at (w ∷ ws) = omega (arith, total-none (at + 4) ws)

total-cons : (at : ℕ) (ws : List Word) (x : ℕ × Word) (xs : List (ℕ × Word)) → total at ws (x ∷ xs) ≡ hits_at at ws x.0 + total at ws xs
total-cons at [] x xs = length-inserted_at at x xs
total-cons at (w ∷ ws) x xs = omega (arith, length-inserted_at at x xs, total-cons (at + 4) ws x xs)

abbrev one_at : ℕ → ℕ → ℕ
one_at at o = cond (eqb at o) 1 0

cond_at : (at o : ℕ) → at ≡ o → one_at at o ≡ 1
cond_at at o e = grind (arith, nat_tests)

cond_off : (at o : ℕ) → (at ≡ o → ⊥) → one_at at o ≡ 0
cond_off at o e = grind (arith, nat_tests)

hits-below : (at : ℕ) (ws : List Word) (o : ℕ) → o < at → hits_at at ws o ≡ 0
hits-below at [] o lt = cond_off at o (λ e. omega arith)
hits-below at (w ∷ ws) o lt = omega (arith, cond_off at o (λ e. omega arith), hits-below (at + 4) ws o (omega arith))

hits-one : (at : ℕ) (ws : List Word) (o : ℕ) → at % 4 ≡ 0 → o % 4 ≡ 0 → at ≤ o → o ≤ at + 4 * length ws → hits_at at ws o ≡ 1
hits-one at [] o even whole le within = cond_at at o (omega arith)
hits-one at (w ∷ ws) o even whole le within =
    elim (cases_Bool (eqb at o)) [
      | inl here ↦
          let same : at ≡ o = grind (arith, nat_tests) in
          omega (arith, cond_at at o same, hits-below (at + 4) ws o (omega arith))
      | inr off ↦
          let differ : at ≡ o → ⊥ = grind (arith, nat_tests) in
          let above : at < o = omega arith in
          let next : at + 4 ≤ o = omega arith in
          let even_next : (at + 4) % 4 ≡ 0 = omega arith in
          omega (arith, cond_off at o differ, hits-one (at + 4) ws o even_next whole next (omega arith))
    ]

total-all : (g : Program) (b : CodeBlock) (xs : List (ℕ × Word)) → AllByRecursion (IsInserted g b) xs → total 0 b.own xs ≡ length xs
total-all g b [] all = total-none 0 b.own
total-all g b (x ∷ xs) all = omega (arith, total-cons 0 b.own x xs, hits-one 0 b.own x.0 refl all.0.0 (omega arith) (omega (arith, all.0.1)), total-all g b xs all.1)

pub length-all_words : (g : Program) (b : CodeBlock) → IsCode g b → length (all_words b) ≡ length b.own + length b.inserted
length-all_words g b is = omega (arith, length-words_from b 0 b.own, total-all g b b.inserted is.inserted)

-- ---- what holds of each

words_at_offset : (g : Program) (b : CodeBlock) (at : ℕ) (xs : List (ℕ × Word)) → AllByRecursion (IsInserted g b) xs → AllByRecursion (IsWord g) (inserted_at at xs)
words_at_offset g b at [] all = tt
words_at_offset g b at (x ∷ xs) all =
    let rest = words_at_offset g b at xs all.1 in
    elim (cases_Bool (eqb at x.0)) [
      | inl here ↦ subst (AllByRecursion (IsWord g)) (sym (ap (map (λ (w : ℕ × Word). w.1)) (cond-true (eqb at x.0) (x ∷ filter (λ (w : ℕ × Word). eqb at w.0) xs) (filter (λ (w : ℕ × Word). eqb at w.0) xs) here))) (all.0.2, rest)
      | inr off ↦ subst (AllByRecursion (IsWord g)) (sym (ap (map (λ (w : ℕ × Word). w.1)) (cond-false (eqb at x.0) (x ∷ filter (λ (w : ℕ × Word). eqb at w.0) xs) (filter (λ (w : ℕ × Word). eqb at w.0) xs) off))) rest
    ]

words_have : (g : Program) (b : CodeBlock) (at : ℕ) (ws : List Word) → AllByRecursion (IsInserted g b) b.inserted → AllByRecursion (IsWord g) ws → AllByRecursion (IsWord g) (words_from b at ws)
words_have g b at [] inserted own = words_at_offset g b at b.inserted inserted
words_have g b at (w ∷ ws) inserted own = all_append (IsWord g) (ins b at) (w ∷ words_from b (at + 4) ws) (words_at_offset g b at b.inserted inserted) (own.0, words_have g b (at + 4) ws inserted own.1)

pub all_words_have : (g : Program) (b : CodeBlock) → IsCode g b → AllByRecursion (IsWord g) (all_words b)
all_words_have g b is = words_have g b 0 b.own is.inserted is.own
