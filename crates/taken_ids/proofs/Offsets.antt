-- The inserted words of an offset, one word further.
use Rattle.std.proofs.Common.{◌≡◌, ℕ, suc, ◌+◌, ◌<◌, cond, eqb, List, [], ◌∷◌, ◌++◌, length, get_or, take, filter, map, refl, sym, ap, ◌∙◌, inl, inr, arith}
use Rattle.std.proofs.lemmas.Bool.{cond-true, cond-false, cases_Bool}
use Rattle.std.proofs.lemmas.List.{map-append, take_more, length-take}
use Rattle.std.proofs.lemmas.List.Elements.{filter-append}
use Rattle.sym_expr.specs.declared.program.Word.{Word}
use Rattle.sym_expr.specs.Patches.{inserted_at}
use Rattle.block_parts.specs.declared.words.PatchedWord.{PatchedWord}
use Rattle.block_parts.specs.Words.{inserted, numbered}

at_one : (at : ℕ) (x : ℕ × PatchedWord) → inserted_at at (x ∷ []) ≡ cond (eqb at x.0) (x.1 ∷ []) []
at_one at x =
    elim (cases_Bool (eqb at x.0)) [
      | inl here ↦ ap (map (λ (w : ℕ × PatchedWord). w.1)) (cond-true (eqb at x.0) (x ∷ []) [] here) ∙ sym (cond-true (eqb at x.0) (x.1 ∷ []) [] here)
      | inr off ↦ ap (map (λ (w : ℕ × PatchedWord). w.1)) (cond-false (eqb at x.0) (x ∷ []) [] off) ∙ sym (cond-false (eqb at x.0) (x.1 ∷ []) [] off)
    ]

at_append : (at : ℕ) (xs ys : List (ℕ × PatchedWord)) → inserted_at at (xs ++ ys) ≡ inserted_at at xs ++ inserted_at at ys
at_append at xs ys =
    ap (map (λ (w : ℕ × PatchedWord). w.1)) (filter-append (λ (w : ℕ × PatchedWord). eqb at w.0) xs ys)
    ∙ map-append (λ (w : ℕ × PatchedWord). w.1) (filter (λ (w : ℕ × PatchedWord). eqb at w.0) xs) (filter (λ (w : ℕ × PatchedWord). eqb at w.0) ys)

numbered_append : (k : ℕ) (xs ys : List (ℕ × Word)) → numbered k (xs ++ ys) ≡ numbered k xs ++ numbered (k + length xs) ys
numbered_append k [] ys = let e : k ≡ k + 0 = omega arith in ap (λ n. numbered n ys) e
numbered_append k (x ∷ xs) ys =
    let e : suc k + length xs ≡ k + length (x ∷ xs) = omega arith in
    ap (λ l. (x.0, inserted k x.1) ∷ l) (numbered_append (suc k) xs ys ∙ ap (λ n. numbered (suc k) xs ++ numbered n ys) e)

-- one word more, which has the next number
pub offsets_more : (at : ℕ) (xs : List (ℕ × Word)) (i : ℕ) (x : ℕ × Word) → i < length xs → x ≡ get_or xs i x
    → inserted_at at (numbered 0 (take (i + 1) xs)) ≡ inserted_at at (numbered 0 (take i xs)) ++ cond (eqb at x.0) (inserted i x.1 ∷ []) []
offsets_more at xs i x within is =
    let count : 0 + length (take i xs) ≡ i = omega (arith, length-take i xs) in
    ap (λ ys. inserted_at at (numbered 0 ys)) (take_more xs i x within ∙ ap (λ y. take i xs ++ y ∷ []) (sym is))
    ∙ ap (inserted_at at) (numbered_append 0 (take i xs) (x ∷ []) ∙ ap (λ n. numbered 0 (take i xs) ++ numbered n (x ∷ [])) count)
    ∙ at_append at (numbered 0 (take i xs)) ((x.0, inserted i x.1) ∷ [])
    ∙ ap (λ l. inserted_at at (numbered 0 (take i xs)) ++ l) (at_one at (x.0, inserted i x.1))
