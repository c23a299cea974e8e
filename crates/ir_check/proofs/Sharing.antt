-- Of expressions in order, one that shares a byte with a later one has a byte of the next that has any.
use Rattle.std.proofs.Common.{◌≡◌, ℕ, suc, zero, ◌+◌, ◌<◌, ◌≤◌, Bool, true, false, cond, nat_lt, ◌&&◌, ◌||◌, List, [], ◌∷◌, map, take, drop, length, get_or, refl, sym, ap, ◌∙◌, arith, inl, inr}
use Rattle.std.specs.List.{list_any, prefix_len, take_while, AllByRecursion}
use Rattle.std.specs.List.Sorted.{IsStrictlySortedBy}
use Rattle.std.specs.Ordering.{nat_cmp}
use Rattle.std.specs.declared.cmp.Ordering.TheVariants.{Less}
use Rattle.std.proofs.lemmas.Bool.{cases_Bool, ltb-true, ltb-false, leb-true, leb-false}
use Rattle.gt_model.specs.declared.exprs.Expr.{Expr}
use Rattle.gt_model.specs.declared.intervals.Block.{Block}
use Rattle.gt_model.specs.Ordered.{ordered_exprs}
use Rattle.ir_check.specs.Along.{meets_next}
use Rattle.sym_expr.specs.Expressions.{meet, shares}
use Rattle.sym_expr.specs.Modules.{covers, end_of}

-- every expression of the list begins behind an offset
abbrev pub Behind : ℕ → List Expr → Type 0
Behind at [] = Unit {0}
Behind at (e ∷ es) = (at < e.at) × Behind at es

-- each begins behind those before it
abbrev pub Ascending : List Expr → Type 0
Ascending [] = Unit {0}
Ascending (e ∷ es) = Behind e.at es × Ascending es

less : (m n : ℕ) → nat_cmp m n ≡ Less → m < n
less m n e = grind (arith)

behind : (at : ℕ) (es : List Expr) → AllByRecursion (λ y. nat_cmp at y ≡ Less) (map (λ (e : Expr). e.at) es) → Behind at es
behind at [] all = tt
behind at (e ∷ es) all = (less at e.at all.0, behind at es all.1)

pub ascending : (es : List Expr) → ordered_exprs es → Ascending es
unfolding IsStrictlySortedBy
ascending [] sorted = tt
ascending (e ∷ es) sorted = (behind e.at es sorted.0, ascending es sorted.1)

-- ---- before an expression, and at it, there is none that it shares a byte with

pub ascending_from : (es : List Expr) (k : ℕ) → Ascending es → Ascending (drop k es)
ascending_from es zero up = up
ascending_from [] (suc k) up = tt
ascending_from (e ∷ es) (suc k) up = ascending_from es k up.1

pub behind_at : (at : ℕ) (es : List Expr) (k : ℕ) (d : Expr) → Behind at es → k < length es → at < (get_or es k d).at
behind_at at [] k d all within = absurd (omega arith)
behind_at at (e ∷ es) zero d all within = all.0
behind_at at (e ∷ es) (suc k) d all within = behind_at at es k d all.1 (omega arith)

no_earlier : (size : ℕ → ℕ) (b : Block) (e o : Expr) → o.at ≤ e.at → shares size b e o ≡ false
no_earlier size b e o le = ap (λ (t : Bool). t && (covers o.at b && meet e.at (size e.at) o.at (size o.at))) (past e.at o.at le)
  where
    past : (m n : ℕ) → n ≤ m → nat_lt m n ≡ false
    past m n le = grind (arith, ltb-true, ltb-false)

skip : (p q : Bool) → p ≡ false → (p || q) ≡ q
skip p q e = ap (λ (t : Bool). t || q) e

pub only_later : (size : ℕ → ℕ) (b : Block) (es : List Expr) (k : ℕ) (d : Expr) → Ascending es → k < length es → list_any (shares size b (get_or es k d)) es ≡ list_any (shares size b (get_or es k d)) (drop (suc k) es)
only_later size b [] k d up within = absurd (omega arith)
only_later size b (e ∷ es) zero d up within = skip (shares size b e e) (list_any (shares size b e) es) (no_earlier size b e e (omega arith))
only_later size b (e ∷ es) (suc k) d up within =
    let at = get_or es k d in
    skip (shares size b at e) (list_any (shares size b at) es) (no_earlier size b at e (omega (arith, behind_at e.at es k d up.0 (omega arith))))
    ∙ only_later size b es k d up.1 (omega arith)

-- ---- behind it, where it ends in the block

meets : (size : ℕ → ℕ) (b : Block) (e o : Expr) → b.offset ≤ e.at → e.at + size e.at ≤ end_of b → e.at < o.at → o.at < e.at + size e.at → shares size b e o ≡ nat_lt 0 (size o.at)
meets size b e o from to behind before = grind (arith, ltb-true, ltb-false, leb-true, leb-false)

apart : (size : ℕ → ℕ) (b : Block) (e o : Expr) → e.at + size e.at ≤ o.at → shares size b e o ≡ false
apart size b e o past = grind (arith, ltb-true, ltb-false, leb-true, leb-false)

all_apart : (size : ℕ → ℕ) (b : Block) (e : Expr) (at : ℕ) (rest : List Expr) → e.at + size e.at ≤ at → Behind at rest → list_any (shares size b e) rest ≡ false
all_apart size b e at [] past all = refl
all_apart size b e at (o ∷ rest) past all = skip (shares size b e o) (list_any (shares size b e) rest) (apart size b e o (omega (arith, all.0))) ∙ all_apart size b e at rest past all.1

one_plus : (n : ℕ) → 1 + n ≡ suc n
one_plus n = omega arith

took : (p : Expr → Bool) (o : Expr) (rest : List Expr) → p o ≡ true → take_while p (o ∷ rest) ≡ o ∷ take_while p rest
took p o rest e = ap (λ (t : Bool). take (cond t (1 + prefix_len p rest) 0) (o ∷ rest)) e ∙ ap (λ (n : ℕ). take n (o ∷ rest)) (one_plus (prefix_len p rest))

ended : (p : Expr → Bool) (o : Expr) (rest : List Expr) → p o ≡ false → take_while p (o ∷ rest) ≡ []
ended p o rest e = ap (λ (t : Bool). take (cond t (1 + prefix_len p rest) 0) (o ∷ rest)) e

pub shares_next : (size : ℕ → ℕ) (b : Block) (e : Expr) (rest : List Expr) → b.offset ≤ e.at → e.at + size e.at ≤ end_of b → Behind e.at rest → Ascending rest → list_any (shares size b e) rest ≡ meets_next size (e.at + size e.at) rest
shares_next size b e [] from to all up = refl
shares_next size b e (o ∷ rest) from to all up =
    let before = λ (x : Expr). nat_lt x.at (e.at + size e.at) in
    elim (cases_Bool (before o)) [
      | inl is ↦
          ap (λ (t : Bool). t || list_any (shares size b e) rest) (meets size b e o from to all.0 (ltb-true o.at (e.at + size e.at) is))
          ∙ ap (λ (t : Bool). nat_lt 0 (size o.at) || t) (shares_next size b e rest from to all.1 up.1)
          ∙ sym (ap (list_any (λ (x : Expr). nat_lt 0 (size x.at))) (took before o rest is))
      | inr isnt ↦
          skip (shares size b e o) (list_any (shares size b e) rest) (apart size b e o (ltb-false o.at (e.at + size e.at) isnt))
          ∙ all_apart size b e o.at rest (ltb-false o.at (e.at + size e.at) isnt) up.0
          ∙ sym (ap (list_any (λ (x : Expr). nat_lt 0 (size x.at))) (ended before o rest isnt))
    ]
