-- Expressions are found by their offsets, sorted or not, and inserted words are counted by theirs.
use Rattle.std.proofs.Common.{◌≡◌, ℕ, ◌+◌, ◌%◌, ◌≤◌, ◌<◌, Bool, true, false, List, [], ◌∷◌, ◌++◌, length, map, Option, Some, None, refl, ap, ◌∙◌, inl, inr, arith}
use Rattle.std.specs.Prelude.{◌==◌, filter, find, if◌then◌else◌, nat_lt}
use Rattle.std.specs.List.{AllByRecursion as Every}
use Rattle.std.specs.Option.{option_map, option_or}
use Rattle.std.proofs.lemmas.Bool.{both_ways, cases_lt, eq-eqb, eqb-true, le-ltb, lt-ltb, ne_eqb}
use Rattle.gt_model.specs.declared.exprs.Expr.{Expr}
use Rattle.rewrite.specs.Exprs.{by_offset, moved_expr, put_by_offset}
use Rattle.rewrite.specs.Offsets.{new_offset}
use Rattle.sym_expr.specs.declared.program.Stretch.{Stretch}
use Rattle.sym_expr.specs.declared.program.Word.{Word}
use Rattle.repaired_programs.proofs.Points.{counted_first}

abbrev pub at_place : ℕ → Expr → Bool
at_place k e = k == e.at

-- ---- sorted expressions

swap : {X : Type 0} (x e o : Option X) (a b : Bool) → (a ≡ true → b ≡ true → ⊥) → (if a then x else if b then e else o) ≡ (if b then e else if a then x else o)
swap x e o true true h = absurd (h refl refl)
swap x e o true false h = refl
swap x e o false true h = refl
swap x e o false false h = refl

apart : (k : ℕ) (x e : Expr) → nat_lt x.at e.at ≡ true → at_place k x ≡ true → at_place k e ≡ true → ⊥
apart k x e lt first second =
    let a : k ≡ x.at = eqb-true k x.at first in
    let b : k ≡ e.at = eqb-true k e.at second in
    both_ways (nat_lt x.at e.at) (le-ltb x.at e.at (omega (arith, a, b))) lt

put_found : (k : ℕ) (e : Expr) (es : List Expr) → find (at_place k) (put_by_offset e es) ≡ find (at_place k) (e ∷ es)
put_found k e [] = refl
put_found k e (x ∷ es) = either (nat_lt x.at e.at) refl (put_found k e es)
  where
    either : (c : Bool) → nat_lt x.at e.at ≡ c → find (at_place k) (put_by_offset e es) ≡ find (at_place k) (e ∷ es) → find (at_place k) (if c then x ∷ put_by_offset e es else e ∷ x ∷ es) ≡ find (at_place k) (e ∷ x ∷ es)
    either false h rest = refl
    either true h rest = ap (λ o. if k == x.at then Some x else o) rest ∙ swap (Some x) (Some e) (find (at_place k) es) (k == x.at) (k == e.at) (apart k x e h)

pub by_found : (k : ℕ) (es : List Expr) → find (at_place k) (by_offset es) ≡ find (at_place k) es
by_found k [] = refl
by_found k (e ∷ es) = put_found k e (by_offset es) ∙ ap (λ o. if k == e.at then Some e else o) (by_found k es)

pub find_append : {X : Type 0} (test : X → Bool) (xs ys : List X) → find test (xs ++ ys) ≡ option_or (find test xs) (find test ys)
find_append test [] ys = refl
find_append test (x ∷ xs) ys = either (test x) (find_append test xs ys)
  where
    either : (c : Bool) → find test (xs ++ ys) ≡ option_or (find test xs) (find test ys) → (if c then Some x else find test (xs ++ ys)) ≡ option_or (if c then Some x else find test xs) (find test ys)
    either true rest = refl
    either false rest = rest

pub none_from : (k at : ℕ) (es : List Expr) → Every (λ (e : Expr). at ≤ e.at) es → k < at → find (at_place k) es ≡ None
none_from k at [] h lt = refl
none_from k at (e ∷ es) h lt = let le : at ≤ e.at = h.0 in ap (λ c. if c then Some e else find (at_place k) es) (ne_eqb k e.at (λ q. omega (arith, q, lt, le))) ∙ none_from k at es h.1 lt

pub none_below : (k at : ℕ) (es : List Expr) → Every (λ (e : Expr). e.at < at) es → at ≤ k → find (at_place k) es ≡ None
none_below k at [] h le = refl
none_below k at (e ∷ es) h le = let lt : e.at < at = h.0 in ap (λ c. if c then Some e else find (at_place k) es) (ne_eqb k e.at (λ q. omega (arith, q, lt, le))) ∙ none_below k at es h.1 le

-- ---- moved expressions

pub moved_found : (s : Stretch) (k o : ℕ) (es : List Expr) → ((a : ℕ) → (k == new_offset s a) ≡ (o == a)) → find (at_place k) (map (moved_expr s) es) ≡ option_map (moved_expr s) (find (at_place o) es)
moved_found s k o [] h = refl
moved_found s k o (e ∷ es) h = ap (λ c. if c then Some (moved_expr s e) else find (at_place k) (map (moved_expr s) es)) (h e.at) ∙ either (o == e.at) (moved_found s k o es h)
  where
    either : (c : Bool) → find (at_place k) (map (moved_expr s) es) ≡ option_map (moved_expr s) (find (at_place o) es)
        → (if c then Some (moved_expr s e) else find (at_place k) (map (moved_expr s) es)) ≡ option_map (moved_expr s) (if c then Some e else find (at_place o) es)
    either true rest = refl
    either false rest = rest

pub moved_none : (s : Stretch) (k : ℕ) (es : List Expr) → ((a : ℕ) → (k == new_offset s a) ≡ false) → find (at_place k) (map (moved_expr s) es) ≡ None
moved_none s k [] h = refl
moved_none s k (e ∷ es) h = ap (λ c. if c then Some (moved_expr s e) else find (at_place k) (map (moved_expr s) es)) (h e.at) ∙ moved_none s k es h

-- ---- how many words are inserted below an offset

abbrev pub below : ℕ → List (ℕ × Word) → ℕ
below k ws = length (filter (λ (w : ℕ × Word). nat_lt w.0 k) ws)

abbrev pub level : ℕ → List (ℕ × Word) → ℕ
level k ws = length (filter (λ (w : ℕ × Word). k == w.0) ws)

pub below_all : (k : ℕ) (ws : List (ℕ × Word)) → below k ws ≤ length ws
below_all k [] = omega arith
below_all k (w ∷ ws) =
    let rest = below_all k ws in
    elim (cases_lt w.0 k) [
      | inl lt ↦ let x = counted_first (λ (w : ℕ × Word). nat_lt w.0 k) w ws true (lt-ltb w.0 k lt) in omega (arith, x, rest)
      | inr ge ↦ let x = counted_first (λ (w : ℕ × Word). nat_lt w.0 k) w ws false (le-ltb w.0 k ge) in omega (arith, x, rest)
    ]

pub below_grows : (a b : ℕ) (ws : List (ℕ × Word)) → a ≤ b → below a ws ≤ below b ws
below_grows a b [] le = omega arith
below_grows a b (w ∷ ws) le =
    let rest = below_grows a b ws le in
    elim (cases_lt w.0 b) [
      | inl lt ↦
          let y = counted_first (λ (w : ℕ × Word). nat_lt w.0 b) w ws true (lt-ltb w.0 b lt) in
          elim (cases_lt w.0 a) [
            | inl less ↦ let x = counted_first (λ (w : ℕ × Word). nat_lt w.0 a) w ws true (lt-ltb w.0 a less) in omega (arith, x, y, rest)
            | inr more ↦ let x = counted_first (λ (w : ℕ × Word). nat_lt w.0 a) w ws false (le-ltb w.0 a more) in omega (arith, x, y, rest)
          ]
      | inr ge ↦
          let y = counted_first (λ (w : ℕ × Word). nat_lt w.0 b) w ws false (le-ltb w.0 b ge) in
          let x = counted_first (λ (w : ℕ × Word). nat_lt w.0 a) w ws false (le-ltb w.0 a (omega (arith, ge, le))) in
          omega (arith, x, y, rest)
    ]

pub below_next : (k : ℕ) (ws : List (ℕ × Word)) → below (k + 1) ws ≡ below k ws + level k ws
below_next k [] = omega arith
below_next k (w ∷ ws) =
    let rest = below_next k ws in
    elim (cases_lt w.0 k) [
      | inl lt ↦
          let x = counted_first (λ (w : ℕ × Word). nat_lt w.0 k) w ws true (lt-ltb w.0 k lt) in
          let y = counted_first (λ (w : ℕ × Word). nat_lt w.0 (k + 1)) w ws true (lt-ltb w.0 (k + 1) (omega (arith, lt))) in
          let z = counted_first (λ (w : ℕ × Word). k == w.0) w ws false (ne_eqb k w.0 (λ e. omega (arith, e, lt))) in
          omega (arith, x, y, z, rest)
      | inr ge ↦
          let x = counted_first (λ (w : ℕ × Word). nat_lt w.0 k) w ws false (le-ltb w.0 k ge) in
          elim (cases_lt k w.0) [
            | inl more ↦
                let y = counted_first (λ (w : ℕ × Word). nat_lt w.0 (k + 1)) w ws false (le-ltb w.0 (k + 1) (omega (arith, more))) in
                let z = counted_first (λ (w : ℕ × Word). k == w.0) w ws false (ne_eqb k w.0 (λ e. omega (arith, e, more))) in
                omega (arith, x, y, z, rest)
            | inr same ↦
                let y = counted_first (λ (w : ℕ × Word). nat_lt w.0 (k + 1)) w ws true (lt-ltb w.0 (k + 1) (omega (arith, same))) in
                let z = counted_first (λ (w : ℕ × Word). k == w.0) w ws true (eq-eqb k w.0 (omega (arith, same, ge))) in
                omega (arith, x, y, z, rest)
          ]
    ]

-- words are inserted at multiples of 4
pub below_four : (k : ℕ) (ws : List (ℕ × Word)) → k % 4 ≡ 0 → Every (λ (w : ℕ × Word). w.0 % 4 ≡ 0) ws → below (k + 4) ws ≡ below (k + 1) ws
below_four k [] e h = omega arith
below_four k (w ∷ ws) e h =
    let rest = below_four k ws e h.1 in
    let whole : w.0 % 4 ≡ 0 = h.0 in
    elim (cases_lt w.0 (k + 1)) [
      | inl lt ↦
          let x = counted_first (λ (w : ℕ × Word). nat_lt w.0 (k + 1)) w ws true (lt-ltb w.0 (k + 1) lt) in
          let y = counted_first (λ (w : ℕ × Word). nat_lt w.0 (k + 4)) w ws true (lt-ltb w.0 (k + 4) (omega (arith, lt))) in
          omega (arith, x, y, rest)
      | inr ge ↦
          let x = counted_first (λ (w : ℕ × Word). nat_lt w.0 (k + 1)) w ws false (le-ltb w.0 (k + 1) ge) in
          let y = counted_first (λ (w : ℕ × Word). nat_lt w.0 (k + 4)) w ws false (le-ltb w.0 (k + 4) (omega (arith, ge, whole, e))) in
          omega (arith, x, y, rest)
    ]
