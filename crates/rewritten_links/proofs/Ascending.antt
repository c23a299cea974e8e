-- Expressions by their offsets: they ascend where no two have one offset.
use Rattle.std.proofs.Common.{◌≡◌, ◌≢◌, ℕ, ◌<◌, ◌≤◌, inl, inr, Bool, true, false, List, [], ◌∷◌, ◌++◌, map, refl, sym, ap, subst, arith, Less, Equal, Greater, cond, nat_cmp}
use Rattle.std.specs.Prelude.{nat_lt, ◌==◌, if◌then◌else◌}
use Rattle.std.specs.List.{AllByRecursion as Every}
use Rattle.std.specs.List.Sorted.{IsStrictlySortedBy}
use Rattle.std.proofs.lemmas.Bool.{cases_Bool, cases_lt, lt-ltb, ltb-false, ltb-true}
use Rattle.gt_model.specs.declared.exprs.Expr.{Expr}
use Rattle.gt_model.specs.Ordered.{ordered_exprs}
use Rattle.rewrite.specs.Exprs.{by_offset, put_by_offset}
use Rattle.rewritten_links.proofs.Brought.{out_offset, put_out}
use Rattle.rewritten_links.proofs.Lists.{In, every_of, in_either, out_map}

-- each is below all that come later
abbrev pub Ascend : List Expr → Type 0
Ascend [] = Unit {0}
Ascend (e ∷ es) = ((f : Expr) → In f es → e.at < f.at) × Ascend es

-- no two have one offset
abbrev pub Differ : List Expr → Type 0
Differ [] = Unit {0}
Differ (e ∷ es) = ((f : Expr) → In f es → f.at ≢ e.at) × Differ es

less : (a b : ℕ) → a < b → nat_cmp a b ≡ Less
less a b lt = ap (λ x. cond x Less (cond (a == b) Equal Greater)) (lt-ltb a b lt)

not_less : (b : Bool) → cond b Equal Greater ≡ Less → ⊥
not_less true e = cc
not_less false e = cc

less_if : (a b : ℕ) (x : Bool) → nat_lt a b ≡ x → cond x Less (cond (a == b) Equal Greater) ≡ Less → a < b
less_if a b true h e = ltb-true a b h
less_if a b false h e = absurd (not_less (a == b) e)

pub sorted_of : (es : List Expr) → Ascend es → ordered_exprs es
unfolding IsStrictlySortedBy
sorted_of [] h = tt
sorted_of (e ∷ es) h = (
  every_of (λ y. nat_cmp e.at y ≡ Less) (map (λ (f : Expr). f.at) es) (λ y k.
      let f = out_map (λ (f : Expr). f.at) y es k in
      subst (λ n. nat_cmp e.at n ≡ Less) (sym f.2) (less e.at f.0.at (h.0 f.0 f.1))),
  sorted_of es h.1,
)

at_each : (a : ℕ) (es : List Expr) (f : Expr) → Every (λ y. nat_cmp a y ≡ Less) (map (λ (e : Expr). e.at) es) → In f es → a < f.at
at_each a [] f h k = absurd k
at_each a (e ∷ es) f h (inl d) = subst (λ (x : Expr). a < x.at) (sym d) (less_if a e.at (nat_lt a e.at) refl h.0)
at_each a (e ∷ es) f h (inr k) = at_each a es f h.1 k

pub ascend_of : (es : List Expr) → ordered_exprs es → Ascend es
unfolding IsStrictlySortedBy
ascend_of [] h = tt
ascend_of (e ∷ es) h = (λ f k. at_each e.at es f h.0 k, ascend_of es h.1)

-- ---- insertion

strict : (a b : ℕ) → a ≤ b → b ≢ a → a < b
strict a b le ne =
    elim (cases_lt a b) [
      | inl lt ↦ lt
      | inr ge ↦ absurd (ne (omega (arith, le, ge)))
    ]

put_above : (first e : Expr) (es : List Expr) → first.at < e.at → ((f : Expr) → In f es → first.at < f.at) → (f : Expr) → In f (put_by_offset e es) → first.at < f.at
put_above first e es lt all f l =
    elim (put_out f e es l) [
      | inl d ↦ subst (λ (x : Expr). first.at < x.at) (sym d) lt
      | inr n ↦ all f n
    ]

all_above : (e first : Expr) (es : List Expr) → e.at < first.at → ((g : Expr) → In g es → first.at < g.at) → (f : Expr) → In f (first ∷ es) → e.at < f.at
all_above e first es lt all f (inl d) = subst (λ (x : Expr). e.at < x.at) (sym d) lt
all_above e first es lt all f (inr l) = let more = all f l in omega (arith, lt, more)

put_ascends : (e : Expr) (es : List Expr) → Ascend es → ((f : Expr) → In f es → f.at ≢ e.at) → Ascend (put_by_offset e es)
put_ascends e [] h k = (λ f l. absurd l, tt)
put_ascends e (first ∷ es) h k =
    elim (cases_Bool (nat_lt first.at e.at)) [
      | inl below ↦
          subst Ascend (sym (ap (λ x. if x then first ∷ put_by_offset e es else e ∷ first ∷ es) below))
          (put_above first e es (ltb-true first.at e.at below) h.0, put_ascends e es h.1 (λ f l. k f (inr l)))
      | inr above ↦
          subst Ascend (sym (ap (λ x. if x then first ∷ put_by_offset e es else e ∷ first ∷ es) above))
          (all_above e first es (strict e.at first.at (ltb-false first.at e.at above) (k first (inl refl))) h.0, h)
    ]

pub offset_ascends : (es : List Expr) → Differ es → Ascend (by_offset es)
offset_ascends [] h = tt
offset_ascends (e ∷ es) h = put_ascends e (by_offset es) (offset_ascends es h.1) (λ f k. h.0 f (out_offset f es k))

-- ---- lists that are joined

pub differ_of : (es : List Expr) → Ascend es → Differ es
differ_of [] h = tt
differ_of (e ∷ es) h = (λ f k same. absurd (let lt = h.0 f k in omega (arith, lt, same)), differ_of es h.1)

pub differ_both : (xs ys : List Expr) → Differ xs → Differ ys → ((x y : Expr) → In x xs → In y ys → y.at ≢ x.at) → Differ (xs ++ ys)
differ_both [] ys h k cross = k
differ_both (x ∷ xs) ys h k cross = (
  λ f l.
      elim (in_either f xs ys l) [
        | inl n ↦ h.0 f n
        | inr n ↦ cross x f (inl refl) n
      ],
  differ_both xs ys h.1 k (λ y z l n. cross y z (inr l) n),
)

pub ascend_both : (bound : ℕ) (xs ys : List Expr) → Ascend xs → Ascend ys → ((x : Expr) → In x xs → x.at < bound) → ((y : Expr) → In y ys → bound ≤ y.at) → Ascend (xs ++ ys)
ascend_both bound [] ys h k below above = k
ascend_both bound (x ∷ xs) ys h k below above = (
  λ f l.
      elim (in_either f xs ys l) [
        | inl n ↦ h.0 f n
        | inr n ↦ (let lt = below x (inl refl) in let le = above f n in omega (arith, lt, le))
      ],
  ascend_both bound xs ys h.1 k (λ y l. below y (inr l)) above,
)
