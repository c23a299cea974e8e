-- Entries that are put into a map one after another.
use Rattle.std.proofs.Common.{◌≡◌, Bool, true, false, cond, List, [], ◌∷◌, ◌++◌, map, Option, Some, None, refl, sym, ap, ◌∙◌}
use Rattle.std.specs.declared.cmp.Ordering.{Ordering}
use Rattle.std.specs.declared.cmp.Ordering.TheVariants.{Less, Equal, Greater}
use Rattle.std.specs.Cmp.{IsTotalOrder, alike_right}
use Rattle.std.specs.Ordering.{ordering_reverse, match_ordering, is_eq}
use Rattle.std.specs.BTreeMap.{insert_entry, is_at}
use Rattle.std.specs.List.{AllByRecursion}
use Rattle.std.specs.List.Sorted.{IsStrictlySortedBy}
use Rattle.std.specs.Map.{lookup}
use Rattle.std.proofs.lemmas.List.Sums.{fold-append}
use Rattle.gt_read.specs.Meaning.{map_of}
use Rattle.gt_read.specs.Joining.{map_join}
use Rattle.gt_read.proofs.Ascending.{inserted}

module _ {K : Type 0} (R : K → K → Ordering) (o : IsTotalOrder R) where
  -- a key that comes before another
  above : (k y : K) → R k y ≡ Less → R y k ≡ Greater
  above k y e = o.antisymm y k ∙ ap ordering_reverse e

  all_above : (k x : K) (ks : List K) → R k x ≡ Less → AllByRecursion (λ y. R x y ≡ Less) ks → AllByRecursion (λ y. R k y ≡ Less) ks
  all_above k x [] e a = tt
  all_above k x (y ∷ ks) e a = (o.trans k x y e a.0, all_above k x ks e a.1)

  all_tied : (k x : K) (ks : List K) → R k x ≡ Equal → AllByRecursion (λ y. R x y ≡ Less) ks → AllByRecursion (λ y. R k y ≡ Less) ks
  all_tied k x [] e a = tt
  all_tied k x (y ∷ ks) e a = (o.congr k x y e ∙ a.0, all_tied k x ks e a.1)

module _ {K V : Type 0} (R : K → K → Ordering) (o : IsTotalOrder R) where
  abbrev put : List (K × V) → K → V → List (K × V)
  put m k v = insert_entry R m k v

  abbrev place : Ordering → K → V → K × V → List (K × V) → List (K × V)
  place r k v e es = match_ordering r ((k, v) ∷ e ∷ es) ((e.0, v) ∷ es) (e ∷ put es k v)

  -- a key above another is put behind it
  further : (e : K × V) (es : List (K × V)) (k : K) (v : V) → R k e.0 ≡ Greater → put (e ∷ es) k v ≡ e ∷ put es k v
  further e es k v g = ap (λ r. place r k v e es) g

  before : (e : K × V) (es : List (K × V)) (k : K) (v : V) → R k e.0 ≡ Less → put (e ∷ es) k v ≡ (k, v) ∷ e ∷ es
  before e es k v g = ap (λ r. place r k v e es) g

  over : (e : K × V) (es : List (K × V)) (k : K) (v : V) → R k e.0 ≡ Equal → put (e ∷ es) k v ≡ (e.0, v) ∷ es
  over e es k v g = ap (λ r. place r k v e es) g

  -- two keys may be put in either order
  swapped : (m : List (K × V)) (k : K) (v : V) (y : K) (w : V) → R k y ≡ Less → put (put m k v) y w ≡ put (put m y w) k v
  swapped [] k v y w lt = further (k, v) [] y w (above R o k y lt) ∙ sym (before (y, w) [] k v lt)
  swapped (e ∷ es) k v y w lt = by (R k e.0) refl (swapped es k v y w lt)
    where
      -- where k comes first, it stands before all that y may do
      first : R k e.0 ≡ Less → (r : Ordering) → (k, v) ∷ place r y w e es ≡ put (place r y w e es) k v
      first is Less = sym (before (y, w) (e ∷ es) k v lt)
      first is Equal = sym (before (e.0, w) es k v is)
      first is Greater = sym (before e (put es y w) k v is)

      by : (r : Ordering) → R k e.0 ≡ r → put (put es k v) y w ≡ put (put es y w) k v → put (put (e ∷ es) k v) y w ≡ put (put (e ∷ es) y w) k v
      by Less is more = ap (λ m. put m y w) (before e es k v is) ∙ further (k, v) (e ∷ es) y w (above R o k y lt) ∙ first is (R y e.0)
      by Equal is more =
          let behind : R y e.0 ≡ Greater = above R o e.0 y (sym (o.congr k e.0 y is) ∙ lt) in
          ap (λ m. put m y w) (over e es k v is) ∙ further (e.0, v) es y w behind
          ∙ sym (ap (λ m. put m k v) (further e es y w behind) ∙ over e (put es y w) k v is)
      by Greater is more =
          let less : R e.0 k ≡ Less = o.antisymm e.0 k ∙ ap ordering_reverse is in
          let behind : R y e.0 ≡ Greater = above R o e.0 y (o.trans e.0 k y less lt) in
          ap (λ m. put m y w) (further e es k v is) ∙ further e (put es k v) y w behind
          ∙ ap (λ (l : List (K × V)). e ∷ l) more
          ∙ sym (ap (λ m. put m k v) (further e es y w behind) ∙ further e (put es y w) k v is)

  -- the later value of a key replaces the earlier
  replaced : (m : List (K × V)) (x : K) (u : V) (k : K) (v : V) → R k x ≡ Equal → put (put m x u) k v ≡ put m x v
  replaced [] x u k v e = over (x, u) [] k v e
  replaced (d ∷ ds) x u k v e = by (R x d.0) refl (replaced ds x u k v e)
    where
      by : (r : Ordering) → R x d.0 ≡ r → put (put ds x u) k v ≡ put ds x v → put (put (d ∷ ds) x u) k v ≡ put (d ∷ ds) x v
      by Less is more = ap (λ m. put m k v) (before d ds x u is) ∙ over (x, u) (d ∷ ds) k v e ∙ sym (before d ds x v is)
      by Equal is more = ap (λ m. put m k v) (over d ds x u is) ∙ over (d.0, u) ds k v (o.congr k x d.0 e ∙ is) ∙ sym (over d ds x v is)
      by Greater is more =
          ap (λ m. put m k v) (further d ds x u is) ∙ further d (put ds x u) k v (o.congr k x d.0 e ∙ is) ∙ ap (λ (l : List (K × V)). d ∷ l) more ∙ sym (further d ds x v is)

  abbrev keys : List (K × V) → List K
  keys es = map (λ (e : K × V). e.0) es

  -- a key below all others may be put last
  put_last : (m ys : List (K × V)) (k : K) (v : V) → AllByRecursion (λ y. R k y ≡ Less) (keys ys) → map_join R (put m k v) ys ≡ put (map_join R m ys) k v
  put_last m [] k v a = refl
  put_last m (y ∷ ys) k v a = ap (λ n. map_join R n ys) (swapped m k v y.0 y.1 a.0) ∙ put_last (put m y.0 y.1) ys k v a.1

  put_inside : (m b : List (K × V)) (k : K) (v : V) → IsStrictlySortedBy R (keys b) → map_join R m (put b k v) ≡ put (map_join R m b) k v
  unfolding IsStrictlySortedBy
  put_inside m [] k v s = refl
  put_inside m (e ∷ es) k v s = by (R k e.0) refl (put_inside (put m e.0 e.1) es k v s.1)
    where
      by : (r : Ordering) → R k e.0 ≡ r → map_join R (put m e.0 e.1) (put es k v) ≡ put (map_join R (put m e.0 e.1) es) k v → map_join R m (place r k v e es) ≡ put (map_join R m (e ∷ es)) k v
      by Less is more = put_last m (e ∷ es) k v (is, all_above R o k e.0 (keys es) is s.0)
      by Equal is more = ap (λ n. map_join R n es) (sym (replaced m e.0 e.1 k v is)) ∙ put_last (put m e.0 e.1) es k v (all_tied R o k e.0 (keys es) is s.0)
      by Greater is more = more

  absorbed : (m b fs : List (K × V)) → IsStrictlySortedBy R (keys b) → map_join R m (map_join R b fs) ≡ map_join R (map_join R m b) fs
  absorbed m b [] s = refl
  absorbed m b (f ∷ fs) s = absorbed m (put b f.0 f.1) fs (inserted R o b f.0 f.1 s) ∙ ap (λ n. map_join R n fs) (put_inside m b f.0 f.1 s)

  -- the map of two lists of entries
  pub map_of-append : (es fs : List (K × V)) → map_of R (es ++ fs) ≡ map_join R (map_of R es) (map_of R fs)
  unfolding IsStrictlySortedBy
  map_of-append es fs = fold-append (λ m (e : K × V). put m e.0 e.1) [] es fs ∙ sym (absorbed (map_of R es) [] fs tt)

  -- ---- what a map has at a key

  abbrev at : K → List (K × V) → Option V
  at q m = lookup (is_at (R q)) m

  at_put : (m : List (K × V)) (k : K) (v : V) (q : K) → at q (put m k v) ≡ cond (is_at (R q) k) (Some v) (at q m)
  at_put [] k v q = refl
  at_put (e ∷ es) k v q = by (R k e.0) refl (at_put es k v q)
    where
      by : (r : Ordering) → R k e.0 ≡ r → at q (put es k v) ≡ cond (is_at (R q) k) (Some v) (at q es) → at q (place r k v e es) ≡ cond (is_at (R q) k) (Some v) (at q (e ∷ es))
      by Less is more = refl
      by Equal is more = same (is_at (R q) k) (is_at (R q) e.0) (ap is_eq (alike_right o k e.0 q is))
        where
          same : (s t : Bool) → s ≡ t → cond t (Some v) (at q es) ≡ cond s (Some v) (cond t (Some e.1) (at q es))
          same true true h = refl
          same true false h = absurd cc
          same false true h = absurd cc
          same false false h = refl
      by Greater is more = ap (cond (is_at (R q) e.0) (Some e.1)) more ∙ apart (R q k) (R q e.0) refl refl
        where
          apart : (r t : Ordering) → R q k ≡ r → R q e.0 ≡ t → cond (is_eq t) (Some e.1) (cond (is_eq r) (Some v) (at q es)) ≡ cond (is_eq r) (Some v) (cond (is_eq t) (Some e.1) (at q es))
          apart Equal Equal a b = let no : ◌≡◌ {A = Ordering} Equal Greater = sym b ∙ o.congr q k e.0 a ∙ is in absurd cc
          apart Equal Less a b = refl
          apart Equal Greater a b = refl
          apart Less Equal a b = refl
          apart Less Less a b = refl
          apart Less Greater a b = refl
          apart Greater Equal a b = refl
          apart Greater Less a b = refl
          apart Greater Greater a b = refl

  kept : (m es : List (K × V)) (q : K) → AllByRecursion (λ (e : K × V). is_at (R q) e.0 ≡ false) es → at q (map_join R m es) ≡ at q m
  kept m [] q a = refl
  kept m (e ∷ es) q a = kept (put m e.0 e.1) es q a.1 ∙ at_put m e.0 e.1 q ∙ ap (λ b. cond b (Some e.1) (at q m)) a.0

  pub last_counts : (es fs : List (K × V)) (k : K) (v : V) → is_at (R k) k ≡ true → AllByRecursion (λ (e : K × V). is_at (R k) e.0 ≡ false) fs → at k (map_of R (es ++ (k, v) ∷ fs)) ≡ Some v
  last_counts es fs k v own a =
      ap (at k) (fold-append (λ m (e : K × V). put m e.0 e.1) [] es ((k, v) ∷ fs)) ∙ kept (put (map_of R es) k v) fs k a ∙ at_put (map_of R es) k v k ∙ ap (λ b. cond b (Some v) (at k (map_of R es))) own

  pub others_absent : (es : List (K × V)) (k : K) → AllByRecursion (λ (e : K × V). is_at (R k) e.0 ≡ false) es → at k (map_of R es) ≡ None
  others_absent es k a = kept [] es k a
