-- Keys that ascend: one more, which is none of them.
use Rattle.std.proofs.Common.{◌≡◌, ℕ, suc, ◌-◌, Bool, true, false, ◌||◌, List, [], ◌∷◌, ◌++◌, length, Some, None, Ordering, refl, sym, ap, subst, ◌∙◌, arith}
use Rattle.std.specs.Bool.{OnTrue}
use Rattle.std.specs.Ordering.{is_lt, ordering_reverse}
use Rattle.std.specs.Prelude.{not}
use Rattle.std.specs.declared.cmp.Ordering.TheVariants.{Less, Equal, Greater}
use Rattle.std.specs.List.{AllByRecursion, list_any, slice_get}
use Rattle.std.specs.List.Sorted.{IsStrictlySortedBy}
use Rattle.std.specs.Str.{bytes_eq}
use Rattle.std.specs.Cmp.{IsTotalOrder, nat_cmp_total, on_total, then_total}
use Rattle.std.specs.Cmp.Lexicographic.{nat_list_cmp_total}
use Rattle.std.proofs.lemmas.Slice.Eq.{bytes_eq-Decides}
use Rattle.std.proofs.lemmas.List.{append-nil, map-append}
use Rattle.std.proofs.lemmas.List.Folds.{list_any-append}
use Rattle.std.proofs.lemmas.Option.{none-some, same_Some, slice_get-get_or}
use Rattle.aux_codec.specs.Order.{rank, by_rank, Ascend}
use Rattle.aux_codec.proofs.Index.{Key, texts}

total : IsTotalOrder by_rank
total = then_total (on_total (λ x. (rank x).0) nat_list_cmp_total) (on_total (λ x. (rank x).1) nat_cmp_total)

apart : Less ≡ Greater → ⊥
apart e = cc

not_itself : (k : List ℕ) → by_rank k k ≡ Less → ⊥
not_itself k e = apart (sym e ∙ total.antisymm k k ∙ ap ordering_reverse e)

pub none_ascend : Ascend []
unfolding IsStrictlySortedBy
none_ascend = tt

-- what is behind the last is behind all
behind_all : (ks : List Key) (last : Key) (k : List ℕ) → Some last ≡ slice_get ks (length ks - 1) → Ascend (texts ks) → by_rank last.now k ≡ Less → AllByRecursion (λ x. by_rank x k ≡ Less) (texts ks)
unfolding IsStrictlySortedBy
behind_all [] last k is ascend less = tt
behind_all (x ∷ []) last k is ascend less = (subst (λ (y : Key). by_rank y.now k ≡ Less) (same_Some last x is) less, tt)
behind_all (x ∷ y ∷ ks) last k is ascend less =
    let at : length (x ∷ y ∷ ks) - 1 ≡ suc (length (y ∷ ks) - 1) = omega arith in
    let others = behind_all (y ∷ ks) last k (is ∙ ap (slice_get (x ∷ y ∷ ks)) at) ascend.1 less in
    (total.trans x.now y.now k ascend.0.0 others.0, others)

all_push : {A : Type 0} (P : A → Type 0) (xs : List A) (y : A) → AllByRecursion P xs → P y → AllByRecursion P (xs ++ y ∷ [])
all_push P [] y all one = (one, tt)
all_push P (x ∷ xs) y all one = (all.0, all_push P xs y all.1 one)

ascend_push : (ks : List (List ℕ)) (k : List ℕ) → Ascend ks → AllByRecursion (λ x. by_rank x k ≡ Less) ks → Ascend (ks ++ k ∷ [])
unfolding IsStrictlySortedBy
ascend_push [] k ascend all = (tt, tt)
ascend_push (x ∷ ks) k ascend all = (all_push (λ y. by_rank x y ≡ Less) ks k ascend.0 all.0, ascend_push ks k ascend.1 all.1)

push_as : (o : Ordering) (ks : List Key) (last : Key) (k : List ℕ) → by_rank last.now k ≡ o → Some last ≡ slice_get ks (length ks - 1) → Ascend (texts ks) → OnTrue (is_lt o) (Ascend (texts ks ++ k ∷ []))
push_as Less ks last k e is ascend = ascend_push (texts ks) k ascend (behind_all ks last k is ascend e)
push_as Equal ks last k e is ascend = tt
push_as Greater ks last k e is ascend = tt

-- bytes behind the last key stand behind all
pub push_behind : (b : Bool) (ks : List Key) (last : Key) (k : List ℕ) → b ≡ is_lt (by_rank last.now k) → Some last ≡ slice_get ks (length ks - 1) → Ascend (texts ks) → OnTrue b (Ascend (texts ks ++ k ∷ []))
push_behind b ks last k tested is ascend = subst (λ (t : Bool). OnTrue t (Ascend (texts ks ++ k ∷ []))) (sym tested) (push_as (by_rank last.now k) ks last k refl is ascend)

-- one key ascends
pub push_first : (ks : List Key) (k : List ℕ) → None ≡ slice_get ks (length ks - 1) → Ascend (texts ks ++ k ∷ [])
unfolding IsStrictlySortedBy
push_first [] k is = (tt, tt)
push_first (x ∷ ks) k is = absurd (none-some _ (is ∙ slice_get-get_or (x ∷ ks) (length (x ∷ ks) - 1) x (omega arith)))

other_bytes : (x k : List ℕ) → by_rank x k ≡ Less → (b : Bool) → bytes_eq k x ≡ b → b ≡ false
other_bytes x k less true e = absurd (not_itself k (subst (λ y. by_rank y k ≡ Less) (sym ((bytes_eq-Decides k x).0 e)) less))
other_bytes x k less false e = refl

-- the last of keys that ascend is none of the others
is_new : (ks : List (List ℕ)) (k : List ℕ) → Ascend (ks ++ k ∷ []) → list_any (bytes_eq k) ks ≡ false
unfolding IsStrictlySortedBy
is_new [] k ascend = refl
is_new (x ∷ ks) k ascend = rw (other_bytes x k (last_of ks ascend.0) (bytes_eq k x) refl, is_new ks k ascend.1) refl
  where
    last_of : (ys : List (List ℕ)) → AllByRecursion (λ y. by_rank x y ≡ Less) (ys ++ k ∷ []) → by_rank x k ≡ Less
    last_of [] all = all.0
    last_of (y ∷ ys) all = last_of ys all.1

-- nor is it in a set that has nothing
pub new_in_both : (ks os : List Key) (k : List ℕ) → length os ≡ 0 → Ascend (texts ks ++ k ∷ []) → true ≡ not (list_any (bytes_eq k) (texts (ks ++ os)))
new_in_both ks [] k none ascend = ap not (sym (is_new (texts ks) k ascend) ∙ ap (λ (xs : List Key). list_any (bytes_eq k) (texts xs)) (sym (append-nil ks)))
new_in_both ks (o ∷ os) k none ascend = absurd (omega (arith, none))

-- what is in either of two lists is in both put together
pub in_both : (ks os : List Key) (q : List ℕ) → list_any (bytes_eq q) (texts (ks ++ os)) ≡ (list_any (bytes_eq q) (texts ks) || list_any (bytes_eq q) (texts os))
in_both ks os q = ap (list_any (bytes_eq q)) (map-append (λ (k : Key). k.now) ks os) ∙ list_any-append (bytes_eq q) (texts ks) (texts os)
