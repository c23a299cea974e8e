-- An ordered set of texts, as the list of its keys, after one was added.
use Rattle.std.proofs.Common.{◌≡◌, ℕ, ◌+◌, ◌<◌, Bool, true, false, ◌||◌, List, [], ◌∷◌, length, get_or, take, map, Ordering, refl, sym, ap, ◌∙◌}
use Rattle.std.specs.Borrow.{Bor}
use Rattle.std.specs.Ordering.{is_eq, nat_cmp, match_ordering}
use Rattle.std.specs.Cmp.Lexicographic.{slice_cmp}
use Rattle.std.specs.List.{list_any}
use Rattle.std.specs.Str.{bytes_eq}
use Rattle.std.specs.BTreeSet.{insert_key}
use Rattle.std.specs.declared.cmp.Ordering.TheVariants.{Less, Equal, Greater}
use Rattle.std.proofs.lemmas.List.{map-append, take_more}
use Rattle.std.proofs.lemmas.List.Folds.{list_any-append}
use Rattle.std.proofs.lemmas.Slice.Eq.{bytes_eq-Decides}
use Rattle.std.proofs.lemmas.Map.Text.{is_eq-slice_cmp}

abbrev pub Key : Type 0
Key = Bor (List ℕ)

abbrev compare : Key → Key → Ordering
compare x y = slice_cmp nat_cmp x.now y.now

abbrev pub texts : List Key → List (List ℕ)
texts ks = map (λ k. k.now) ks

-- a look-up by the order finds what a look-up by the bytes finds
pub found_by_bytes : (key : Key) (ks : List Key) → list_any (λ k. is_eq (compare key k)) ks ≡ list_any (bytes_eq key.now) (texts ks)
found_by_bytes key [] = refl
found_by_bytes key (k ∷ ks) = rw (is_eq-slice_cmp key.now k.now, found_by_bytes key ks) refl

or_swap : (a b c : Bool) → (a || (b || c)) ≡ (b || (a || c))
or_swap true true c = refl
or_swap true false c = refl
or_swap false b c = refl

or_twice : (a b c : Bool) → a ≡ b → (a || c) ≡ (b || (a || c))
or_twice true true c e = refl
or_twice true false c e = absurd cc
or_twice false true c e = absurd cc
or_twice false false c e = refl

same_text : (key k : Key) → compare key k ≡ Equal → key.now ≡ k.now
same_text key k e =
    let eq : bytes_eq key.now k.now ≡ true = sym (is_eq-slice_cmp key.now k.now) ∙ ap is_eq e in
    (bytes_eq-Decides key.now k.now).0 eq

by_order : (key : Key) (q : List ℕ) (k : Key) (ks : List Key) (o : Ordering) → compare key k ≡ o
    → list_any (bytes_eq q) (texts (insert_key compare ks key)) ≡ (bytes_eq q key.now || list_any (bytes_eq q) (texts ks))
    → list_any (bytes_eq q) (texts (match_ordering o (key ∷ k ∷ ks) (k ∷ ks) (k ∷ insert_key compare ks key))) ≡ (bytes_eq q key.now || list_any (bytes_eq q) (texts (k ∷ ks)))
by_order key q k ks Less e h = refl
by_order key q k ks Equal e h = or_twice (bytes_eq q k.now) (bytes_eq q key.now) (list_any (bytes_eq q) (texts ks)) (ap (bytes_eq q) (sym (same_text key k e)))
by_order key q k ks Greater e h = rw h (or_swap (bytes_eq q k.now) (bytes_eq q key.now) (list_any (bytes_eq q) (texts ks)))

-- after a key was added the set has its bytes, and what it had
pub has_after_insert : (key : Key) (q : List ℕ) (ks : List Key) → list_any (bytes_eq q) (texts (insert_key compare ks key)) ≡ (bytes_eq q key.now || list_any (bytes_eq q) (texts ks))
has_after_insert key q [] = refl
has_after_insert key q (k ∷ ks) = by_order key q k ks (compare key k) refl (has_after_insert key q ks)

or_next : (a b c : Bool) → (b || (a || c)) ≡ ((a || (b || false)) || c)
or_next true true c = refl
or_next true false c = refl
or_next false true c = refl
or_next false false c = refl

-- after one key more of a list was added the set has those up to it, and what it had before the first
pub has_after_more : (keys : List Key) (i : ℕ) (d : Key) (q : List ℕ) (had : Bool) (ks new : List Key) → i < length keys → new ≡ insert_key compare ks (get_or keys i d)
    → list_any (bytes_eq q) (texts ks) ≡ (list_any (bytes_eq q) (texts (take i keys)) || had) → list_any (bytes_eq q) (texts new) ≡ (list_any (bytes_eq q) (texts (take (i + 1) keys)) || had)
has_after_more keys i d q had ks new within put before =
    let key = get_or keys i d in
    let before_it = list_any (bytes_eq q) (texts (take i keys)) in
    let up_to : list_any (bytes_eq q) (texts (take (i + 1) keys)) ≡ (before_it || (bytes_eq q key.now || false)) =
    ap (λ (xs : List Key). list_any (bytes_eq q) (texts xs)) (take_more keys i d within)
    ∙ ap (list_any (bytes_eq q)) (map-append (λ (k : Key). k.now) (take i keys) (key ∷ []))
    ∙ list_any-append (bytes_eq q) (texts (take i keys)) (key.now ∷ []) in
    ap (λ (xs : List Key). list_any (bytes_eq q) (texts xs)) put ∙ has_after_insert key q ks
    ∙ ap (λ (b : Bool). bytes_eq q key.now || b) before ∙ or_next before_it (bytes_eq q key.now) had ∙ ap (λ (b : Bool). b || had) (sym up_to)
