-- An IR has no fault exactly where it is linked.
use Rattle.std.proofs.Common.{◌≡◌, ℕ, Bool, true, false, ◌||◌, List, [], ◌∷◌, Option, Some, None, refl, sym, ap, ◌∙◌}
use Rattle.std.specs.Prelude.{◌↔◌, IsTrue, find, if◌then◌else◌}
use Rattle.std.specs.Bool.{Decides}
use Rattle.std.specs.List.{AllByRecursion, list_any, IsDistinct}
use Rattle.std.specs.Option.{option_map, option_or, IsSomeAnd}
use Rattle.std.specs.Str.{bytes_eq}
use Rattle.std.proofs.lemmas.Slice.Eq.{bytes_eq-Decides}
use Rattle.std.proofs.lemmas.Map.Made.{AllPairs-from_IsDistinct, IsDistinct-from_AllPairs}
use Rattle.gt_model.specs.declared.intervals.Interval.{Interval}
use Rattle.gt_model.specs.declared.ir.Ir.{Ir}
use Rattle.gt_model.specs.Nodes.{Kind, Node, nodes, ids}
use Rattle.gt_model.specs.References.{Reference, references, suits}
use Rattle.gt_model.specs.Linked.{intervals, is_bare, Lands, kind_at, linked, repeated, DupUuid, BareBlock, repeat_fault, bare_fault, landing_fault, reference_fault, first_reference_fault, link_fault}

-- the other order of a test of bytes
decides_alike : (a b : Bool) (P Q : Type 0) → Decides a P → Decides b Q → (P → Q) → (Q → P) → a ≡ b
decides_alike true true P Q p q f g = refl
decides_alike false false P Q p q f g = refl
decides_alike true false P Q p q f g = sym (q.1 (f (p.0 refl)))
decides_alike false true P Q p q f g = p.1 (g (q.0 refl))

bytes_eq-flip : (a b : List ℕ) → bytes_eq a b ≡ bytes_eq b a
bytes_eq-flip a b = decides_alike (bytes_eq a b) (bytes_eq b a) (a ≡ b) (b ≡ a) (bytes_eq-Decides a b) (bytes_eq-Decides b a) (λ e. sym e) (λ e. sym e)

-- none of the identifiers is among the earlier ones
abbrev Fresh : List (List ℕ) → List (List ℕ) → Type 0
Fresh earlier xs = AllByRecursion (λ y. list_any (bytes_eq y) earlier ≡ false) xs

or_false_left : (a b : Bool) → (a || b) ≡ false → a ≡ false
or_false_left true b h = h
or_false_left false b h = refl

or_false_right : (a b : Bool) → (a || b) ≡ false → b ≡ false
or_false_right true b h = absurd (cc)
or_false_right false b h = h

or_false : (a b : Bool) → a ≡ false → b ≡ false → (a || b) ≡ false
or_false true b p q = p
or_false false b p q = q

fresh_before : (x : List ℕ) (earlier xs : List (List ℕ)) → Fresh (x ∷ earlier) xs → Fresh earlier xs
fresh_before x earlier [] h = tt
fresh_before x earlier (y ∷ ys) h = (or_false_right (bytes_eq y x) _ h.0, fresh_before x earlier ys h.1)

fresh_of : (x : List ℕ) (earlier xs : List (List ℕ)) → Fresh (x ∷ earlier) xs → AllByRecursion (λ y. bytes_eq x y ≡ false) xs
fresh_of x earlier [] h = tt
fresh_of x earlier (y ∷ ys) h = (bytes_eq-flip x y ∙ or_false_left (bytes_eq y x) _ h.0, fresh_of x earlier ys h.1)

fresh_both : (x : List ℕ) (earlier xs : List (List ℕ)) → Fresh earlier xs → AllByRecursion (λ y. bytes_eq x y ≡ false) xs → Fresh (x ∷ earlier) xs
fresh_both x earlier [] h k = tt
fresh_both x earlier (y ∷ ys) h k = (or_false (bytes_eq y x) _ (bytes_eq-flip y x ∙ k.0) h.0, fresh_both x earlier ys h.1 k.1)

some-none : {A : Type 0} (x : A) → Some x ≡ None → ⊥
some-none x h = cc

if_none : {A : Type 0} (x : A) (b : Bool) (o : Option A) → (if b then Some x else o) ≡ None → (b ≡ false) × (o ≡ None)
if_none x true o h = absurd (some-none _ h)
if_none x false o h = (refl, h)

none-if : {A : Type 0} (b : Bool) (x : A) {o : Option A} → b ≡ false → o ≡ None → (if b then Some x else o) ≡ None
none-if true x h k = cc
none-if false x h k = k

repeated-none : (earlier xs : List (List ℕ)) → repeated earlier xs ≡ None → Fresh earlier xs × IsDistinct bytes_eq xs
unfolding IsDistinct
repeated-none earlier [] h = (tt, tt)
repeated-none earlier (x ∷ xs) h =
    let found = if_none x (list_any (bytes_eq x) earlier) (repeated (x ∷ earlier) xs) h in
    let rest = repeated-none (x ∷ earlier) xs found.1 in
    ((found.0, fresh_before x earlier xs rest.0), (fresh_of x earlier xs rest.0, rest.1))

none-repeated : (earlier xs : List (List ℕ)) → Fresh earlier xs → IsDistinct bytes_eq xs → repeated earlier xs ≡ None
unfolding IsDistinct
none-repeated earlier [] h d = refl
none-repeated earlier (x ∷ xs) h d = none-if (list_any (bytes_eq x) earlier) x h.0 (none-repeated (x ∷ earlier) xs (fresh_both x earlier xs h.1 d.0) d.1)

fresh_of_none : (xs : List (List ℕ)) → Fresh [] xs
fresh_of_none [] = tt
fresh_of_none (x ∷ xs) = (refl, fresh_of_none xs)

-- a search that finds nothing
find-none : {X : Type 0} (test : X → Bool) (xs : List X) → find test xs ≡ None → AllByRecursion (λ x. test x ≡ false) xs
find-none test [] h = tt
find-none test (x ∷ xs) h =
    let found = if_none x (test x) (find test xs) h in
    (found.0, find-none test xs found.1)

none-find : {X : Type 0} (test : X → Bool) (xs : List X) → AllByRecursion (λ x. test x ≡ false) xs → find test xs ≡ None
none-find test [] h = refl
none-find test (x ∷ xs) h = none-if (test x) x h.0 (none-find test xs h.1)

map-none : {A B : Type 0} (f : A → B) (o : Option A) → option_map f o ≡ None → o ≡ None
map-none f None h = refl
map-none f (Some x) h = absurd (some-none (f x) h)

or-none : {A : Type 0} (a b : Option A) → option_or a b ≡ None → (a ≡ None) × (b ≡ None)
or-none None b h = (refl, h)
or-none (Some x) b h = absurd (some-none x h)

none-or : {A : Type 0} (a b : Option A) → a ≡ None → b ≡ None → option_or a b ≡ None
none-or a b p q = rw p q

if-none : {A : Type 0} (x : A) (b : Bool) → (if b then None else Some x) ≡ None → IsTrue b
if-none x true h = refl
if-none x false h = absurd (some-none _ h)

-- one reference
landing-none : (r : Reference) (o : Option Kind) → landing_fault r o ≡ None → IsSomeAnd o (λ kind. IsTrue (suits r.wanted kind))
landing-none r None h = some-none _ h
landing-none r (Some kind) h = if-none _ (suits r.wanted kind) h

none-landing : (r : Reference) (o : Option Kind) → IsSomeAnd o (λ kind. IsTrue (suits r.wanted kind)) → landing_fault r o ≡ None
none-landing r None h = absurd h
none-landing r (Some kind) h = rw h refl

references-none : (ns : List Node) (rs : List Reference) → first_reference_fault (kind_at ns) rs ≡ None → AllByRecursion (Lands ns) rs
references-none ns [] h = tt
references-none ns (r ∷ rs) h =
    let both = or-none (reference_fault (kind_at ns) r) (first_reference_fault (kind_at ns) rs) h in
    (landing-none r (kind_at ns r.to) both.0, references-none ns rs both.1)

none-references : (ns : List Node) (rs : List Reference) → AllByRecursion (Lands ns) rs → first_reference_fault (kind_at ns) rs ≡ None
none-references ns [] h = refl
none-references ns (r ∷ rs) h =
    none-or (reference_fault (kind_at ns) r) (first_reference_fault (kind_at ns) rs) (none-landing r (kind_at ns r.to) h.0) (none-references ns rs h.1)

linked_from_none : (ir : Ir) → link_fault ir ≡ None → linked ir
linked_from_none ir h =
    let all = or-none (repeat_fault [] (nodes ir)) _ h in
    let rest = or-none (bare_fault (intervals ir)) _ all.1 in
    record {
      distinct = AllPairs-from_IsDistinct bytes_eq-Decides (ids (nodes ir)) (repeated-none [] (ids (nodes ir)) (map-none DupUuid _ all.0)).1;
      no_bare = find-none (λ (i : Interval). list_any is_bare i.blocks) (intervals ir) (map-none _ _ rest.0);
      lands = references-none (nodes ir) (references ir) rest.1;
    }

none_from_linked : (ir : Ir) → linked ir → link_fault ir ≡ None
none_from_linked ir h =
    none-or (repeat_fault [] (nodes ir)) _
    (ap (option_map DupUuid) (none-repeated [] (ids (nodes ir)) (fresh_of_none (ids (nodes ir))) (IsDistinct-from_AllPairs bytes_eq-Decides (ids (nodes ir)) h.distinct)))
    (none-or (bare_fault (intervals ir)) _
    (ap (option_map (λ (i : Interval). BareBlock i.uuid)) (none-find (λ (i : Interval). list_any is_bare i.blocks) (intervals ir) h.no_bare))
    (none-references (nodes ir) (references ir) h.lands))

pub fault_or_linked : (ir : Ir) → (link_fault ir ≡ None) ↔ linked ir
fault_or_linked ir = (linked_from_none ir, none_from_linked ir)
