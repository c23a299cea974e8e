-- The segments of an image lie as they should.
use Rattle.std.proofs.Common.{◌≡◌, ◌⊎◌, zero, suc, ◌+◌, ◌^◌, ◌%◌, ◌<◌, ◌≤◌, true, ltb, List, [], ◌∷◌, ◌++◌, length, filter, map, All, refl, sym, ap, subst, ◌∙◌, inl, inr, arith, sum_by}
use Rattle.std.specs.List.{AllByRecursion, AllPairs}
use Rattle.std.proofs.lemmas.Bool.{cond-true, cond-false, cases_Bool}
use Rattle.std.proofs.lemmas.Bool.Decides.{nat_tests}
use Rattle.std.proofs.lemmas.List.Elements.{All-from_recursion, recursion_from_All}
use Rattle.std.proofs.lemmas.List.Sums.{sum_by-cons}
use Rattle.bare_image.specs.declared.image.Segment.{Segment}
use Rattle.bare_image.specs.Valid.{end_of, image_ok, loaded, IsSegment, IsStack}
use Rattle.sym_expr.specs.declared.layout.Layout.{Layout}
use Rattle.sym_expr.specs.declared.program.Program.{Program}
use Rattle.sym_expr.specs.declared.program.Stretch.{Stretch}
use Rattle.sym_expr.specs.Images.{by_address, image, is_some_bytes, put_by_address, segment_of, stretch_bytes}
use Rattle.sym_expr.specs.Layouts.{accepted, address_of, AreApart, IsAligned, IsInside, placed as placed_spot, placed_stack}
use Rattle.sym_expr.specs.Placing.{shape_of, spot_of, stretch_size}
use Rattle.link_image.specs.Ready.{HasBytes}
use Rattle.link_image.proofs.Lengths.{length-stretch}
use Rattle.link_image.proofs.Lists.{Pairs, all_parts, all_through, pairs_from}
use Rattle.sym_expr.specs.WellMade.{well_made}
use Rattle.link_image.proofs.Parts.{AreGood, all_good}

-- ---- sorting keeps what all have

all_put : (P : Segment → Type 0) (c : Segment) (ds : List Segment) → P c → AllByRecursion P ds → AllByRecursion P (put_by_address c ds)
all_put P c [] one all = (one, tt)
all_put P c (d ∷ ds) one all =
    elim (cases_Bool (ltb d.at c.at)) [
      | inl behind ↦ subst (AllByRecursion P) (sym (cond-true (ltb d.at c.at) (d ∷ put_by_address c ds) (c ∷ d ∷ ds) behind)) (all.0, all_put P c ds one all.1)
      | inr before ↦ subst (AllByRecursion P) (sym (cond-false (ltb d.at c.at) (d ∷ put_by_address c ds) (c ∷ d ∷ ds) before)) (one, all)
    ]

all_sorted : (P : Segment → Type 0) (cs : List Segment) → AllByRecursion P cs → AllByRecursion P (by_address cs)
all_sorted P [] all = tt
all_sorted P (c ∷ cs) all = all_put P c (by_address cs) all.0 (all_sorted P cs all.1)

-- ---- segments apart are in order once they are sorted

abbrev Before : Segment → Segment → Type 0
Before s later = end_of s ≤ later.at

abbrev Apart : Segment → Segment → Type 0
Apart s t = (end_of s ≤ t.at) ⊎ (end_of t ≤ s.at)

abbrev Some : Segment → Type 0
Some s = 1 ≤ length s.bytes

comes_after : (c d : Segment) → Some c → d.at < c.at → Apart c d → Before d c
comes_after c d some lt (inl e) = absurd (omega arith)
comes_after c d some lt (inr e) = e

comes_before : (c d : Segment) → Some d → c.at ≤ d.at → Apart c d → Before c d
comes_before c d some le (inl e) = e
comes_before c d some le (inr e) = absurd (omega arith)

before_rest : (c d : Segment) (ds : List Segment) → Before c d → Some d → AllByRecursion (Before d) ds → AllByRecursion (Before c) ds
before_rest c d ds le some all = all_through (Before d) (Before c) (λ e h. omega arith) ds all

order_put : (c : Segment) (ds : List Segment) → Some c → AllByRecursion Some ds → AllByRecursion (Apart c) ds → Pairs Before ds → Pairs Before (put_by_address c ds)
order_put c [] some all apart order = (tt, tt)
order_put c (d ∷ ds) some all apart order =
    elim (cases_Bool (ltb d.at c.at)) [
      | inl behind ↦
          let lt : d.at < c.at = grind (arith, nat_tests) in
          let whole : Pairs Before (d ∷ put_by_address c ds) = (all_put (Before d) c ds (comes_after c d some lt apart.0) order.0, order_put c ds some all.1 apart.1 order.1) in
          subst (Pairs Before) (sym (cond-true (ltb d.at c.at) (d ∷ put_by_address c ds) (c ∷ d ∷ ds) behind)) whole
      | inr before ↦
          let le : c.at ≤ d.at = grind (arith, nat_tests) in
          let first = comes_before c d all.0 le apart.0 in
          let whole : Pairs Before (c ∷ d ∷ ds) = ((first, before_rest c d ds first all.0 order.0), order) in
          subst (Pairs Before) (sym (cond-false (ltb d.at c.at) (d ∷ put_by_address c ds) (c ∷ d ∷ ds) before)) whole
    ]

order_sorted : (cs : List Segment) → AllByRecursion Some cs → Pairs Apart cs → Pairs Before (by_address cs)
order_sorted [] all apart = tt
order_sorted (c ∷ cs) all apart = order_put c (by_address cs) all.0 (all_sorted Some cs all.1) (all_sorted (Apart c) cs apart.0) (order_sorted cs all.1 apart.1)

all_pairs : {X : Type 0} (R : X → X → Type 0) (xs : List X) → Pairs R xs → AllPairs R xs
all_pairs R [] h i j d lt within = absurd (omega arith)
all_pairs R (x ∷ xs) h i zero d lt within = absurd (omega arith)
all_pairs R (x ∷ xs) h zero (suc j) d lt within = All-from_recursion (R x) xs h.0 j d (omega arith)
all_pairs R (x ∷ xs) h (suc i) (suc j) d lt within = all_pairs R xs h.1 i j d (omega arith) (omega arith)

-- ---- how many bytes they load

loaded-put : (c : Segment) (ds : List Segment) → loaded (put_by_address c ds) ≡ length c.bytes + loaded ds
loaded-put c [] = sum_by-cons (λ (s : Segment). length s.bytes) c []
loaded-put c (d ∷ ds) =
    let first = sum_by-cons (λ (s : Segment). length s.bytes) c (d ∷ ds) in
    let second = sum_by-cons (λ (s : Segment). length s.bytes) d ds in
    let third = sum_by-cons (λ (s : Segment). length s.bytes) d (put_by_address c ds) in
    let rest = loaded-put c ds in
    elim (cases_Bool (ltb d.at c.at)) [
      | inl behind ↦ ap loaded (cond-true (ltb d.at c.at) (d ∷ put_by_address c ds) (c ∷ d ∷ ds) behind) ∙ omega arith
      | inr before ↦ ap loaded (cond-false (ltb d.at c.at) (d ∷ put_by_address c ds) (c ∷ d ∷ ds) before) ∙ first
    ]

loaded-sorted : (cs : List Segment) → loaded (by_address cs) ≡ loaded cs
loaded-sorted [] = refl
loaded-sorted (c ∷ cs) = loaded-put c (by_address cs) ∙ ap (λ n. length c.bytes + n) (loaded-sorted cs) ∙ sym (sum_by-cons (λ (s : Segment). length s.bytes) c cs)

count_loaded : (cs : List Segment) → AllByRecursion Some cs → length cs ≤ loaded cs
count_loaded [] all = omega arith
count_loaded (c ∷ cs) all =
    let rest = count_loaded cs all.1 in
    let here = all.0 in
    let sum = sum_by-cons (λ (s : Segment). length s.bytes) c cs in omega arith

-- ---- the segments of intervals

module _ (l : Layout) (g : Program) where
  -- what an accepted layout says of an interval
  abbrev pub Lies : Stretch → Type 0
  Lies s = IsInside (placed_spot l (spot_of s)) × AreApart (placed_spot l (spot_of s)) (placed_stack l)

  abbrev Off : Stretch → Stretch → Type 0
  Off s t = AreApart (placed_spot l (spot_of s)) (placed_spot l (spot_of t))

  each_lies : (ss : List Stretch) → AllByRecursion IsInside (map (placed_spot l) (map spot_of ss)) → Pairs AreApart (map (placed_spot l) (map spot_of ss) ++ placed_stack l ∷ []) → AllByRecursion Lies ss
  each_lies [] inside apart = tt
  each_lies (s ∷ ss) inside apart =
      ((inside.0, (all_parts (AreApart (placed_spot l (spot_of s))) (map (placed_spot l) (map spot_of ss)) (placed_stack l ∷ []) apart.0).1.0), each_lies ss inside.1 apart.1)

  off_each : (s : Stretch) (ss : List Stretch) → AllByRecursion (AreApart (placed_spot l (spot_of s))) (map (placed_spot l) (map spot_of ss)) → AllByRecursion (Off s) ss
  off_each s [] all = tt
  off_each s (t ∷ ts) all = (all.0, off_each s ts all.1)

  each_off : (ss : List Stretch) → Pairs AreApart (map (placed_spot l) (map spot_of ss) ++ placed_stack l ∷ []) → Pairs Off ss
  each_off [] apart = tt
  each_off (s ∷ ss) apart = (off_each s ss (all_parts (AreApart (placed_spot l (spot_of s))) (map (placed_spot l) (map spot_of ss)) (placed_stack l ∷ []) apart.0).0, each_off ss apart.1)

  -- the segment of an interval with a byte
  abbrev Lain : Segment → Type 0
  Lain x = (1 ≤ length x.bytes) × (4096 ≤ x.at) × (end_of x ≤ 2 ^ 47) × ((end_of x ≤ l.stack_at) ⊎ (l.stack_at + l.stack_size ≤ x.at))

  size_some : (s : Stretch) → is_some_bytes s ≡ true → 0 < stretch_size s
  size_some s is = grind (arith, nat_tests)

  segment_lain : (s : Stretch) → 0 < l.stack_size → is_some_bytes s ≡ true → AreGood g s → Lies s → Lain (segment_of l g s)
  segment_lain s stack some good lies =
      let len = length-stretch l g s good in
      let size = size_some s some in
      let high = lies.0.high in
      let off : (address_of l s.id + length (stretch_bytes l g s) ≤ l.stack_at) ⊎ (l.stack_at + l.stack_size ≤ address_of l s.id) =
      subst (λ n. (address_of l s.id + n ≤ l.stack_at) ⊎ (l.stack_at + l.stack_size ≤ address_of l s.id)) (sym len) (lies.1 size stack) in
      (omega arith, lies.0.low, omega arith, off)

  all_lain : (ss : List Stretch) → 0 < l.stack_size → AllByRecursion (AreGood g) ss → AllByRecursion Lies ss → AllByRecursion Lain (map (segment_of l g) (filter is_some_bytes ss))
  all_lain [] stack good lies = tt
  all_lain (s ∷ ss) stack good lies =
      let rest = all_lain ss stack good.1 lies.1 in
      elim (cases_Bool (is_some_bytes s)) [
        | inl some ↦ subst (λ ts. AllByRecursion Lain (map (segment_of l g) ts)) (sym (cond-true (is_some_bytes s) (s ∷ filter is_some_bytes ss) (filter is_some_bytes ss) some)) (segment_lain s stack some good.0 lies.0, rest)
        | inr none ↦ subst (λ ts. AllByRecursion Lain (map (segment_of l g) ts)) (sym (cond-false (is_some_bytes s) (s ∷ filter is_some_bytes ss) (filter is_some_bytes ss) none)) rest
      ]

  segments_apart : (s t : Stretch) → is_some_bytes s ≡ true → is_some_bytes t ≡ true → AreGood g s → AreGood g t → Off s t → Apart (segment_of l g s) (segment_of l g t)
  segments_apart s t some_s some_t good_s good_t off =
      subst (λ n. (address_of l s.id + n ≤ address_of l t.id) ⊎ (address_of l t.id + length (stretch_bytes l g t) ≤ address_of l s.id)) (sym (length-stretch l g s good_s))
      (subst (λ n. (address_of l s.id + stretch_size s ≤ address_of l t.id) ⊎ (address_of l t.id + n ≤ address_of l s.id)) (sym (length-stretch l g t good_t))
      (off (size_some s some_s) (size_some t some_t)))

  apart_rest : (s : Stretch) (ss : List Stretch) → is_some_bytes s ≡ true → AreGood g s → AllByRecursion (AreGood g) ss → AllByRecursion (Off s) ss → AllByRecursion (Apart (segment_of l g s)) (map (segment_of l g) (filter is_some_bytes ss))
  apart_rest s [] some good goods offs = tt
  apart_rest s (t ∷ ts) some good goods offs =
      let rest = apart_rest s ts some good goods.1 offs.1 in
      elim (cases_Bool (is_some_bytes t)) [
        | inl some_t ↦ subst (λ us. AllByRecursion (Apart (segment_of l g s)) (map (segment_of l g) us)) (sym (cond-true (is_some_bytes t) (t ∷ filter is_some_bytes ts) (filter is_some_bytes ts) some_t)) (segments_apart s t some some_t good goods.0 offs.0, rest)
        | inr none ↦ subst (λ us. AllByRecursion (Apart (segment_of l g s)) (map (segment_of l g) us)) (sym (cond-false (is_some_bytes t) (t ∷ filter is_some_bytes ts) (filter is_some_bytes ts) none)) rest
      ]

  all_apart : (ss : List Stretch) → AllByRecursion (AreGood g) ss → Pairs Off ss → Pairs Apart (map (segment_of l g) (filter is_some_bytes ss))
  all_apart [] goods offs = tt
  all_apart (s ∷ ss) goods offs =
      let rest = all_apart ss goods.1 offs.1 in
      elim (cases_Bool (is_some_bytes s)) [
        | inl some ↦ subst (λ us. Pairs Apart (map (segment_of l g) us)) (sym (cond-true (is_some_bytes s) (s ∷ filter is_some_bytes ss) (filter is_some_bytes ss) some)) (apart_rest s ss some goods.0 goods.1 offs.0, rest)
        | inr none ↦ subst (λ us. Pairs Apart (map (segment_of l g) us)) (sym (cond-false (is_some_bytes s) (s ∷ filter is_some_bytes ss) (filter is_some_bytes ss) none)) rest
      ]

  loaded_most : (ss : List Stretch) → AllByRecursion (AreGood g) ss → loaded (map (segment_of l g) (filter is_some_bytes ss)) ≤ sum_by stretch_size ss
  loaded_most [] goods = omega arith
  loaded_most (s ∷ ss) goods =
      let rest = loaded_most ss goods.1 in
      let sum = sum_by-cons stretch_size s ss in
      let len = length-stretch l g s goods.0 in
      let here = sum_by-cons (λ (x : Segment). length x.bytes) (segment_of l g s) (map (segment_of l g) (filter is_some_bytes ss)) in
      elim (cases_Bool (is_some_bytes s)) [
        | inl some ↦
            let e = ap (λ us. loaded (map (segment_of l g) us)) (cond-true (is_some_bytes s) (s ∷ filter is_some_bytes ss) (filter is_some_bytes ss) some) in omega arith
        | inr none ↦
            let e = ap (λ us. loaded (map (segment_of l g) us)) (cond-false (is_some_bytes s) (s ∷ filter is_some_bytes ss) (filter is_some_bytes ss) none) in omega arith
      ]

-- ---- the whole

stack_is : (l : Layout) (g : Program) → accepted l (shape_of g) → IsStack l.stack_at l.stack_size
stack_is l g is =
    let spots = map (placed_spot l) (map spot_of g.stretches) in
    let inside = (all_parts IsInside spots (placed_stack l ∷ []) is.inside).1.0 in
    let aligned = (all_parts IsAligned spots (placed_stack l ∷ []) is.aligned).1.0 in
    record {
      at_aligned = aligned;
      at_low = inside.low;
      size_aligned = is.stack_size.aligned;
      size_some = is.stack_size.some;
      size_most = is.stack_size.most;
      end_high = inside.high;
    }

segments_are : (l : Layout) (g : Program) (xs : List Segment) → AllByRecursion HasBytes xs → AllByRecursion (Lain l g) xs → AllByRecursion (IsSegment l.stack_at l.stack_size) xs
segments_are l g [] bytes lain = tt
segments_are l g (x ∷ xs) bytes lain =
    let here = lain.0 in
    (record { bytes = bytes.0; some = here.0; low = here.1; high = here.2; off_stack = here.3 }, segments_are l g xs bytes.1 lain.1)

pub image_rules : (g : Program) (l : Layout) → well_made g → accepted l (shape_of g) → sum_by stretch_size g.stretches + l.stack_size ≤ 2 ^ 24
    → (image g l).entry < 2 ^ 64 → (image g l).entry % 4 ≡ 0 → All HasBytes (image g l).segments → image_ok (image g l)
image_rules g l well is most fits whole bytes =
    let unsorted = map (segment_of l g) (filter is_some_bytes g.stretches) in
    let goods = all_good g well in
    let some = is.stack_size.some in
    let pairs = pairs_from AreApart (map (placed_spot l) (map spot_of g.stretches) ++ placed_stack l ∷ []) is.apart in
    let inside = (all_parts IsInside (map (placed_spot l) (map spot_of g.stretches)) (placed_stack l ∷ []) is.inside).0 in
    let lain = all_lain l g g.stretches (omega arith) goods (each_lies l g g.stretches inside pairs) in
    let somes = all_through (Lain l g) Some (λ x h. h.0) unsorted lain in
    let apart = all_apart l g g.stretches goods (each_off l g g.stretches pairs) in
    let load = loaded_most l g g.stretches goods in
    let sorted_load = loaded-sorted unsorted in
    let count = count_loaded (by_address unsorted) (all_sorted Some unsorted somes) in
    record {
      entry_fits = fits;
      entry_aligned = whole;
      stack = stack_is l g is;
      count = omega arith;
      segments = All-from_recursion (IsSegment l.stack_at l.stack_size) (by_address unsorted) (segments_are l g (by_address unsorted) (recursion_from_All HasBytes (by_address unsorted) bytes) (all_sorted (Lain l g) unsorted lain));
      ascending = all_pairs Before (by_address unsorted) (order_sorted unsorted somes apart);
      loaded = omega arith;
    }
