-- The segments of an image lie as they should.
use Rattle.std.proofs.Common.{◌≡◌, ◌⊎◌, ◌+◌, ◌^◌, ◌%◌, ◌<◌, ◌≤◌, true, ltb, List, [], ◌∷◌, ◌++◌, length, filter, map, All, refl, sym, ap, subst, ◌∙◌, inl, inr, arith, sum_by}
use Rattle.std.specs.List.{AllByRecursion}
use Rattle.std.proofs.lemmas.Bool.{cond-true, cond-false, cases_Bool}
use Rattle.std.proofs.lemmas.Bool.Decides.{nat_tests}
use Rattle.std.proofs.lemmas.List.Elements.{All-from_recursion, recursion_from_All}
use Rattle.std.proofs.lemmas.List.Sums.{sum_by-cons}
use Rattle.asm_modules.specs.declared.module.AsmInterval.{AsmInterval}
use Rattle.asm_modules.specs.declared.module.AsmLabel.{AsmLabel}
use Rattle.asm_modules.specs.declared.module.AsmModule.{AsmModule}
use Rattle.asm_modules.specs.Valid.{interval_size}
use Rattle.bare_image.specs.declared.image.Segment.{Segment}
use Rattle.bare_image.specs.Valid.{end_of, image_ok, loaded, IsSegment, IsStack}
use Rattle.sym_expr.specs.declared.layout.Layout.{Layout}
use Rattle.sym_expr.specs.Images.{by_address, put_by_address}
use Rattle.sym_expr.specs.Layouts.{accepted, address_of, AreApart, IsAligned, IsInside, placed as placed_spot, placed_stack}
use Rattle.asm_link.specs.Linked.{asm_image, is_some_bytes, items_bytes, segment_of}
use Rattle.asm_link.specs.Ready.{HasBytes}
use Rattle.asm_link.specs.Shaping.{shape_asm, spot_of}
use Rattle.asm_link.proofs.ItemBytes.{length-items}
use Rattle.asm_link.proofs.Lists.{Pairs, all_pairs, all_parts, all_through, pairs_from}

-- ---- sorting keeps what all have

all_put : (P : Segment → Type 0) (c : Segment) (ds : List Segment) → P c → AllByRecursion P ds → AllByRecursion P (put_by_address c ds)
all_put P c [] one all = (one, tt)
all_put P c (d ∷ ds) one all =
    elim (cases_Bool (ltb d.at c.at)) [
      | inl behind ↦ subst (AllByRecursion P) (sym (cond-true (ltb d.at c.at) (d ∷ put_by_address c ds) (c ∷ d ∷ ds) behind)) (all.0, all_put P c ds one all.1)
      | inr before ↦ subst (AllByRecursion P) (sym (cond-false (ltb d.at c.at) (d ∷ put_by_address c ds) (c ∷ d ∷ ds) before)) (one, all)
    ]

all_sorted : (P : Segment → Type 0) (cs : List Segment) → AllByRecursion P cs → AllByRecursion P (by_address cs)
all_sorted P [] all = tt
all_sorted P (c ∷ cs) all = all_put P c (by_address cs) all.0 (all_sorted P cs all.1)

-- ---- segments apart are in order once they are sorted

abbrev Before : Segment → Segment → Type 0
Before s later = end_of s ≤ later.at

abbrev Apart : Segment → Segment → Type 0
Apart s t = (end_of s ≤ t.at) ⊎ (end_of t ≤ s.at)

abbrev Some : Segment → Type 0
Some s = 1 ≤ length s.bytes

comes_after : (c d : Segment) → Some c → d.at < c.at → Apart c d → Before d c
comes_after c d some lt (inl e) = absurd (omega arith)
comes_after c d some lt (inr e) = e

comes_before : (c d : Segment) → Some d → c.at ≤ d.at → Apart c d → Before c d
comes_before c d some le (inl e) = e
comes_before c d some le (inr e) = absurd (omega arith)

before_rest : (c d : Segment) (ds : List Segment) → Before c d → Some d → AllByRecursion (Before d) ds → AllByRecursion (Before c) ds
before_rest c d ds le some all = all_through (Before d) (Before c) (λ e h. omega arith) ds all

order_put : (c : Segment) (ds : List Segment) → Some c → AllByRecursion Some ds → AllByRecursion (Apart c) ds → Pairs Before ds → Pairs Before (put_by_address c ds)
order_put c [] some all apart order = (tt, tt)
order_put c (d ∷ ds) some all apart order =
    elim (cases_Bool (ltb d.at c.at)) [
      | inl behind ↦
          let lt : d.at < c.at = grind (arith, nat_tests) in
          let whole : Pairs Before (d ∷ put_by_address c ds) = (all_put (Before d) c ds (comes_after c d some lt apart.0) order.0, order_put c ds some all.1 apart.1 order.1) in
          subst (Pairs Before) (sym (cond-true (ltb d.at c.at) (d ∷ put_by_address c ds) (c ∷ d ∷ ds) behind)) whole
      | inr before ↦
          let le : c.at ≤ d.at = grind (arith, nat_tests) in
          let first = comes_before c d all.0 le apart.0 in
          let whole : Pairs Before (c ∷ d ∷ ds) = ((first, before_rest c d ds first all.0 order.0), order) in
          subst (Pairs Before) (sym (cond-false (ltb d.at c.at) (d ∷ put_by_address c ds) (c ∷ d ∷ ds) before)) whole
    ]

order_sorted : (cs : List Segment) → AllByRecursion Some cs → Pairs Apart cs → Pairs Before (by_address cs)
order_sorted [] all apart = tt
order_sorted (c ∷ cs) all apart = order_put c (by_address cs) all.0 (all_sorted Some cs all.1) (all_sorted (Apart c) cs apart.0) (order_sorted cs all.1 apart.1)

-- ---- how many bytes they load

loaded-put : (c : Segment) (ds : List Segment) → loaded (put_by_address c ds) ≡ length c.bytes + loaded ds
loaded-put c [] = sum_by-cons (λ (s : Segment). length s.bytes) c []
loaded-put c (d ∷ ds) =
    let first = sum_by-cons (λ (s : Segment). length s.bytes) c (d ∷ ds) in
    let second = sum_by-cons (λ (s : Segment). length s.bytes) d ds in
    let third = sum_by-cons (λ (s : Segment). length s.bytes) d (put_by_address c ds) in
    let rest = loaded-put c ds in
    elim (cases_Bool (ltb d.at c.at)) [
      | inl behind ↦ ap loaded (cond-true (ltb d.at c.at) (d ∷ put_by_address c ds) (c ∷ d ∷ ds) behind) ∙ omega arith
      | inr before ↦ ap loaded (cond-false (ltb d.at c.at) (d ∷ put_by_address c ds) (c ∷ d ∷ ds) before) ∙ first
    ]

loaded-sorted : (cs : List Segment) → loaded (by_address cs) ≡ loaded cs
loaded-sorted [] = refl
loaded-sorted (c ∷ cs) = loaded-put c (by_address cs) ∙ ap (λ n. length c.bytes + n) (loaded-sorted cs) ∙ sym (sum_by-cons (λ (s : Segment). length s.bytes) c cs)

count_loaded : (cs : List Segment) → AllByRecursion Some cs → length cs ≤ loaded cs
count_loaded [] all = omega arith
count_loaded (c ∷ cs) all =
    let rest = count_loaded cs all.1 in
    let here = all.0 in
    let sum = sum_by-cons (λ (s : Segment). length s.bytes) c cs in omega arith

-- ---- the segments of intervals

module _ (l : Layout) (labels : List AsmLabel) where
  -- what an accepted layout says of an interval
  abbrev Lies : AsmInterval → Type 0
  Lies i = IsInside (placed_spot l (spot_of i)) × AreApart (placed_spot l (spot_of i)) (placed_stack l)

  abbrev Off : AsmInterval → AsmInterval → Type 0
  Off i j = AreApart (placed_spot l (spot_of i)) (placed_spot l (spot_of j))

  each_lies : (is : List AsmInterval) → AllByRecursion IsInside (map (placed_spot l) (map spot_of is)) → Pairs AreApart (map (placed_spot l) (map spot_of is) ++ placed_stack l ∷ []) → AllByRecursion Lies is
  each_lies [] inside apart = tt
  each_lies (i ∷ is) inside apart =
      ((inside.0, (all_parts (AreApart (placed_spot l (spot_of i))) (map (placed_spot l) (map spot_of is)) (placed_stack l ∷ []) apart.0).1.0), each_lies is inside.1 apart.1)

  off_each : (i : AsmInterval) (is : List AsmInterval) → AllByRecursion (AreApart (placed_spot l (spot_of i))) (map (placed_spot l) (map spot_of is)) → AllByRecursion (Off i) is
  off_each i [] all = tt
  off_each i (j ∷ js) all = (all.0, off_each i js all.1)

  each_off : (is : List AsmInterval) → Pairs AreApart (map (placed_spot l) (map spot_of is) ++ placed_stack l ∷ []) → Pairs Off is
  each_off [] apart = tt
  each_off (i ∷ is) apart = (off_each i is (all_parts (AreApart (placed_spot l (spot_of i))) (map (placed_spot l) (map spot_of is)) (placed_stack l ∷ []) apart.0).0, each_off is apart.1)

  -- the segment of an interval with a byte
  abbrev Lain : Segment → Type 0
  Lain x = (1 ≤ length x.bytes) × (4096 ≤ x.at) × (end_of x ≤ 2 ^ 47) × ((end_of x ≤ l.stack_at) ⊎ (l.stack_at + l.stack_size ≤ x.at))

  size_some : (i : AsmInterval) → is_some_bytes i ≡ true → 0 < interval_size i
  size_some i is = grind (arith, nat_tests)

  -- how many bytes a segment has
  length-segment : (i : AsmInterval) → length (items_bytes l labels (address_of l i.uuid) i.items) ≡ interval_size i
  length-segment i = length-items l labels (address_of l i.uuid) i.items

  segment_lain : (i : AsmInterval) → 0 < l.stack_size → is_some_bytes i ≡ true → Lies i → Lain (segment_of l labels i)
  segment_lain i stack some lies =
      let len = length-segment i in
      let size = size_some i some in
      let high = lies.0.high in
      let off : (address_of l i.uuid + length (items_bytes l labels (address_of l i.uuid) i.items) ≤ l.stack_at) ⊎ (l.stack_at + l.stack_size ≤ address_of l i.uuid) =
      subst (λ n. (address_of l i.uuid + n ≤ l.stack_at) ⊎ (l.stack_at + l.stack_size ≤ address_of l i.uuid)) (sym len) (lies.1 size stack) in
      (omega arith, lies.0.low, omega arith, off)

  all_lain : (is : List AsmInterval) → 0 < l.stack_size → AllByRecursion Lies is → AllByRecursion Lain (map (segment_of l labels) (filter is_some_bytes is))
  all_lain [] stack lies = tt
  all_lain (i ∷ is) stack lies =
      let rest = all_lain is stack lies.1 in
      elim (cases_Bool (is_some_bytes i)) [
        | inl some ↦ subst (λ js. AllByRecursion Lain (map (segment_of l labels) js)) (sym (cond-true (is_some_bytes i) (i ∷ filter is_some_bytes is) (filter is_some_bytes is) some)) (segment_lain i stack some lies.0, rest)
        | inr none ↦ subst (λ js. AllByRecursion Lain (map (segment_of l labels) js)) (sym (cond-false (is_some_bytes i) (i ∷ filter is_some_bytes is) (filter is_some_bytes is) none)) rest
      ]

  segments_apart : (i j : AsmInterval) → is_some_bytes i ≡ true → is_some_bytes j ≡ true → Off i j → Apart (segment_of l labels i) (segment_of l labels j)
  segments_apart i j some_i some_j off =
      subst (λ n. (address_of l i.uuid + n ≤ address_of l j.uuid) ⊎ (address_of l j.uuid + length (items_bytes l labels (address_of l j.uuid) j.items) ≤ address_of l i.uuid)) (sym (length-segment i))
      (subst (λ n. (address_of l i.uuid + interval_size i ≤ address_of l j.uuid) ⊎ (address_of l j.uuid + n ≤ address_of l i.uuid)) (sym (length-segment j))
      (off (size_some i some_i) (size_some j some_j)))

  apart_rest : (i : AsmInterval) (is : List AsmInterval) → is_some_bytes i ≡ true → AllByRecursion (Off i) is → AllByRecursion (Apart (segment_of l labels i)) (map (segment_of l labels) (filter is_some_bytes is))
  apart_rest i [] some offs = tt
  apart_rest i (j ∷ js) some offs =
      let rest = apart_rest i js some offs.1 in
      elim (cases_Bool (is_some_bytes j)) [
        | inl some_j ↦ subst (λ us. AllByRecursion (Apart (segment_of l labels i)) (map (segment_of l labels) us)) (sym (cond-true (is_some_bytes j) (j ∷ filter is_some_bytes js) (filter is_some_bytes js) some_j)) (segments_apart i j some some_j offs.0, rest)
        | inr none ↦ subst (λ us. AllByRecursion (Apart (segment_of l labels i)) (map (segment_of l labels) us)) (sym (cond-false (is_some_bytes j) (j ∷ filter is_some_bytes js) (filter is_some_bytes js) none)) rest
      ]

  all_apart : (is : List AsmInterval) → Pairs Off is → Pairs Apart (map (segment_of l labels) (filter is_some_bytes is))
  all_apart [] offs = tt
  all_apart (i ∷ is) offs =
      let rest = all_apart is offs.1 in
      elim (cases_Bool (is_some_bytes i)) [
        | inl some ↦ subst (λ us. Pairs Apart (map (segment_of l labels) us)) (sym (cond-true (is_some_bytes i) (i ∷ filter is_some_bytes is) (filter is_some_bytes is) some)) (apart_rest i is some offs.0, rest)
        | inr none ↦ subst (λ us. Pairs Apart (map (segment_of l labels) us)) (sym (cond-false (is_some_bytes i) (i ∷ filter is_some_bytes is) (filter is_some_bytes is) none)) rest
      ]

  loaded_most : (is : List AsmInterval) → loaded (map (segment_of l labels) (filter is_some_bytes is)) ≤ sum_by interval_size is
  loaded_most [] = omega arith
  loaded_most (i ∷ is) =
      let rest = loaded_most is in
      let sum = sum_by-cons interval_size i is in
      let len = length-segment i in
      let here = sum_by-cons (λ (x : Segment). length x.bytes) (segment_of l labels i) (map (segment_of l labels) (filter is_some_bytes is)) in
      elim (cases_Bool (is_some_bytes i)) [
        | inl some ↦
            let e = ap (λ us. loaded (map (segment_of l labels) us)) (cond-true (is_some_bytes i) (i ∷ filter is_some_bytes is) (filter is_some_bytes is) some) in omega arith
        | inr none ↦
            let e = ap (λ us. loaded (map (segment_of l labels) us)) (cond-false (is_some_bytes i) (i ∷ filter is_some_bytes is) (filter is_some_bytes is) none) in omega arith
      ]

-- ---- the whole

stack_is : (l : Layout) (m : AsmModule) → accepted l (shape_asm m) → IsStack l.stack_at l.stack_size
stack_is l m is =
    let spots = map (placed_spot l) (map spot_of m.intervals) in
    let inside = (all_parts IsInside spots (placed_stack l ∷ []) is.inside).1.0 in
    let aligned = (all_parts IsAligned spots (placed_stack l ∷ []) is.aligned).1.0 in
    record {
      at_aligned = aligned;
      at_low = inside.low;
      size_aligned = is.stack_size.aligned;
      size_some = is.stack_size.some;
      size_most = is.stack_size.most;
      end_high = inside.high;
    }

segments_are : (l : Layout) (labels : List AsmLabel) (xs : List Segment) → AllByRecursion HasBytes xs → AllByRecursion (Lain l labels) xs → AllByRecursion (IsSegment l.stack_at l.stack_size) xs
segments_are l labels [] bytes lain = tt
segments_are l labels (x ∷ xs) bytes lain =
    let here = lain.0 in
    (record { bytes = bytes.0; some = here.0; low = here.1; high = here.2; off_stack = here.3 }, segments_are l labels xs bytes.1 lain.1)

pub image_rules : (m : AsmModule) (l : Layout) → accepted l (shape_asm m) → sum_by interval_size m.intervals + l.stack_size ≤ 2 ^ 24
    → (asm_image m l).entry < 2 ^ 64 → (asm_image m l).entry % 4 ≡ 0 → All HasBytes (asm_image m l).segments → image_ok (asm_image m l)
image_rules m l is most fits whole bytes =
    let labels = m.labels in
    let unsorted = map (segment_of l labels) (filter is_some_bytes m.intervals) in
    let some = is.stack_size.some in
    let pairs = pairs_from AreApart (map (placed_spot l) (map spot_of m.intervals) ++ placed_stack l ∷ []) is.apart in
    let inside = (all_parts IsInside (map (placed_spot l) (map spot_of m.intervals)) (placed_stack l ∷ []) is.inside).0 in
    let lain = all_lain l labels m.intervals (omega arith) (each_lies l labels m.intervals inside pairs) in
    let somes = all_through (Lain l labels) Some (λ x h. h.0) unsorted lain in
    let apart = all_apart l labels m.intervals (each_off l labels m.intervals pairs) in
    let load = loaded_most l labels m.intervals in
    let sorted_load = loaded-sorted unsorted in
    let count = count_loaded (by_address unsorted) (all_sorted Some unsorted somes) in
    record {
      entry_fits = fits;
      entry_aligned = whole;
      stack = stack_is l m is;
      count = omega arith;
      segments = All-from_recursion (IsSegment l.stack_at l.stack_size) (by_address unsorted) (segments_are l labels (by_address unsorted) (recursion_from_All HasBytes (by_address unsorted) bytes) (all_sorted (Lain l labels) unsorted lain));
      ascending = all_pairs Before (by_address unsorted) (order_sorted unsorted somes apart);
      loaded = omega arith;
    }
