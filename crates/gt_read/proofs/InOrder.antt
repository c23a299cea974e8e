-- The places of the faults of a message ascend.
use Rattle.std.proofs.Common.{◌≡◌, ℕ, zero, suc, ◌+◌, ◌-◌, ◌<◌, ◌≤◌, Bool, true, false, cond, eqb, List, [], ◌∷◌, ◌++◌, length, map, take, drop, Option, Some, None, Result, Ok, Err, refl, sym, ap, subst, ◌∙◌, append_assoc, arith}
use Rattle.std.specs.Prelude.{◌&&◌, ◌||◌, ◌==◌, not}
use Rattle.std.specs.declared.cmp.Ordering.TheVariants.{Less}
use Rattle.std.specs.List.{AllByRecursion, flat_map}
use Rattle.std.specs.List.Sorted.{IsStrictlySortedBy}
use Rattle.std.specs.Ordering.{nat_cmp}
use Rattle.std.specs.Str.{is_utf8}
use Rattle.std.proofs.lemmas.Bool.{eqb-true}
use Rattle.std.proofs.lemmas.List.{append-nil, length-append, length-drop, length-take-le}
use Rattle.pb_wire.specs.declared.fault.WireReason.{WireReason}
use Rattle.pb_wire.specs.declared.records.Load.{Load}
use Rattle.pb_wire.specs.declared.records.Load.TheVariants as loads
use Rattle.pb_wire.specs.declared.records.Record.{Record}
use Rattle.pb_wire.specs.Reading.{record_of}
use Rattle.pb_wire.specs.Records.{IsPayload}
use Rattle.pb_wire.specs.Varint.{Continues}
use Rattle.gt_model.specs.Schema.{Kind, Id, OptionalId, Text, Blob, Unsigned64, Signed64, Unsigned32, Signed32, Flag, Key, key_kind, Row, field, repeated, message, messages, member, member_message, entries, Rows, none, ◌&◌, table_rows, label_rows, edge_rows, cfg_rows, addr_addr_rows, addr_const_rows, expr_rows, symbol_rows, proxy_rows, data_rows, code_rows, block_rows, interval_rows, section_rows, module_rows, ir_rows}
use Rattle.gt_model.specs.Typed.{AreBytes}
use Rattle.gt_read.specs.declared.fault.FormatFault.{FormatFault}
use Rattle.gt_read.specs.declared.fault.FormatFault.TheVariants.{Utf8}
use Rattle.gt_read.specs.Pieces.{Carried, Number, Bytes, Fixed, Piece, Walk, piece_of, carried_of, put_first, walk_on, walk_within}
use Rattle.gt_read.specs.Kinds.{is_varint_kind, packed}
use Rattle.gt_read.specs.Faults.{text_faults, failed_at, packed_faults, broken_faults, in_run, at_number, message_faults, entry_faults, field_faults, piece_faults, faults, first_of}
use Rattle.gt_read.specs.Places.{place_of}
use Rattle.gt_read.proofs.GoodPieces.{GoodCarried, GoodPiece, ReadIsSpelled, carried_good, dropped}

-- ---- places from one to another, each above the one before

abbrev InOrder : ℕ → ℕ → List FormatFault → Type 0
InOrder lo hi [] = Unit {0}
InOrder lo hi (f ∷ fs) = (lo ≤ place_of f) × (place_of f < hi) × InOrder (place_of f + 1) hi fs

wider : (lo hi lo' hi' : ℕ) (fs : List FormatFault) → lo' ≤ lo → hi ≤ hi' → InOrder lo hi fs → InOrder lo' hi' fs
wider lo hi lo' hi' [] a b h = tt
wider lo hi lo' hi' (f ∷ fs) a b h = (omega (arith, h.0), omega (arith, h.1), wider (place_of f + 1) hi (place_of f + 1) hi' fs (omega arith) b h.2)

behind : (a b c : ℕ) (fs gs : List FormatFault) → a ≤ b → b ≤ c → InOrder a b fs → InOrder b c gs → InOrder a c (fs ++ gs)
behind a b c [] gs ab bc h k = wider b c a c gs ab (omega arith) k
behind a b c (f ∷ fs) gs ab bc h k = (h.0, omega (arith, h.1), behind (place_of f + 1) b c fs gs (omega (arith, h.1)) bc h.2 k)

one_fault : (lo hi : ℕ) (b : Bool) (f : FormatFault) → lo ≤ place_of f → place_of f < hi → InOrder lo hi (cond b [] (f ∷ []))
one_fault lo hi true f a b = tt
one_fault lo hi false f a b = (a, b, tt)

-- ---- a record of a message

-- behind the last byte of a record, as far as its faults are concerned
abbrev end_of : ℕ → Carried → ℕ
end_of place (Number n) = place + 1
end_of place (Bytes start bytes) = start + length bytes
end_of place Fixed = place + 1

abbrev Starts : ℕ → Carried → Type 0
Starts place (Number n) = Unit {0}
Starts place (Bytes start bytes) = place < start
Starts place Fixed = Unit {0}

-- a record whose run begins behind its place, and carries bytes
abbrev Placed : Piece → Type 0
Placed p = Starts p.place p.carried × GoodPiece p

abbrev Ascends : (Piece → List FormatFault) → Type 0
Ascends faults = (p : Piece) → Placed p → InOrder p.place (end_of p.place p.carried) (faults p)

run_ascends : (faults : ℕ → ℕ → List ℕ → List FormatFault) → ((place start : ℕ) (bytes : List ℕ) → place < start → AreBytes bytes → InOrder place (start + length bytes) (faults place start bytes))
    → (place : ℕ) (c : Carried) → Starts place c → GoodCarried c → InOrder place (end_of place c) (in_run faults place c)
run_ascends faults h place (Number n) s g = tt
run_ascends faults h place (Bytes start bytes) s g = h place start bytes s g
run_ascends faults h place Fixed s g = tt

number_ascends : (n : ℕ) (faults : ℕ → ℕ → List ℕ → List FormatFault) → ((place start : ℕ) (bytes : List ℕ) → place < start → AreBytes bytes → InOrder place (start + length bytes) (faults place start bytes))
    → Ascends (at_number n faults)
number_ascends n faults h p s = by (eqb p.number n)
  where
    by : (b : Bool) → InOrder p.place (end_of p.place p.carried) (cond b (in_run faults p.place p.carried) [])
    by true = run_ascends faults h p.place p.carried s.0 s.1
    by false = tt

text_ascends : (k : Kind) (place start : ℕ) (bytes : List ℕ) → place < start → AreBytes bytes → InOrder place (start + length bytes) (text_faults k place bytes)
text_ascends Text place start bytes lt b = one_fault place (start + length bytes) (is_utf8 bytes) (Utf8 place) (omega arith) (omega arith)
text_ascends Id place start bytes lt b = tt
text_ascends OptionalId place start bytes lt b = tt
text_ascends Blob place start bytes lt b = tt
text_ascends Unsigned64 place start bytes lt b = tt
text_ascends Signed64 place start bytes lt b = tt
text_ascends Unsigned32 place start bytes lt b = tt
text_ascends Signed32 place start bytes lt b = tt
text_ascends Flag place start bytes lt b = tt

packed_ascends : (k : Kind) (place start : ℕ) (bytes : List ℕ) → place < start → AreBytes bytes → InOrder place (start + length bytes) (packed_faults k place bytes)
packed_ascends k place start bytes lt b = by (is_varint_kind k)
  where
    failed : (o : Option WireReason) → InOrder place (start + length bytes) (failed_at place o)
    failed None = tt
    failed (Some reason) = (omega arith, omega arith, tt)

    by : (t : Bool) → InOrder place (start + length bytes) (cond t (failed_at place (packed bytes).failed) (text_faults k place bytes))
    by true = failed (packed bytes).failed
    by false = text_ascends k place start bytes lt b

-- ---- the records of a message

varint_long : (bytes : List ℕ) → Continues bytes → 1 ≤ length bytes
varint_long [] c = absurd c
varint_long (b ∷ bs) c = omega arith

run_starts : (bytes : List ℕ) (base : ℕ) (load : Load) (payload : List ℕ) (key : ℕ) → 1 ≤ key → IsPayload load payload (base + key) → Starts base (carried_of bytes base load)
run_starts bytes base (loads.Varint n) payload key one p = tt
run_starts bytes base (loads.Eight n) payload key one p = tt
run_starts bytes base (loads.Run span) payload key one p = omega (arith, p.start)
run_starts bytes base (loads.Four n) payload key one p = tt

taken_most : (n : ℕ) (xs : List ℕ) → length (take n xs) ≤ n
taken_most zero xs = omega arith
taken_most (suc n) [] = omega arith
taken_most (suc n) (x ∷ xs) = omega (arith, taken_most n xs)

run_ends : (bytes : List ℕ) (base : ℕ) (load : Load) (payload : List ℕ) (key size : ℕ) → 1 ≤ key → key + length payload ≤ size → IsPayload load payload (base + key) → end_of base (carried_of bytes base load) ≤ base + size
run_ends bytes base (loads.Varint n) payload key size one within p = omega arith
run_ends bytes base (loads.Eight n) payload key size one within p = omega arith
run_ends bytes base (loads.Run span) payload key size one within p =
    let len : length payload ≡ length p.size + length p.content = ap length p.whole ∙ length-append p.size p.content in
    let most = taken_most span.len (drop (span.start - base) bytes) in
    omega (arith, p.start, p.len, len, most)
run_ends bytes base (loads.Four n) payload key size one within p = omega arith

module _ (read : ReadIsSpelled) (faults : Piece → List FormatFault) (ascend : Ascends faults) where
  abbrev all : Walk → List FormatFault
  all w = flat_map faults w.pieces ++ broken_faults w.broken

  walk_ascends : (n : ℕ) (bytes : List ℕ) (base : ℕ) → AreBytes bytes → InOrder base (base + length bytes) (all (walk_within n bytes base))
  unfolding walk_within
  walk_ascends zero bytes base b = tt
  walk_ascends (suc n) [] base b = tt
  walk_ascends (suc n) (x ∷ xs) base b = at (λ bytes base b. walk_ascends n bytes base b) (record_of (x ∷ xs) base) refl
    where
      at : ((bytes : List ℕ) (base : ℕ) → AreBytes bytes → InOrder base (base + length bytes) (all (walk_within n bytes base))) → (r : Result (Record × ℕ) WireReason) → record_of (x ∷ xs) base ≡ r
          → InOrder base (base + length (x ∷ xs)) (all (walk_on (λ found. put_first (piece_of (x ∷ xs) base found.0) (walk_within n (drop found.1 (x ∷ xs)) (base + found.1))) base r))
      at more (Err reason) e = (omega arith, omega arith, tt)
      at more (Ok found) e =
          let bytes = x ∷ xs in
          let size = found.1 in
          let rest = drop size bytes in
          let w = walk_within n rest (base + size) in
          let known = read.record_ bytes base found.0 size b e in
          let s = known.1 in
          let here : found.0.place ≡ base = known.2 in
          let one = varint_long s.key s.key_is.continues in
          let whole : length s.key + length s.payload ≡ size = sym (length-append s.key s.payload) ∙ sym (ap length s.whole) ∙ length-take-le size bytes known.0 in
          let payload : IsPayload found.0.load s.payload (base + length s.key) = subst (λ place. IsPayload found.0.load s.payload (place + length s.key)) here s.payload_is in
          let c = carried_of bytes base found.0.load in
          let p : Piece = piece_of bytes base found.0 in
          let starts : Starts p.place c = subst (λ place. Starts place c) (sym here) (run_starts bytes base found.0.load s.payload (length s.key) one payload) in
          let good : GoodCarried c = carried_good read bytes base found.0.load s.payload (found.0.place + length s.key) b s.payload_is in
          let ends : end_of p.place c ≤ base + size = subst (λ place. end_of place c ≤ base + size) (sym here) (run_ends bytes base found.0.load s.payload (length s.key) size one (omega (arith, whole)) payload) in
          let first : InOrder base (base + size) (faults p) = wider p.place (end_of p.place c) base (base + size) (faults p) (omega (arith, here)) ends (ascend p (starts, good)) in
          let far : base + size + length rest ≡ base + length bytes = omega (arith, known.0, length-drop size bytes) in
          let others : InOrder (base + size) (base + length bytes) (all w) = subst (λ hi. InOrder (base + size) hi (all w)) far (more rest (base + size) (dropped size bytes b)) in
          subst (InOrder base (base + length bytes)) (sym (append_assoc (faults p) (flat_map faults w.pieces) (broken_faults w.broken)))
          (behind base (base + size) (base + length bytes) (faults p) (all w) (omega arith) (omega (arith, known.0)) first others)

  message_ascends : (bytes : List ℕ) (base : ℕ) → AreBytes bytes → InOrder base (base + length bytes) (message_faults faults bytes base)
  message_ascends bytes base b = walk_ascends (length bytes) bytes base b

-- ---- by the table of messages: the fields of each have numbers of their own

abbrev number_of : Row → ℕ
number_of (field n k) = n
number_of (repeated n k) = n
number_of (message n rows) = n
number_of (messages n rows) = n
number_of (member members n k) = n
number_of (member_message members n rows) = n
number_of (entries n k rows) = n

abbrev has_number : ℕ → Rows → Bool
has_number n none = false
has_number n (row & rows) = (n == number_of row) || has_number n rows

unfoldable mutual
  row_apart : Row → Bool
  row_apart (field n k) = true
  row_apart (repeated n k) = true
  row_apart (message n rows) = rows_apart rows
  row_apart (messages n rows) = rows_apart rows
  row_apart (member members n k) = true
  row_apart (member_message members n rows) = rows_apart rows
  row_apart (entries n k rows) = rows_apart rows

  rows_apart : Rows → Bool
  rows_apart none = true
  rows_apart (row & rows) = not (has_number (number_of row) rows) && (row_apart row && rows_apart rows)

and_true : (a b : Bool) → a && b ≡ true → (a ≡ true) × (b ≡ true)
and_true true b e = (refl, e)
and_true false b e = absurd cc

or_false : (a b : Bool) → a || b ≡ false → (a ≡ false) × (b ≡ false)
or_false true b e = absurd cc
or_false false b e = (refl, e)

not_true : (a : Bool) → not a ≡ true → a ≡ false
not_true true e = absurd cc
not_true false e = refl

elsewhere : (n : ℕ) (faults : ℕ → ℕ → List ℕ → List FormatFault) (p : Piece) → eqb p.number n ≡ false → at_number n faults p ≡ []
elsewhere n faults p e = ap (λ b. cond b (in_run faults p.place p.carried) []) e

row_elsewhere : (row : Row) (p : Piece) → eqb p.number (number_of row) ≡ false → field_faults row p ≡ []
unfolding piece_faults
row_elsewhere (field n k) p e = elsewhere n (λ place start bytes. text_faults k place bytes) p e
row_elsewhere (repeated n k) p e = elsewhere n (λ place start bytes. packed_faults k place bytes) p e
row_elsewhere (message n rows) p e = elsewhere n (λ place start bytes. message_faults (λ q. piece_faults rows q) bytes start) p e
row_elsewhere (messages n rows) p e = elsewhere n (λ place start bytes. message_faults (λ q. piece_faults rows q) bytes start) p e
row_elsewhere (member members n k) p e = elsewhere n (λ place start bytes. text_faults k place bytes) p e
row_elsewhere (member_message members n rows) p e = elsewhere n (λ place start bytes. message_faults (λ q. piece_faults rows q) bytes start) p e
row_elsewhere (entries n k rows) p e = elsewhere n (λ place start bytes. message_faults (entry_faults k (λ inner base. message_faults (λ q. piece_faults rows q) inner base)) bytes start) p e

rows_elsewhere : (rows : Rows) (p : Piece) → has_number p.number rows ≡ false → piece_faults rows p ≡ []
unfolding piece_faults
rows_elsewhere none p e = refl
rows_elsewhere (row & rows) p e = let parts = or_false _ _ e in λ i. row_elsewhere row p parts.0 i ++ rows_elsewhere rows p parts.1 i

entry_ascends : (k : Key) (faults : List ℕ → ℕ → List FormatFault) → ((place start : ℕ) (bytes : List ℕ) → place < start → AreBytes bytes → InOrder place (start + length bytes) (faults bytes start)) → Ascends (entry_faults k faults)
entry_ascends k faults h p s = by (eqb p.number 1) refl
  where
    key : InOrder p.place (end_of p.place p.carried) (at_number 1 (λ place start bytes. text_faults (key_kind k) place bytes) p)
    key = number_ascends 1 (λ place start bytes. text_faults (key_kind k) place bytes) (text_ascends (key_kind k)) p s

    second : InOrder p.place (end_of p.place p.carried) (at_number 2 (λ place start bytes. faults bytes start) p)
    second = number_ascends 2 (λ place start bytes. faults bytes start) h p s

    by : (b : Bool) → eqb p.number 1 ≡ b → InOrder p.place (end_of p.place p.carried) (entry_faults k faults p)
    by true e =
        let one : p.number ≡ 1 = eqb-true _ _ e in
        let none : at_number 2 (λ place start bytes. faults bytes start) p ≡ [] = elsewhere 2 (λ place start bytes. faults bytes start) p (ap (λ n. eqb n 2) one) in
        subst (InOrder p.place (end_of p.place p.carried)) (sym (append-nil _) ∙ ap (λ (l : List FormatFault). at_number 1 (λ place start bytes. text_faults (key_kind k) place bytes) p ++ l) (sym none)) key
    by false e =
        let none : at_number 1 (λ place start bytes. text_faults (key_kind k) place bytes) p ≡ [] = elsewhere 1 (λ place start bytes. text_faults (key_kind k) place bytes) p e in
        subst (InOrder p.place (end_of p.place p.carried)) (ap (λ (l : List FormatFault). l ++ at_number 2 (λ place start bytes. faults bytes start) p) (sym none)) second

-- of the fields of a message one at most has a record
one_of : (row : Row) (rows : Rows) → has_number (number_of row) rows ≡ false → (p : Piece) → InOrder p.place (end_of p.place p.carried) (field_faults row p) → InOrder p.place (end_of p.place p.carried) (piece_faults rows p)
    → InOrder p.place (end_of p.place p.carried) (field_faults row p ++ piece_faults rows p)
one_of row rows apart p first others = by (eqb p.number (number_of row)) refl
  where
    by : (b : Bool) → eqb p.number (number_of row) ≡ b → InOrder p.place (end_of p.place p.carried) (field_faults row p ++ piece_faults rows p)
    by true e =
        let none : piece_faults rows p ≡ [] = rows_elsewhere rows p (ap (λ n. has_number n rows) (eqb-true _ _ e) ∙ apart) in
        subst (InOrder p.place (end_of p.place p.carried)) (sym (append-nil (field_faults row p)) ∙ ap (λ (l : List FormatFault). field_faults row p ++ l) (sym none)) first
    by false e = subst (InOrder p.place (end_of p.place p.carried)) (ap (λ (l : List FormatFault). l ++ piece_faults rows p) (sym (row_elsewhere row p e))) others

module _ (read : ReadIsSpelled) where
  inside : (faults : Piece → List FormatFault) → Ascends faults → (place start : ℕ) (bytes : List ℕ) → place < start → AreBytes bytes → InOrder place (start + length bytes) (message_faults faults bytes start)
  inside faults ascend place start bytes lt b = wider start (start + length bytes) place (start + length bytes) (message_faults faults bytes start) (omega arith) (omega arith) (message_ascends read faults ascend bytes start b)

  mutual
    unfolding piece_faults rows_apart

    row_ascends : (row : Row) → row_apart row ≡ true → (p : Piece) → Placed p → InOrder p.place (end_of p.place p.carried) (field_faults row p)
    row_ascends (field n k) apart p s = number_ascends n (λ place start bytes. text_faults k place bytes) (text_ascends k) p s
    row_ascends (repeated n k) apart p s = number_ascends n (λ place start bytes. packed_faults k place bytes) (packed_ascends k) p s
    row_ascends (message n rows) apart p s = number_ascends n (λ place start bytes. message_faults (λ q. piece_faults rows q) bytes start) (inside (λ q. piece_faults rows q) (λ q h. rows_ascend rows apart q h)) p s
    row_ascends (messages n rows) apart p s = number_ascends n (λ place start bytes. message_faults (λ q. piece_faults rows q) bytes start) (inside (λ q. piece_faults rows q) (λ q h. rows_ascend rows apart q h)) p s
    row_ascends (member members n k) apart p s = number_ascends n (λ place start bytes. text_faults k place bytes) (text_ascends k) p s
    row_ascends (member_message members n rows) apart p s = number_ascends n (λ place start bytes. message_faults (λ q. piece_faults rows q) bytes start) (inside (λ q. piece_faults rows q) (λ q h. rows_ascend rows apart q h)) p s
    row_ascends (entries n k rows) apart p s =
        number_ascends n (λ place start bytes. message_faults (entry_faults k (λ inner base. message_faults (λ q. piece_faults rows q) inner base)) bytes start)
        (inside (entry_faults k (λ inner base. message_faults (λ q. piece_faults rows q) inner base)) (entry_ascends k (λ inner base. message_faults (λ q. piece_faults rows q) inner base) (inside (λ q. piece_faults rows q) (λ q h. rows_ascend rows apart q h)))) p s

    rows_ascend : (rows : Rows) → rows_apart rows ≡ true → (p : Piece) → Placed p → InOrder p.place (end_of p.place p.carried) (piece_faults rows p)
    rows_ascend none apart p s = tt
    rows_ascend (row & rows) apart p s =
        let parts = and_true (not (has_number (number_of row) rows)) _ apart in
        let both = and_true (row_apart row) _ parts.1 in
        one_of row rows (not_true _ parts.0) p (row_ascends row both.0 p s) (rows_ascend rows both.1 p s)

ir_apart : rows_apart ir_rows ≡ true
unfolding rows_apart table_rows label_rows edge_rows cfg_rows addr_addr_rows addr_const_rows expr_rows symbol_rows proxy_rows data_rows code_rows block_rows interval_rows section_rows module_rows ir_rows
ir_apart = refl

-- ---- the faults of a body

less : (m n : ℕ) → m < n → nat_cmp m n ≡ Less
less m n lt = grind arith

sorted : (lo hi : ℕ) (fs : List FormatFault) → InOrder lo hi fs → IsStrictlySortedBy nat_cmp (map place_of fs)
unfolding IsStrictlySortedBy
sorted lo hi [] h = tt
sorted lo hi (f ∷ fs) h = (below fs (place_of f + 1) h.2 (omega arith), sorted (place_of f + 1) hi fs h.2)
  where
    below : (gs : List FormatFault) (from : ℕ) → InOrder from hi gs → place_of f < from → AllByRecursion (λ n. nat_cmp (place_of f) n ≡ Less) (map place_of gs)
    below [] from h lt = tt
    below (g ∷ gs) from h lt = (less (place_of f) (place_of g) (omega (arith, h.0)), below gs (place_of g + 1) h.2 (omega (arith, h.0)))

first_least : (lo hi : ℕ) (fs : List FormatFault) (f : FormatFault) → InOrder lo hi fs → first_of fs ≡ Some f → AllByRecursion (λ g. place_of f ≤ place_of g) fs
first_least lo hi [] f h e = absurd cc
first_least lo hi (g ∷ gs) f h e =
    let same : g ≡ f = cc in
    subst (λ x. AllByRecursion (λ y. place_of x ≤ place_of y) (g ∷ gs)) same (omega arith, above gs (place_of g + 1) h.2 (omega arith))
  where
    above : (ys : List FormatFault) (from : ℕ) → InOrder from hi ys → place_of g ≤ from → AllByRecursion (λ y. place_of g ≤ place_of y) ys
    above [] from h le = tt
    above (y ∷ ys) from h le = (omega (arith, h.0), above ys (place_of y + 1) h.2 (omega (arith, h.0)))

module _ (read : ReadIsSpelled) (body : List ℕ) (base : ℕ) (b : AreBytes body) where
  body_in_order : InOrder base (base + length body) (faults ir_rows body base)
  body_in_order = message_ascends read (piece_faults ir_rows) (rows_ascend read ir_rows ir_apart) body base b

  pub places_ascend : IsStrictlySortedBy nat_cmp (map place_of (faults ir_rows body base))
  places_ascend = sorted base (base + length body) (faults ir_rows body base) body_in_order

  pub first_is_least : (f : FormatFault) → first_of (faults ir_rows body base) ≡ Some f → AllByRecursion (λ g. place_of f ≤ place_of g) (faults ir_rows body base)
  first_is_least f e = first_least base (base + length body) (faults ir_rows body base) f body_in_order e
