-- The walk over bytes as the list of their records.
use Rattle.std.proofs.Common.{◌≡◌, ℕ, ◌+◌, ◌-◌, ◌≤◌, List, [], ◌∷◌, ◌++◌, length, map, take, drop, Some, None, refl, sym, ap, subst, ◌∙◌, append_assoc, arith}
use Rattle.std.proofs.lemmas.List.{append-nil, drop_at, drop-drop, length-append}
use Rattle.pb_wire.specs.declared.fault.WireFault.{WireFault}
use Rattle.pb_wire.specs.declared.records.Load.{Load}
use Rattle.pb_wire.specs.declared.records.Load.TheVariants as loads
use Rattle.pb_wire.specs.declared.records.Record.{Record}
use Rattle.pb_wire.specs.declared.records.Span.{Span}
use Rattle.pb_wire.specs.Ahead.{Ahead}
use Rattle.pb_wire.specs.Records.{records, IsPayload, Takes, content_of}
use Rattle.pb_wire.specs.Faults.{wire_fault}
use Rattle.gt_read.specs.Pieces.{Bytes, piece_of, Walk, walk, pieces, broken}
use Rattle.gt_read.proofs.Walks.{OneRecord, walk_takes, walk_fails, walk-nil}
use Rattle.gt_read.specs.Drafts.Taken.{behind}

-- the run of a record among the bytes behind others is its run among all of them
content_behind : (base : ℕ) (before rest : List ℕ) (span : Span) → base + length before ≤ span.start → content_of rest (base + length before) span ≡ content_of (before ++ rest) base span
content_behind base before rest span from =
    let far : length before + (span.start - (base + length before)) ≡ span.start - base = omega (arith, from) in
    ap (λ (l : List ℕ). take span.len (drop (span.start - (base + length before)) l)) (sym (drop_at before rest (length before) refl))
    ∙ ap (take span.len) (drop-drop (span.start - (base + length before)) (length before) (before ++ rest) ∙ ap (λ n. drop n (before ++ rest)) far)

piece_behind : (base : ℕ) (before rest : List ℕ) (r : Record) (load : Load) (payload : List ℕ) (at : ℕ) → IsPayload load payload at → base + length before ≤ at
    → piece_of rest (base + length before) (record r { load = load }) ≡ piece_of (before ++ rest) base (record r { load = load })
piece_behind base before rest r (loads.Varint n) payload at p le = refl
piece_behind base before rest r (loads.Eight n) payload at p le = refl
piece_behind base before rest r (loads.Run span) payload at p le =
    ap (λ (c : List ℕ). record { place = r.place; number = r.field; carried = Bytes span.start c }) (content_behind base before rest span (omega (arith, p.start, le)))
piece_behind base before rest r (loads.Four n) payload at p le = refl

module _ (one : OneRecord) where
  over : (base : ℕ) (before middle after : List ℕ) (list : List Record) → records middle (base + length before) list
      → walk (middle ++ after) (base + length before) ≡ behind (map (piece_of (before ++ (middle ++ after)) base) list) (walk after (base + length before + length middle))
  over base before middle after [] h =
      let same : base + length before ≡ base + length before + length middle = omega (arith, ap length h) in
      ap (λ (m : List ℕ). walk (m ++ after) (base + length before)) h ∙ ap (walk after) same
  over base before middle after (r ∷ rs) h =
      let text = h.0 in
      let rest = h.1 in
      let place = base + length before in
      let split : middle ++ after ≡ text ++ (rest ++ after) = ap (λ (m : List ℕ). m ++ after) h.2 ∙ append_assoc text rest after in
      let old : Ahead = record { place = place; bytes = middle ++ after } in
      let new : Ahead = record { place = place + length text; bytes = rest ++ after } in
      let t : Takes r old new = record { text = text; spelled = h.3; here = h.4; split = split; behind = refl } in
      let p = piece_of (before ++ (middle ++ after)) base r in
      let first : piece_of (middle ++ after) place r ≡ p = piece_behind base before (middle ++ after) r r.load h.3.payload (r.place + length h.3.key) h.3.payload_is (omega (arith, h.4)) in
      let longer : base + length (before ++ text) ≡ place + length text = omega (arith, length-append before text) in
      let whole : (before ++ text) ++ (rest ++ after) ≡ before ++ (middle ++ after) = append_assoc before text (rest ++ after) ∙ ap (λ (l : List ℕ). before ++ l) (sym split) in
      let end : base + length (before ++ text) + length rest ≡ place + length middle = omega (arith, length-append before text, ap length h.2, length-append text rest) in
      let more = over base (before ++ text) rest after rs (subst (λ n. records rest n rs) (sym longer) h.5) in
      let others : walk (rest ++ after) (place + length text) ≡ behind (map (piece_of (before ++ (middle ++ after)) base) rs) (walk after (place + length middle)) =
      ap (walk (rest ++ after)) (sym longer) ∙ more ∙ (λ i. behind (map (piece_of (whole i) base) rs) (walk after (end i))) in
      walk_takes one r old new t ∙ (λ i. record { pieces = first i ∷ (others i).pieces; broken = (others i).broken })

  whole_walk : (bytes : List ℕ) (base : ℕ) (front rest : List ℕ) (list : List Record) → bytes ≡ front ++ rest → records front base list
      → walk bytes base ≡ behind (map (piece_of bytes base) list) (walk rest (base + length front))
  whole_walk bytes base front rest list e h =
      let here : base ≡ base + 0 = omega arith in
      let far : base + 0 + length front ≡ base + length front = omega arith in
      ap (λ (b : List ℕ). walk b base) e ∙ ap (walk (front ++ rest)) here ∙ over base [] front rest list (subst (λ n. records front n list) here h)
      ∙ (λ i. behind (map (piece_of (e' i) base) list) (walk rest (far i)))
    where
      e' : front ++ rest ≡ bytes
      e' = sym e

  pub of_list : (bytes : List ℕ) (base : ℕ) (list : List Record) → records bytes base list → (pieces bytes base ≡ map (piece_of bytes base) list) × (broken bytes base ≡ None)
  of_list bytes base list h =
      let all : walk bytes base ≡ behind (map (piece_of bytes base) list) (record { pieces = []; broken = None }) =
      whole_walk bytes base bytes [] list (sym (append-nil bytes)) h ∙ ap (behind (map (piece_of bytes base) list)) (walk-nil (base + length bytes)) in
      (ap (λ (w : Walk). w.pieces) all ∙ append-nil (map (piece_of bytes base) list), ap (λ (w : Walk). w.broken) all)

  pub of_fault : (bytes : List ℕ) (base : ℕ) (fault : WireFault) (f : wire_fault bytes base fault) → (pieces bytes base ≡ map (piece_of bytes base) f.list) × (broken bytes base ≡ Some fault)
  of_fault bytes base fault f =
      let last : wire_fault f.rest (base + length f.front) fault = record { list = []; front = []; rest = f.rest; whole = refl; before = refl; more = f.more; here = f.here ∙ (let e : base + length f.front ≡ base + length f.front + 0 = omega arith in e); fails = f.fails } in
      let all : walk bytes base ≡ behind (map (piece_of bytes base) f.list) (record { pieces = []; broken = Some fault }) =
      whole_walk bytes base f.front f.rest f.list f.whole f.before ∙ ap (behind (map (piece_of bytes base) f.list)) (walk_fails one f.rest (base + length f.front) fault last f.here) in
      (ap (λ (w : Walk). w.pieces) all ∙ append-nil (map (piece_of bytes base) f.list), ap (λ (w : Walk). w.broken) all)
