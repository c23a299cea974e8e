-- The record at the front of bytes, as the function and the relations have it.
use Rattle.std.proofs.Common.{◌≡◌, ℕ, zero, suc, ◌+◌, ◌*◌, ◌/◌, ◌%◌, ◌<◌, ◌≤◌, Bool, true, false, cond, eqb, ltb, List, [], ◌∷◌, ◌++◌, length, get_or, take, drop, Result, Ok, Err, refl, sym, ap, subst, ◌∙◌, append_assoc, arith, inl, inr}
use Rattle.std.specs.Prelude.{◌⊎◌, ◌||◌, IsTrue}
use Rattle.std.specs.List.{AllByRecursion}
use Rattle.std.specs.Int.{w32, w64, from_le_bytes}
use Rattle.std.proofs.lemmas.Bool.{ltb-true, ltb-false, lt-ltb, le-ltb, eqb-true}
use Rattle.std.proofs.lemmas.List.{take_at, drop_at, take-append-drop, length-append, length-take, length-take-le, length-drop}
use Rattle.std.proofs.Math.Seq.{take-add}
use Rattle.pb_wire.specs.declared.fault.WireReason.{WireReason}
use Rattle.pb_wire.specs.declared.fault.WireReason.TheVariants as reasons
use Rattle.pb_wire.specs.declared.records.Load.{Load}
use Rattle.pb_wire.specs.declared.records.Load.TheVariants.{Varint, Eight, Run, Four}
use Rattle.pb_wire.specs.declared.records.Record.{Record}
use Rattle.pb_wire.specs.Varint.{IsVarint}
use Rattle.pb_wire.specs.Records.{wire_of, is_wire, IsRun, IsPayload, Spells}
use Rattle.pb_wire.specs.Faults.{Begins, PayloadFails, Fails, bad_varint, short_eight, bad_size, short_run, short_four, bad_key, zero_field, unknown_wire, bad_payload}
use Rattle.pb_wire.specs.Reading.{varint_of, varint_load, eight_load, four_load, run_load, payload_of, with_key, behind_key, record_of}
use Rattle.pb_wire.proofs.Varints.{ok_is, err_is, not_both, chosen, varint_again, varint_fails, varint_found, varint_failed}

abbrev pub AreBytes : List ℕ → Type 0
AreBytes bytes = AllByRecursion (λ b. b < 256) bytes

pub AreBytes-drop : (n : ℕ) (bytes : List ℕ) → AreBytes bytes → AreBytes (drop n bytes)
AreBytes-drop zero bytes fits = fits
AreBytes-drop (suc n) [] fits = fits
AreBytes-drop (suc n) (b ∷ bs) fits = AreBytes-drop n bs fits.1

-- a payload at the front is found
pub payload_again : (load : Load) (front rest : List ℕ) (place : ℕ) → IsPayload load front place → payload_of (wire_of load) (front ++ rest) place ≡ Ok (load, length front)
unfolding payload_of
payload_again (Varint n) front rest place p = rw (varint_again front rest n p) refl
payload_again (Eight n) front rest place p =
    let long : ltb (length (front ++ rest)) 8 ≡ false = le-ltb _ _ (omega (arith, length-append front rest, p.0)) in
    rw (long, take_at front rest 8 p.0, p.1, p.0) refl
payload_again (Four n) front rest place p =
    let long : ltb (length (front ++ rest)) 4 ≡ false = le-ltb _ _ (omega (arith, length-append front rest, p.0)) in
    rw (long, take_at front rest 4 p.0, p.1, p.0) refl
payload_again (Run span) front rest place p =
    let joined : front ++ rest ≡ p.size ++ (p.content ++ rest) = ap (λ (l : List ℕ). l ++ rest) p.whole ∙ append_assoc p.size p.content rest in
    let size : varint_of (front ++ rest) ≡ Ok (span.len, length p.size) = ap varint_of joined ∙ varint_again p.size (p.content ++ rest) span.len p.size_is in
    let len : length front ≡ length p.size + span.len = ap length p.whole ∙ omega (arith, length-append p.size p.content, p.len) in
    let long : ltb (length (front ++ rest)) (length p.size + span.len) ≡ false = le-ltb _ _ (omega (arith, length-append front rest, len)) in
    rw (size, long, ← p.start, ← len) refl

-- where no payload begins the bytes, none is found
pub payload_fails : (wire : ℕ) (bytes : List ℕ) (reason : WireReason) (place : ℕ) → PayloadFails wire bytes reason → payload_of wire bytes place ≡ Err reason
unfolding payload_of
payload_fails wire bytes reason place (bad_varint w f) = rw (w, varint_fails bytes reason f) refl
payload_fails wire bytes reason place (short_eight w short r) = rw (w, lt-ltb (length bytes) 8 short, r) refl
payload_fails wire bytes reason place (bad_size w f) = rw (w, varint_fails bytes reason f) refl
payload_fails wire bytes reason place (short_run w len rest b short r) =
    let size : varint_of bytes ≡ Ok (len, length b.front) = ap varint_of b.whole ∙ varint_again b.front rest len b.front_is in
    let cut : ltb (length bytes) (length b.front + len) ≡ true = lt-ltb _ _ (omega (arith, ap length b.whole, length-append b.front rest, short)) in
    rw (w, size, cut, r) refl
payload_fails wire bytes reason place (short_four w short r) = rw (w, lt-ltb (length bytes) 4 short, r) refl

-- what is found is a payload at the front
pub record PayloadFound (wire : ℕ) (bytes : List ℕ) (place : ℕ) (load : Load) (size : ℕ) : Type 0 where
  pub within : size ≤ length bytes
  pub wire_is : wire ≡ wire_of load
  pub payload : IsPayload load (take size bytes) place

varint_payload : (bytes : List ℕ) (place : ℕ) (found : Load × ℕ) (r : Result (ℕ × ℕ) WireReason) → AreBytes bytes → varint_of bytes ≡ r → varint_load r ≡ Ok found → PayloadFound 0 bytes place found.0 found.1
varint_payload bytes place found (Err reason) fits e g = absurd cc
varint_payload bytes place found (Ok x) fits e g =
    let v = varint_found bytes x fits e in
    subst (λ (f : Load × ℕ). PayloadFound 0 bytes place f.0 f.1) (ok_is _ _ g) (record { within = v.0; wire_is = refl; payload = v.1 })

eight_payload : (bytes : List ℕ) (place : ℕ) (found : Load × ℕ) → eight_load bytes ≡ Ok found → PayloadFound 1 bytes place found.0 found.1
eight_payload bytes place found e =
    elim (chosen (ltb (length bytes) 8) (Err reasons.Truncated) (Ok (Eight (from_le_bytes w64 (take 8 bytes)), 8)) (Ok found) e) [
      | inl miss ↦ absurd (not_both _ _ (sym miss.1))
      | inr hit ↦
          let long : 8 ≤ length bytes = ltb-false _ _ hit.0 in
          subst (λ (f : Load × ℕ). PayloadFound 1 bytes place f.0 f.1) (ok_is _ _ hit.1) (record { within = long; wire_is = refl; payload = (length-take-le 8 bytes long, refl) })
    ]

four_payload : (bytes : List ℕ) (place : ℕ) (found : Load × ℕ) → four_load bytes ≡ Ok found → PayloadFound 5 bytes place found.0 found.1
four_payload bytes place found e =
    elim (chosen (ltb (length bytes) 4) (Err reasons.Truncated) (Ok (Four (from_le_bytes w32 (take 4 bytes)), 4)) (Ok found) e) [
      | inl miss ↦ absurd (not_both _ _ (sym miss.1))
      | inr hit ↦
          let long : 4 ≤ length bytes = ltb-false _ _ hit.0 in
          subst (λ (f : Load × ℕ). PayloadFound 5 bytes place f.0 f.1) (ok_is _ _ hit.1) (record { within = long; wire_is = refl; payload = (length-take-le 4 bytes long, refl) })
    ]

run_payload : (bytes : List ℕ) (place : ℕ) (found : Load × ℕ) (r : Result (ℕ × ℕ) WireReason) → AreBytes bytes → varint_of bytes ≡ r → run_load bytes place r ≡ Ok found → PayloadFound 2 bytes place found.0 found.1
run_payload bytes place found (Err reason) fits e g = absurd cc
run_payload bytes place found (Ok x) fits e g =
    let v = varint_found bytes x fits e in
    elim (chosen (ltb (length bytes) (x.1 + x.0)) (Err reasons.Truncated) (Ok (Run (record { start = place + x.1; len = x.0 }), x.1 + x.0)) (Ok found) g) [
      | inl miss ↦ absurd (not_both _ _ (sym miss.1))
      | inr hit ↦
          let long : x.1 + x.0 ≤ length bytes = ltb-false _ _ hit.0 in
          let run : IsRun (record { start = place + x.1; len = x.0 }) (take (x.1 + x.0) bytes) place = record {
            size = take x.1 bytes;
            content = take x.0 (drop x.1 bytes);
            whole = take-add x.1 x.0 bytes;
            size_is = v.1;
            len = omega (arith, length-take x.0 (drop x.1 bytes), length-drop x.1 bytes);
            start = omega (arith, length-take x.1 bytes);
          } in
          subst (λ (f : Load × ℕ). PayloadFound 2 bytes place f.0 f.1) (ok_is _ _ hit.1) (record { within = long; wire_is = refl; payload = run })
    ]

pub payload_found : (wire : ℕ) (bytes : List ℕ) (place : ℕ) (found : Load × ℕ) → AreBytes bytes → payload_of wire bytes place ≡ Ok found → PayloadFound wire bytes place found.0 found.1
unfolding payload_of
payload_found wire bytes place found fits e =
    elim (chosen (eqb wire 0) _ _ (Ok found) e) [
      | inl a ↦ rw (eqb-true _ _ a.0) (varint_payload bytes place found (varint_of bytes) fits refl a.1)
      | inr not_a ↦ elim (chosen (eqb wire 1) _ _ (Ok found) not_a.1) [
        | inl b ↦ rw (eqb-true _ _ b.0) (eight_payload bytes place found b.1)
        | inr not_b ↦ elim (chosen (eqb wire 2) _ _ (Ok found) not_b.1) [
          | inl c ↦ rw (eqb-true _ _ c.0) (run_payload bytes place found (varint_of bytes) fits refl c.1)
          | inr not_c ↦ elim (chosen (eqb wire 5) _ _ (Ok found) not_c.1) [
            | inl d ↦ rw (eqb-true _ _ d.0) (four_payload bytes place found d.1)
            | inr not_d ↦ absurd (not_both _ _ (sym not_d.1))
          ]
        ]
      ]
    ]

-- where none is found, no payload begins the bytes, or the wire type has none
varint_misses : (bytes : List ℕ) (reason : WireReason) (r : Result (ℕ × ℕ) WireReason) → varint_of bytes ≡ r → varint_load r ≡ Err reason → PayloadFails 0 bytes reason
varint_misses bytes reason (Ok x) e g = absurd (not_both _ _ g)
varint_misses bytes reason (Err other) e g = bad_varint refl (varint_failed bytes reason (e ∙ ap Err (err_is {A = Load × ℕ} _ _ g)))

eight_misses : (bytes : List ℕ) (reason : WireReason) → eight_load bytes ≡ Err reason → PayloadFails 1 bytes reason
eight_misses bytes reason e =
    elim (chosen (ltb (length bytes) 8) (Err reasons.Truncated) (Ok (Eight (from_le_bytes w64 (take 8 bytes)), 8)) (Err reason) e) [
      | inl hit ↦ short_eight refl (ltb-true _ _ hit.0) (sym (err_is {A = Load × ℕ} _ _ hit.1))
      | inr miss ↦ absurd (not_both _ _ miss.1)
    ]

four_misses : (bytes : List ℕ) (reason : WireReason) → four_load bytes ≡ Err reason → PayloadFails 5 bytes reason
four_misses bytes reason e =
    elim (chosen (ltb (length bytes) 4) (Err reasons.Truncated) (Ok (Four (from_le_bytes w32 (take 4 bytes)), 4)) (Err reason) e) [
      | inl hit ↦ short_four refl (ltb-true _ _ hit.0) (sym (err_is {A = Load × ℕ} _ _ hit.1))
      | inr miss ↦ absurd (not_both _ _ miss.1)
    ]

run_misses : (bytes : List ℕ) (place : ℕ) (reason : WireReason) (r : Result (ℕ × ℕ) WireReason) → AreBytes bytes → varint_of bytes ≡ r → run_load bytes place r ≡ Err reason → PayloadFails 2 bytes reason
run_misses bytes place reason (Err other) fits e g = bad_size refl (varint_failed bytes reason (e ∙ ap Err (err_is {A = Load × ℕ} _ _ g)))
run_misses bytes place reason (Ok x) fits e g =
    let v = varint_found bytes x fits e in
    elim (chosen (ltb (length bytes) (x.1 + x.0)) (Err reasons.Truncated) (Ok (Run (record { start = place + x.1; len = x.0 }), x.1 + x.0)) (Err reason) g) [
      | inl hit ↦
          let cut : length bytes < x.1 + x.0 = ltb-true _ _ hit.0 in
          short_run refl x.0 (drop x.1 bytes) (record { front = take x.1 bytes; whole = sym (take-append-drop x.1 bytes); front_is = v.1 }) (omega (arith, length-drop x.1 bytes, v.0)) (sym (err_is {A = Load × ℕ} _ _ hit.1))
      | inr miss ↦ absurd (not_both _ _ miss.1)
    ]

no_wire : (wire : ℕ) → eqb wire 0 ≡ false → eqb wire 1 ≡ false → eqb wire 2 ≡ false → eqb wire 5 ≡ false → IsTrue (is_wire wire) → ⊥
no_wire wire a b c d = rw (a, b, c, d) (λ h. cc)

pub payload_failed : (wire : ℕ) (bytes : List ℕ) (place : ℕ) (reason : WireReason) → AreBytes bytes → payload_of wire bytes place ≡ Err reason → PayloadFails wire bytes reason ⊎ ((IsTrue (is_wire wire) → ⊥) × (reason ≡ reasons.WireType))
unfolding payload_of
payload_failed wire bytes place reason fits e =
    elim (chosen (eqb wire 0) _ _ (Err reason) e) [
      | inl a ↦ inl (rw (eqb-true _ _ a.0) (varint_misses bytes reason (varint_of bytes) refl a.1))
      | inr not_a ↦ elim (chosen (eqb wire 1) _ _ (Err reason) not_a.1) [
        | inl b ↦ inl (rw (eqb-true _ _ b.0) (eight_misses bytes reason b.1))
        | inr not_b ↦ elim (chosen (eqb wire 2) _ _ (Err reason) not_b.1) [
          | inl c ↦ inl (rw (eqb-true _ _ c.0) (run_misses bytes place reason (varint_of bytes) fits refl c.1))
          | inr not_c ↦ elim (chosen (eqb wire 5) _ _ (Err reason) not_c.1) [
            | inl d ↦ inl (rw (eqb-true _ _ d.0) (four_misses bytes reason d.1))
            | inr not_d ↦ inr (no_wire wire not_a.0 not_b.0 not_c.0 not_d.0, sym (err_is {A = Load × ℕ} _ _ not_d.1))
          ]
        ]
      ]
    ]

-- a payload's wire type is one
pub wire_of_is : (load : Load) → IsTrue (is_wire (wire_of load)) × (wire_of load < 8)
wire_of_is (Varint n) = (refl, omega arith)
wire_of_is (Eight n) = (refl, omega arith)
wire_of_is (Run span) = (refl, omega arith)
wire_of_is (Four n) = (refl, omega arith)

key_field : (field wire : ℕ) → wire < 8 → (8 * field + wire) / 8 ≡ field
key_field field wire low = omega arith

key_wire : (field wire : ℕ) → wire < 8 → (8 * field + wire) % 8 ≡ wire
key_wire field wire low = omega arith

-- what a key with this field and wire type leads to
keyed : (front rest : List ℕ) (place field wire : ℕ) → IsVarint front (8 * field + wire) → 1 ≤ field → wire < 8
    → record_of (front ++ rest) place ≡ with_key place field (length front) (payload_of wire rest (place + length front))
unfolding record_of
keyed front rest place field wire v some low =
    let high : ltb (8 * field + wire) 8 ≡ false = le-ltb _ _ (omega arith) in
    rw (varint_again front rest (8 * field + wire) v, high, key_field field wire low, key_wire field wire low, drop_at front rest (length front) refl) refl

-- a record at the front is found
pub record_again : (r : Record) (text rest : List ℕ) → Spells r text → record_of (text ++ rest) r.place ≡ Ok (r, length text)
record_again r text rest s =
    let joined : text ++ rest ≡ s.key ++ (s.payload ++ rest) = ap (λ (l : List ℕ). l ++ rest) s.whole ∙ append_assoc s.key s.payload rest in
    let len : length text ≡ length s.key + length s.payload = ap length s.whole ∙ length-append s.key s.payload in
    ap (λ (l : List ℕ). record_of l r.place) joined ∙ keyed s.key (s.payload ++ rest) r.place r.field (wire_of r.load) s.key_is s.field (wire_of_is r.load).1
    ∙ rw (payload_again r.load s.payload rest (r.place + length s.key) s.payload_is, len) refl

wire_below : (wire : ℕ) (bytes : List ℕ) (reason : WireReason) → PayloadFails wire bytes reason → wire < 8
wire_below wire bytes reason (bad_varint w f) = omega arith
wire_below wire bytes reason (short_eight w short r) = omega arith
wire_below wire bytes reason (bad_size w f) = omega arith
wire_below wire bytes reason (short_run w len rest b short r) = omega arith
wire_below wire bytes reason (short_four w short r) = omega arith

-- a wire type without payload is refused
not_a_wire : (wire : ℕ) (bytes : List ℕ) (place : ℕ) → (IsTrue (is_wire wire) → ⊥) → payload_of wire bytes place ≡ Err reasons.WireType
unfolding payload_of
not_a_wire wire bytes place h =
    go (eqb wire 0) (eqb wire 1) (eqb wire 2) (eqb wire 5) h
  where
    go : (a b c d : Bool) → (IsTrue (a || b || c || d) → ⊥) → cond a (varint_load (varint_of bytes)) (cond b (eight_load bytes) (cond c (run_load bytes place (varint_of bytes)) (cond d (four_load bytes) (Err reasons.WireType)))) ≡ Err reasons.WireType
    go true b c d h = absurd (h refl)
    go false true c d h = absurd (h refl)
    go false false true d h = absurd (h refl)
    go false false false true h = absurd (h refl)
    go false false false false h = refl

-- where no record begins the bytes, none is found
pub record_fails : (bytes : List ℕ) (reason : WireReason) (place : ℕ) → Fails bytes reason → record_of bytes place ≡ Err reason
unfolding record_of
record_fails bytes reason place (bad_key f) = rw (varint_fails bytes reason f) refl
record_fails bytes reason place (zero_field wire rest b low r) =
    rw (b.whole, varint_again b.front rest wire b.front_is, lt-ltb wire 8 low, r) refl
record_fails bytes reason place (unknown_wire field wire rest b some low no_load r) =
    ap (λ (l : List ℕ). record_of l place) b.whole ∙ keyed b.front rest place field wire b.front_is some low ∙ rw (not_a_wire wire rest (place + length b.front) no_load, r) refl
record_fails bytes reason place (bad_payload field wire rest b some f) =
    ap (λ (l : List ℕ). record_of l place) b.whole ∙ keyed b.front rest place field wire b.front_is some (wire_below wire rest reason f) ∙ rw (payload_fails wire rest reason (place + length b.front) f) refl

-- what is found is a record at the front
pub record RecordFound (bytes : List ℕ) (place : ℕ) (r : Record) (size : ℕ) : Type 0 where
  pub within : size ≤ length bytes
  pub here : r.place ≡ place
  pub spelled : Spells r (take size bytes)

payload_behind : (bytes : List ℕ) (place key size : ℕ) (found : Record × ℕ) (p : Result (Load × ℕ) WireReason) → AreBytes bytes → IsVarint (take size bytes) key → size ≤ length bytes → 8 ≤ key
    → payload_of (key % 8) (drop size bytes) (place + size) ≡ p → with_key place (key / 8) size p ≡ Ok found → RecordFound bytes place found.0 found.1
payload_behind bytes place key size found (Err reason) fits v within high e g = absurd (not_both _ _ (sym g))
payload_behind bytes place key size found (Ok x) fits v within high e g =
    let p = payload_found (key % 8) (drop size bytes) (place + size) x (AreBytes-drop size bytes fits) e in
    let len : length (take size bytes) ≡ size = length-take-le size bytes within in
    let key_is : 8 * (key / 8) + wire_of x.0 ≡ key = omega (arith, p.wire_is) in
    let text : Spells (record { place = place; field = key / 8; load = x.0 }) (take (size + x.1) bytes) = record {
      key = take size bytes;
      payload = take x.1 (drop size bytes);
      whole = take-add size x.1 bytes;
      key_is = rw key_is v;
      field = omega arith;
      payload_is = rw len p.payload;
    } in
    subst (λ (f : Record × ℕ). RecordFound bytes place f.0 f.1) (ok_is _ _ g) (record { within = omega (arith, p.within, length-drop size bytes); here = refl; spelled = text })

key_behind : (bytes : List ℕ) (place : ℕ) (found : Record × ℕ) (k : Result (ℕ × ℕ) WireReason) → AreBytes bytes → varint_of bytes ≡ k → behind_key bytes place k ≡ Ok found → RecordFound bytes place found.0 found.1
key_behind bytes place found (Err reason) fits e g = absurd (not_both _ _ (sym g))
key_behind bytes place found (Ok x) fits e g =
    let v = varint_found bytes x fits e in
    elim (chosen (ltb x.0 8) (Err reasons.FieldZero) _ (Ok found) g) [
      | inl miss ↦ absurd (not_both _ _ (sym miss.1))
      | inr hit ↦ payload_behind bytes place x.0 x.1 found (payload_of (x.0 % 8) (drop x.1 bytes) (place + x.1)) fits v.1 v.0 (ltb-false _ _ hit.0) refl hit.1
    ]

pub record_found : (bytes : List ℕ) (place : ℕ) (found : Record × ℕ) → AreBytes bytes → record_of bytes place ≡ Ok found → RecordFound bytes place found.0 found.1
unfolding record_of
record_found bytes place found fits e = key_behind bytes place found (varint_of bytes) fits refl e

payload_missed : (bytes : List ℕ) (place key size : ℕ) (reason : WireReason) (p : Result (Load × ℕ) WireReason) → AreBytes bytes → IsVarint (take size bytes) key → 8 ≤ key
    → payload_of (key % 8) (drop size bytes) (place + size) ≡ p → with_key place (key / 8) size p ≡ Err reason → Fails bytes reason
payload_missed bytes place key size reason (Ok x) fits v high e g = absurd (not_both _ _ g)
payload_missed bytes place key size reason (Err other) fits v high e g =
    let same : other ≡ reason = err_is {A = Record × ℕ} _ _ g in
    let key_is : 8 * (key / 8) + key % 8 ≡ key = omega arith in
    let begins : Begins (8 * (key / 8) + key % 8) bytes (drop size bytes) = record { front = take size bytes; whole = sym (take-append-drop size bytes); front_is = rw key_is v } in
    elim (payload_failed (key % 8) (drop size bytes) (place + size) reason (AreBytes-drop size bytes fits) (e ∙ ap Err same)) [
      | inl f ↦ bad_payload (key / 8) (key % 8) (drop size bytes) begins (omega arith) f
      | inr t ↦ unknown_wire (key / 8) (key % 8) (drop size bytes) begins (omega arith) (omega arith) t.0 t.1
    ]

key_missed : (bytes : List ℕ) (place : ℕ) (reason : WireReason) (k : Result (ℕ × ℕ) WireReason) → AreBytes bytes → varint_of bytes ≡ k → behind_key bytes place k ≡ Err reason → Fails bytes reason
key_missed bytes place reason (Err other) fits e g = bad_key (varint_failed bytes reason (e ∙ ap Err (err_is {A = Record × ℕ} _ _ g)))
key_missed bytes place reason (Ok x) fits e g =
    let v = varint_found bytes x fits e in
    elim (chosen (ltb x.0 8) (Err reasons.FieldZero) _ (Err reason) g) [
      | inl hit ↦ zero_field x.0 (drop x.1 bytes) (record { front = take x.1 bytes; whole = sym (take-append-drop x.1 bytes); front_is = v.1 }) (ltb-true _ _ hit.0) (sym (err_is {A = Record × ℕ} _ _ hit.1))
      | inr miss ↦ payload_missed bytes place x.0 x.1 reason (payload_of (x.0 % 8) (drop x.1 bytes) (place + x.1)) fits v.1 (ltb-false _ _ miss.0) refl miss.1
    ]

-- where none is found, no record begins the bytes
pub record_failed : (bytes : List ℕ) (place : ℕ) (reason : WireReason) → AreBytes bytes → record_of bytes place ≡ Err reason → Fails bytes reason
unfolding record_of
record_failed bytes place reason fits e = key_missed bytes place reason (varint_of bytes) fits refl e

-- bytes that a program holds
pub are_bytes : (bytes : List ℕ) → ((i : ℕ) → get_or bytes i 0 < 256) → AreBytes bytes
are_bytes [] h = tt
are_bytes (b ∷ bs) h = (h 0, are_bytes bs (λ i. h (suc i)))
