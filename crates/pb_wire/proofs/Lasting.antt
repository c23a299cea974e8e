-- What a scan says of bytes to which more may come.
use Rattle.std.proofs.Common.{◌≡◌, ◌≢◌, ℕ, zero, suc, ◌<◌, List, [], ◌∷◌, ◌++◌, length, get_or, take, drop, Result, Ok, Err, refl, sym, ap, subst, ◌∙◌, append_assoc, arith}
use Rattle.std.specs.Prelude.{◌↔◌, IfErr}
use Rattle.std.proofs.lemmas.List.{take-append-drop, take-append-le, length-append, length-take-le}
use Rattle.pb_wire.specs.declared.fault.WireFault.{WireFault}
use Rattle.pb_wire.specs.declared.fault.WireReason.{WireReason}
use Rattle.pb_wire.specs.declared.fault.WireReason.TheVariants as reasons
use Rattle.pb_wire.specs.declared.records.Record.{Record}
use Rattle.pb_wire.specs.declared.records.Scan.{Scan}
use Rattle.pb_wire.specs.declared.records.Scan.TheVariants.{Whole, Short}
use Rattle.pb_wire.specs.Varint.{GoOn}
use Rattle.pb_wire.specs.Faults.{VarintFails, Begins, PayloadFails, Fails, wire_fault, bad_varint, short_eight, bad_size, short_run, short_four, bad_key, zero_field, unknown_wire, bad_payload}
use Rattle.pb_wire.specs.Reading.{varint_within, record_of}
use Rattle.pb_wire.specs.Scanning.{IsFront, IsBroken, scan_of}
use Rattle.pb_wire.proofs.Varints.{err_is}
use Rattle.pb_wire.proofs.Front.{AreBytes, record_again, record_fails, record_found, record_failed}
use Rattle.pb_wire.proofs.Lists.{fault_here}

-- ---- a fault that more bytes don't mend

get_front : (n : ℕ) (xs ys : List ℕ) → n < length xs → get_or (xs ++ ys) n 0 ≡ get_or xs n 0
get_front n [] ys h = absurd (omega (arith, h))
get_front zero (x ∷ xs) ys h = refl
get_front (suc n) (x ∷ xs) ys h = get_front n xs ys (omega (arith, h))

varint_lasts : (bytes more : List ℕ) (reason : WireReason) → reason ≢ reasons.Truncated → VarintFails bytes reason → VarintFails (bytes ++ more) reason
varint_lasts bytes more reasons.Varint other f = (
  omega (arith, length-append bytes more, f.0),
  subst GoOn (sym (take-append-le 9 bytes more (omega (arith, f.0)))) f.1,
  subst (λ n. 1 < n) (sym (get_front 9 bytes more (omega (arith, f.0)))) f.2,
)
varint_lasts bytes more reasons.Truncated other f = absurd (other refl)
varint_lasts bytes more reasons.WireType other f = absurd f
varint_lasts bytes more reasons.FieldZero other f = absurd f

begins_lasts : (value : ℕ) (bytes rest more : List ℕ) → Begins value bytes rest → Begins value (bytes ++ more) (rest ++ more)
begins_lasts value bytes rest more b = record { front = b.front; whole = ap (λ (l : List ℕ). l ++ more) b.whole ∙ append_assoc b.front rest more; front_is = b.front_is }

payload_lasts : (wire : ℕ) (bytes more : List ℕ) (reason : WireReason) → reason ≢ reasons.Truncated → PayloadFails wire bytes reason → PayloadFails wire (bytes ++ more) reason
payload_lasts wire bytes more reason other (bad_varint w f) = bad_varint w (varint_lasts bytes more reason other f)
payload_lasts wire bytes more reason other (short_eight w short r) = absurd (other r)
payload_lasts wire bytes more reason other (bad_size w f) = bad_size w (varint_lasts bytes more reason other f)
payload_lasts wire bytes more reason other (short_run w len rest b short r) = absurd (other r)
payload_lasts wire bytes more reason other (short_four w short r) = absurd (other r)

fails_lasts : (bytes more : List ℕ) (reason : WireReason) → reason ≢ reasons.Truncated → Fails bytes reason → Fails (bytes ++ more) reason
fails_lasts bytes more reason other (bad_key f) = bad_key (varint_lasts bytes more reason other f)
fails_lasts bytes more reason other (zero_field wire rest b low r) = zero_field wire (rest ++ more) (begins_lasts wire bytes rest more b) low r
fails_lasts bytes more reason other (unknown_wire field wire rest b some low no_load r) = unknown_wire field wire (rest ++ more) (begins_lasts _ bytes rest more b) some low no_load r
fails_lasts bytes more reason other (bad_payload field wire rest b some f) = bad_payload field wire (rest ++ more) (begins_lasts _ bytes rest more b) some (payload_lasts wire rest more reason other f)

nothing_is_cut : (base : ℕ) → record_of [] base ≡ Err reasons.Truncated
unfolding record_of varint_within
nothing_is_cut base = refl

some_bytes : (bytes more : List ℕ) (reason : WireReason) → reason ≢ reasons.Truncated → Fails bytes reason → bytes ++ more ≢ []
some_bytes [] more reason other f e = other (err_is {A = Record × ℕ} _ _ (sym (record_fails [] reason 0 f) ∙ nothing_is_cut 0))
some_bytes (b ∷ bs) more reason other f e = cc

broken_lasts : (bytes : List ℕ) (base : ℕ) (fault : WireFault) (more : List ℕ) → IsBroken bytes base fault → wire_fault (bytes ++ more) base fault
broken_lasts bytes base fault more b =
    subst (λ place. wire_fault (bytes ++ more) base (record { place = place; reason = fault.reason })) (sym b.here)
    (fault_here (bytes ++ more) base fault.reason (some_bytes bytes more fault.reason b.lasts b.fails) (fails_lasts bytes more fault.reason b.lasts b.fails))

-- ---- the answers, by the record at the front

scan_whole : (base : ℕ) (x : Result (Record × ℕ) WireReason) (r : Record) (size : ℕ) → scan_of base x ≡ Ok (Whole r size) → x ≡ Ok (r, size)
scan_whole base (Ok found) r size e =
    let same : r ≡ found.0 = cc in
    let long : size ≡ found.1 = cc in
    λ i. Ok (sym same i, sym long i)
scan_whole base (Err reasons.Truncated) r size e = absurd cc
scan_whole base (Err reasons.Varint) r size e = absurd cc
scan_whole base (Err reasons.WireType) r size e = absurd cc
scan_whole base (Err reasons.FieldZero) r size e = absurd cc

scan_short : (base : ℕ) (x : Result (Record × ℕ) WireReason) → scan_of base x ≡ Ok Short → x ≡ Err reasons.Truncated
scan_short base (Ok found) e = absurd cc
scan_short base (Err reasons.Truncated) e = refl
scan_short base (Err reasons.Varint) e = absurd cc
scan_short base (Err reasons.WireType) e = absurd cc
scan_short base (Err reasons.FieldZero) e = absurd cc

-- the reason of a fault is never that more bytes are wanted
record Refused (base : ℕ) (x : Result (Record × ℕ) WireReason) (fault : WireFault) : Type 0 where
  here : fault.place ≡ base
  is : x ≡ Err fault.reason
  lasts : fault.reason ≢ reasons.Truncated

refused : (base : ℕ) (x : Result (Record × ℕ) WireReason) (reason : WireReason) (fault : WireFault) → x ≡ Err reason → reason ≢ reasons.Truncated
    → ◌≡◌ {A = Result Scan WireFault} (Err (record { place = base; reason = reason })) (Err fault) → Refused base x fault
refused base x reason fault is other e =
    let same : record { place = base; reason = reason } ≡ fault = cc in
    subst (λ f. Refused base x f) same (record { here = refl; is = is; lasts = other })

scan_err : (base : ℕ) (x : Result (Record × ℕ) WireReason) (fault : WireFault) → scan_of base x ≡ Err fault → Refused base x fault
scan_err base (Ok found) fault e = absurd cc
scan_err base (Err reasons.Truncated) fault e = absurd cc
scan_err base (Err reasons.Varint) fault e = refused base _ reasons.Varint fault refl (λ h. cc) e
scan_err base (Err reasons.WireType) fault e = refused base _ reasons.WireType fault refl (λ h. cc) e
scan_err base (Err reasons.FieldZero) fault e = refused base _ reasons.FieldZero fault refl (λ h. cc) e

scan_refuses : (base : ℕ) (reason : WireReason) → reason ≢ reasons.Truncated → scan_of base (Err reason) ≡ Err (record { place = base; reason = reason })
scan_refuses base reasons.Truncated other = absurd (other refl)
scan_refuses base reasons.Varint other = refl
scan_refuses base reasons.WireType other = refl
scan_refuses base reasons.FieldZero other = refl

pub front_read : (bytes : List ℕ) (base : ℕ) (r : Record) (size : ℕ) → IsFront bytes base r size → record_of bytes base ≡ Ok (r, size)
front_read bytes base r size f =
    let again : record_of (take size bytes ++ drop size bytes) r.place ≡ Ok (r, length (take size bytes)) = record_again r (take size bytes) (drop size bytes) f.spelled in
    sym (λ i. record_of (take-append-drop size bytes i) (f.here i)) ∙ again ∙ ap (λ (n : ℕ). Ok (r, n)) (length-take-le size bytes f.within)

module _ (bytes : List ℕ) (base : ℕ) (answer : Result Scan WireFault) (fits : AreBytes bytes) (is : answer ≡ scan_of base (record_of bytes base)) where
  pub whole_is : (r : Record) (size : ℕ) → (answer ≡ Ok (Whole r size)) ↔ IsFront bytes base r size
  whole_is r size = (there, back)
    where
      there : answer ≡ Ok (Whole r size) → IsFront bytes base r size
      there e =
          let f = record_found bytes base (r, size) fits (scan_whole base (record_of bytes base) r size (sym is ∙ e)) in
          record { within = f.within; spelled = f.spelled; here = f.here }

      back : IsFront bytes base r size → answer ≡ Ok (Whole r size)
      back f = is ∙ ap (scan_of base) (front_read bytes base r size f)

  pub short_is : (answer ≡ Ok Short) ↔ Fails bytes reasons.Truncated
  short_is = (
    λ e. record_failed bytes base reasons.Truncated fits (scan_short base (record_of bytes base) (sym is ∙ e)),
    λ f. is ∙ ap (scan_of base) (record_fails bytes reasons.Truncated base f),
  )

  broken_of : (fault : WireFault) → answer ≡ Err fault → IsBroken bytes base fault
  broken_of fault e =
      let r = scan_err base (record_of bytes base) fault (sym is ∙ e) in
      record { here = r.here; fails = record_failed bytes base fault.reason fits r.is; lasts = r.lasts }

  pub fault_is : (fault : WireFault) → (answer ≡ Err fault) ↔ IsBroken bytes base fault
  fault_is fault = (broken_of fault, back)
    where
      back : IsBroken bytes base fault → answer ≡ Err fault
      back b =
          is ∙ ap (scan_of base) (record_fails bytes fault.reason base b.fails) ∙ scan_refuses base fault.reason b.lasts
          ∙ ap (λ (place : ℕ). Err (record { place = place; reason = fault.reason })) (sym b.here)

  pub fault_lasts : IfErr answer (λ fault. (more : List ℕ) → wire_fault (bytes ++ more) base fault)
  fault_lasts = by answer refl
    where
      by : (a : Result Scan WireFault) → answer ≡ a → IfErr a (λ fault. (more : List ℕ) → wire_fault (bytes ++ more) base fault)
      by (Ok found) e = tt
      by (Err fault) e = λ more. broken_lasts bytes base fault more (broken_of fault e)
