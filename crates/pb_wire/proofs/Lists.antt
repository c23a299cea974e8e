-- The records of a whole message, one after another.
use Rattle.std.proofs.Common.{◌≡◌, ◌≢◌, ℕ, zero, suc, ◌+◌, ◌≤◌, List, [], ◌∷◌, ◌++◌, length, take, drop, Result, Ok, Err, refl, sym, ap, subst, ◌∙◌, append_assoc, arith, inl, inr}
use Rattle.std.specs.Prelude.{◌⊎◌}
use Rattle.std.proofs.lemmas.List.{drop_at, take-append-drop, length-append, length-take-le, length-drop}
use Rattle.pb_wire.specs.declared.fault.WireReason.{WireReason}
use Rattle.pb_wire.specs.declared.fault.WireFault.{WireFault}
use Rattle.pb_wire.specs.declared.records.Record.{Record}
use Rattle.pb_wire.specs.Varint.{IsVarint}
use Rattle.pb_wire.specs.Records.{records, Spells}
use Rattle.pb_wire.specs.Faults.{Fails, wire_fault}
use Rattle.pb_wire.specs.Reading.{record_of}
use Rattle.pb_wire.proofs.Varints.{ok_is, err_is, not_both}
use Rattle.pb_wire.proofs.Front.{AreBytes, AreBytes-drop, record_again, record_fails, record_found, record_failed}

-- a varint has a byte, and so has a spelling
varint_long : (bytes : List ℕ) (value : ℕ) → IsVarint bytes value → 1 ≤ length bytes
varint_long [] value v = absurd v.continues
varint_long (b ∷ bs) value v = omega arith

pub spelling_long : (r : Record) (text : List ℕ) → Spells r text → 1 ≤ length text
spelling_long r text s = omega (arith, ap length s.whole, length-append s.key s.payload, varint_long s.key _ s.key_is)

-- the first record and what is left, taken from a list that isn't empty
pub record First (bytes : List ℕ) (place : ℕ) (r : Record) (size : ℕ) (list : List Record) : Type 0 where
  pub more : List Record
  pub first : list ≡ r ∷ more
  pub left : records (drop size bytes) (place + size) more

pub first_of : (bytes : List ℕ) (place : ℕ) (r : Record) (size : ℕ) (list : List Record) → record_of bytes place ≡ Ok (r, size) → bytes ≢ [] → records bytes place list → First bytes place r size list
first_of bytes place r size [] e some h = absurd (some h)
first_of bytes place r size (q ∷ qs) e some h =
    let text = h.0 in
    let rest = h.1 in
    let again : record_of bytes place ≡ Ok (q, length text) = rw (h.2, ← h.4) (record_again q text rest h.3) in
    let same = ok_is (q, length text) (r, size) (sym again ∙ e) in
    let q_is : q ≡ r = ap (λ (p : Record × ℕ). p.0) same in
    let len : length text ≡ size = ap (λ (p : Record × ℕ). p.1) same in
    let left : drop size bytes ≡ rest = ap (drop size) h.2 ∙ drop_at text rest size len in
    record { more = qs; first = ap (λ (x : Record). x ∷ qs) q_is; left = rw (left, ← len) h.5 }

-- the list of what is left behind its first record
pub list_from : (bytes : List ℕ) (place : ℕ) (r : Record) (size : ℕ) (more : List Record) → Spells r (take size bytes) → r.place ≡ place → size ≤ length bytes → records (drop size bytes) (place + size) more → records bytes place (r ∷ more)
list_from bytes place r size more s here within h =
    (take size bytes, drop size bytes, sym (take-append-drop size bytes), s, here, rw (length-take-le size bytes within) h)

-- the fault of the bytes is that of what is left
pub fault_left : (bytes : List ℕ) (place : ℕ) (r : Record) (size : ℕ) (fault : WireFault) → record_of bytes place ≡ Ok (r, size) → wire_fault bytes place fault → wire_fault (drop size bytes) (place + size) fault
fault_left bytes place r size fault e f = go f.list f.front f.rest f.whole f.before f.more f.here f.fails
  where
    go : (list : List Record) (front rest : List ℕ) → bytes ≡ front ++ rest → records front place list → rest ≢ [] → fault.place ≡ place + length front → Fails rest fault.reason → wire_fault (drop size bytes) (place + size) fault
    go [] front rest whole before more here fails =
        let all : bytes ≡ rest = whole ∙ ap (λ (l : List ℕ). l ++ rest) before in
        absurd (not_both (r, size) fault.reason (sym e ∙ ap (λ (l : List ℕ). record_of l place) all ∙ record_fails rest fault.reason place fails))
    go (q ∷ qs) front rest whole before more here fails =
        let text = before.0 in
        let next = before.1 in
        let all : bytes ≡ text ++ (next ++ rest) = whole ∙ ap (λ (l : List ℕ). l ++ rest) before.2 ∙ append_assoc text next rest in
        let again : record_of bytes place ≡ Ok (q, length text) = rw (all, ← before.4) (record_again q text (next ++ rest) before.3) in
        let same = ok_is (q, length text) (r, size) (sym again ∙ e) in
        let len : length text ≡ size = ap (λ (p : Record × ℕ). p.1) same in
        let left : drop size bytes ≡ next ++ rest = ap (drop size) all ∙ drop_at text (next ++ rest) size len in
        record { list = qs; front = next; rest = rest; whole = left; before = rw (← len) before.5; more = more; here = omega (arith, here, ap length before.2, length-append text next); fails = fails }

pub fault_from : (bytes : List ℕ) (place : ℕ) (r : Record) (size : ℕ) (fault : WireFault) → Spells r (take size bytes) → r.place ≡ place → size ≤ length bytes → wire_fault (drop size bytes) (place + size) fault → wire_fault bytes place fault
fault_from bytes place r size fault s here within f =
    let len : length (take size bytes) ≡ size = length-take-le size bytes within in
    record {
      list = r ∷ f.list;
      front = take size bytes ++ f.front;
      rest = f.rest;
      whole = sym (take-append-drop size bytes) ∙ ap (λ (l : List ℕ). take size bytes ++ l) f.whole ∙ sym (append_assoc (take size bytes) f.front f.rest);
      before = (take size bytes, f.front, refl, s, here, rw len f.before);
      more = f.more;
      here = omega (arith, f.here, length-append (take size bytes) f.front, len);
      fails = f.fails;
    }

-- the first record can't be completed
pub fault_here : (bytes : List ℕ) (place : ℕ) (reason : WireReason) → bytes ≢ [] → Fails bytes reason → wire_fault bytes place (record { place = place; reason = reason })
fault_here bytes place reason some fails =
    record { list = []; front = []; rest = bytes; whole = refl; before = refl; more = some; here = omega arith; fails = fails }

pub no_list : (bytes : List ℕ) (place : ℕ) (reason : WireReason) (list : List Record) → bytes ≢ [] → record_of bytes place ≡ Err reason → records bytes place list → ⊥
no_list bytes place reason [] some e h = some h
no_list bytes place reason (q ∷ qs) some e h =
    let again : record_of bytes place ≡ Ok (q, length h.0) = rw (h.2, ← h.4) (record_again q h.0 h.1 h.3) in
    not_both (q, length h.0) reason (sym again ∙ e)

-- ---- laws of whole messages

record_long : (bytes : List ℕ) (place : ℕ) (r : Record) (size : ℕ) → AreBytes bytes → record_of bytes place ≡ Ok (r, size) → (1 ≤ size) × (size ≤ length bytes)
record_long bytes place r size fits e =
    let f = record_found bytes place (r, size) fits e in
    (omega (arith, spelling_long r (take size bytes) f.spelled, length-take-le size bytes f.within), f.within)

not_empty : (b : ℕ) (bs : List ℕ) → (b ∷ bs) ≢ []
not_empty b bs e = cc

append_nil : (a b : List ℕ) → a ++ b ≡ [] → (a ≡ []) × (b ≡ [])
append_nil [] b e = (refl, e)
append_nil (x ∷ xs) b e = absurd cc

no_records : (place : ℕ) (list : List Record) → records [] place list → list ≡ []
no_records place [] h = refl
no_records place (q ∷ qs) h = absurd (omega (arith, ap length h.2, length-append h.0 h.1, spelling_long q h.0 h.3))

-- the first record of a list that spells the bytes, and its length
pub first_found : (bytes : List ℕ) (place : ℕ) (q : Record) (qs : List Record) → records bytes place (q ∷ qs) → (size : ℕ) × (1 ≤ size) × (record_of bytes place ≡ Ok (q, size)) × records (drop size bytes) (place + size) qs
first_found bytes place q qs h =
    let left : drop (length h.0) bytes ≡ h.1 = ap (drop (length h.0)) h.2 ∙ drop_at h.0 h.1 (length h.0) refl in
    (length h.0, spelling_long q h.0 h.3, rw (h.2, ← h.4) (record_again q h.0 h.1 h.3), rw left h.5)

pub one_list : (bytes : List ℕ) (place : ℕ) (a b : List Record) → records bytes place a → records bytes place b → a ≡ b
one_list bytes place [] b ha hb = sym (no_records place b (subst (λ (l : List ℕ). records l place b) ha hb))
one_list bytes place (p ∷ ps) [] ha hb = no_records place (p ∷ ps) (subst (λ (l : List ℕ). records l place (p ∷ ps)) hb ha)
one_list bytes place (p ∷ ps) (q ∷ qs) ha hb =
    let x = first_found bytes place p ps ha in
    let y = first_found bytes place q qs hb in
    let same = ok_is (p, x.0) (q, y.0) (sym x.2 ∙ y.2) in
    let len : y.0 ≡ x.0 = sym (ap (λ (f : Record × ℕ). f.1) same) in
    let others : ps ≡ qs = one_list (drop x.0 bytes) (place + x.0) ps qs x.3 (subst (λ (n : ℕ). records (drop n bytes) (place + n) qs) len y.3) in
    let first : p ≡ q = ap (λ (f : Record × ℕ). f.0) same in
    cc

fault_not_empty : (place : ℕ) (fault : WireFault) → wire_fault [] place fault → ⊥
fault_not_empty place fault f = f.more (append_nil f.front f.rest (sym f.whole)).1

pub not_list_and_fault : (bytes : List ℕ) (place : ℕ) (fault : WireFault) (list : List Record) → wire_fault bytes place fault → records bytes place list → ⊥
not_list_and_fault bytes place fault [] f h = fault_not_empty place fault (subst (λ (l : List ℕ). wire_fault l place fault) h f)
not_list_and_fault bytes place fault (q ∷ qs) f h =
    let x = first_found bytes place q qs h in
    not_list_and_fault (drop x.0 bytes) (place + x.0) fault qs (fault_left bytes place q x.0 fault x.2 f) x.3

same_fault : (a b : WireFault) → a.place ≡ b.place → a.reason ≡ b.reason → a ≡ b
same_fault a b p r =
    let at : ℕ → WireReason → WireFault = λ n x. record { place = n; reason = x } in
    ap (λ (n : ℕ). at n a.reason) p ∙ ap (at b.place) r

-- a fault in parts, to go by its list
fault_of : (bytes : List ℕ) (place : ℕ) (fault other : WireFault) (list : List Record) (front rest : List ℕ) → bytes ≡ front ++ rest → records front place list → rest ≢ [] → fault.place ≡ place + length front → Fails rest fault.reason → wire_fault bytes place other → fault ≡ other
fault_of bytes place fault other [] front rest whole before more here fails f = first f.list f.front f.rest f.whole f.before f.here f.fails
  where
    all : bytes ≡ rest
    all = whole ∙ ap (λ (l : List ℕ). l ++ rest) before

    failed : record_of bytes place ≡ Err fault.reason
    failed = ap (λ (l : List ℕ). record_of l place) all ∙ record_fails rest fault.reason place fails

    first : (list : List Record) (front' rest' : List ℕ) → bytes ≡ front' ++ rest' → records front' place list → other.place ≡ place + length front' → Fails rest' other.reason → fault ≡ other
    first [] front' rest' whole' before' here' fails' =
        let all' : bytes ≡ rest' = whole' ∙ ap (λ (l : List ℕ). l ++ rest') before' in
        let failed' : record_of bytes place ≡ Err other.reason = ap (λ (l : List ℕ). record_of l place) all' ∙ record_fails rest' other.reason place fails' in
        let reasons_are : fault.reason ≡ other.reason = err_is {A = Record × ℕ} fault.reason other.reason (sym failed ∙ failed') in
        let places_are : fault.place ≡ other.place = omega (arith, here, here', ap length before, ap length before') in
        same_fault fault other places_are reasons_are
    first (q ∷ qs) front' rest' whole' before' here' fails' =
        let joined : bytes ≡ before'.0 ++ (before'.1 ++ rest') = whole' ∙ ap (λ (l : List ℕ). l ++ rest') before'.2 ∙ append_assoc before'.0 before'.1 rest' in
        let again : record_of bytes place ≡ Ok (q, length before'.0) = rw (joined, ← before'.4) (record_again q before'.0 (before'.1 ++ rest') before'.3) in
        absurd (not_both (q, length before'.0) fault.reason (sym again ∙ failed))
fault_of bytes place fault other (q ∷ qs) front rest whole before more here fails f =
    let text = before.0 in
    let next = before.1 in
    let all : bytes ≡ text ++ (next ++ rest) = whole ∙ ap (λ (l : List ℕ). l ++ rest) before.2 ∙ append_assoc text next rest in
    let again : record_of bytes place ≡ Ok (q, length text) = rw (all, ← before.4) (record_again q text (next ++ rest) before.3) in
    let left : drop (length text) bytes ≡ next ++ rest = ap (drop (length text)) all ∙ drop_at text (next ++ rest) (length text) refl in
    let there : wire_fault (drop (length text) bytes) (place + length text) other = fault_left bytes place q (length text) other again f in
    fault_of (drop (length text) bytes) (place + length text) fault other qs next rest left before.5 more (omega (arith, here, ap length before.2, length-append text next)) fails there

pub one_fault : (bytes : List ℕ) (place : ℕ) (a b : WireFault) → wire_fault bytes place a → wire_fault bytes place b → a ≡ b
one_fault bytes place a b fa fb = fault_of bytes place a b fa.list fa.front fa.rest fa.whole fa.before fa.more fa.here fa.fails fb

abbrev Decided : List ℕ → ℕ → Type 0
Decided bytes place = ((list : List Record) × records bytes place list) ⊎ ((fault : WireFault) × wire_fault bytes place fault)

decide_first : (b : ℕ) (bs : List ℕ) (place : ℕ) → AreBytes (b ∷ bs) → ((size : ℕ) → 1 ≤ size → Decided (drop size (b ∷ bs)) (place + size)) → (x : Result (Record × ℕ) WireReason) → record_of (b ∷ bs) place ≡ x → Decided (b ∷ bs) place
decide_first b bs place fits next (Err reason) e = inr (record { place = place; reason = reason }, fault_here (b ∷ bs) place reason (not_empty b bs) (record_failed (b ∷ bs) place reason fits e))
decide_first b bs place fits next (Ok found) e =
    let f = record_found (b ∷ bs) place found fits e in
    elim (next found.1 (record_long (b ∷ bs) place found.0 found.1 fits e).0) [
      | inl l ↦ inl (found.0 ∷ l.0, list_from (b ∷ bs) place found.0 found.1 l.0 f.spelled f.here f.within l.1)
      | inr w ↦ inr (w.0, fault_from (b ∷ bs) place found.0 found.1 w.0 f.spelled f.here f.within w.1)
    ]

decide_within : (fuel : ℕ) (bytes : List ℕ) (place : ℕ) → length bytes ≤ fuel → AreBytes bytes → Decided bytes place
decide_within fuel [] place short fits = inl ([], refl)
decide_within zero (b ∷ bs) place short fits = absurd (omega (arith, short))
decide_within (suc fuel) (b ∷ bs) place short fits =
    decide_first b bs place fits (λ size some. decide_within fuel (drop size (b ∷ bs)) (place + size) (omega (arith, length-drop size (b ∷ bs), short, some)) (AreBytes-drop size (b ∷ bs) fits)) (record_of (b ∷ bs) place) refl

pub decided : (bytes : List ℕ) (place : ℕ) → AreBytes bytes → ((list : List Record) × records bytes place list) ⊎ ((fault : WireFault) × wire_fault bytes place fault)
decided bytes place fits = decide_within (length bytes) bytes place (omega arith) fits
