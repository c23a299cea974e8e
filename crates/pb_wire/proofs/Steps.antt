-- One step of a cursor.
use Rattle.std.proofs.Common.{◌≡◌, ◌≢◌, false, eqb, ℕ, ◌+◌, ◌-◌, ◌<◌, ◌≤◌, List, [], ◌∷◌, length, take, drop, Ok, Err, sym, ap, subst, ◌∙◌, arith}
use Rattle.std.specs.Prelude.{◌↔◌}
use Rattle.std.proofs.lemmas.List.{take_rest, take-append-drop, length-append, length-take-le, length-drop}
use Rattle.pb_wire.specs.declared.fault.WireReason.{WireReason}
use Rattle.pb_wire.specs.declared.fault.WireFault.{WireFault}
use Rattle.pb_wire.specs.declared.records.Load.{Load}
use Rattle.pb_wire.specs.declared.records.Load.TheVariants.{Varint, Eight, Run, Four}
use Rattle.pb_wire.specs.declared.records.Record.{Record}
use Rattle.pb_wire.specs.Ahead.{Ahead}
use Rattle.pb_wire.specs.Records.{records, IsPayload, Spells, Takes, RunLies}
use Rattle.pb_wire.specs.Faults.{Fails, wire_fault}
use Rattle.pb_wire.specs.Reading.{record_of}
use Rattle.pb_wire.specs.Scanning.{IsFront, IsBroken}
use Rattle.pb_wire.proofs.Front.{record_fails}
use Rattle.pb_wire.proofs.Lasting.{front_read}
use Rattle.pb_wire.proofs.Lists.{spelling_long, first_of, list_from, fault_left, fault_from, fault_here, no_list}

abbrev ahead : ℕ → List ℕ → Ahead
ahead place bytes = record { place = place; bytes = bytes }

-- what is left behind a record of so many bytes
abbrev rest : List ℕ → ℕ → List ℕ
rest left size = take (length left - size) (drop size left)

-- a record of so many bytes was read at the place
pub record Reads (left : List ℕ) (place : ℕ) (r : Record) (size : ℕ) : Type 0 where
  pub is : record_of left place ≡ Ok (r, size)
  pub within : size ≤ length left
  pub here : r.place ≡ place
  pub spelled : Spells r (take size left)

pub reads_front : (left : List ℕ) (place : ℕ) (r : Record) (size : ℕ) → IsFront left place r size → Reads left place r size
reads_front left place r size f = record { is = front_read left place r size f; within = f.within; here = f.here; spelled = f.spelled }

pub rest_long : (left : List ℕ) (place : ℕ) (r : Record) (size : ℕ) → Reads left place r size → length (rest left size) ≡ length left - size
rest_long left place r size h = rw (take_rest left size) (omega (arith, length-drop size left))

pub together_step : (left : List ℕ) (place : ℕ) (r : Record) (size : ℕ) (old : Ahead) → ahead place left ≡ old → Reads left place r size → place + size + length (rest left size) ≡ old.place + length old.bytes
together_step left place r size old view h =
    subst (λ (o : Ahead). place + size + length (rest left size) ≡ o.place + length o.bytes) view (omega (arith, rest_long left place r size h, h.within))

some_bytes : (left : List ℕ) (place : ℕ) (r : Record) (size : ℕ) → Reads left place r size → (1 ≤ size) × (left ≢ [])
some_bytes left place r size h =
    let long : 1 ≤ size = omega (arith, spelling_long r (take size left) h.spelled, length-take-le size left h.within) in
    (long, λ e. absurd (omega (arith, ap length e, long, h.within)))

pub takes_step : (left : List ℕ) (place : ℕ) (r : Record) (size : ℕ) (old : Ahead) → ahead place left ≡ old → Reads left place r size → Takes r old (ahead (place + size) (rest left size))
takes_step left place r size old view h =
    subst (λ (o : Ahead). Takes r o (ahead (place + size) (rest left size))) view (record {
      text = take size left;
      spelled = h.spelled;
      here = h.here;
      split = rw (take_rest left size) (sym (take-append-drop size left));
      behind = omega (arith, length-take-le size left h.within);
    })

pub shorter_step : (left : List ℕ) (place : ℕ) (r : Record) (size : ℕ) (old : Ahead) → ahead place left ≡ old → Reads left place r size → length (rest left size) < length old.bytes
shorter_step left place r size old view h =
    let long = (some_bytes left place r size h).0 in
    subst (λ (o : Ahead). length (rest left size) < length o.bytes) view (rw (take_rest left size) (omega (arith, length-drop size left, long, h.within)))

run_lies : (load : Load) (bytes : List ℕ) (place size : ℕ) (left : List ℕ) (key : ℕ) → IsPayload load bytes (place + key) → key + length bytes ≤ length left → RunLies load (ahead place left) (ahead (place + (key + length bytes)) [])
run_lies (Varint n) bytes place size left key p within = tt
run_lies (Eight n) bytes place size left key p within = tt
run_lies (Four n) bytes place size left key p within = tt
run_lies (Run span) bytes place size left key p within =
    let len : length bytes ≡ length p.size + length p.content = ap length p.whole ∙ length-append p.size p.content in
    record { from = omega (arith, p.start); until = omega (arith, p.start, p.len, len); within = omega (arith, p.start, p.len, len, within) }

-- where a run ends doesn't depend on the bytes behind it
run_lies_at : (load : Load) (old : Ahead) (place : ℕ) (bytes more : List ℕ) → RunLies load old (ahead place bytes) → RunLies load old (ahead place more)
run_lies_at (Varint n) old place bytes more h = h
run_lies_at (Eight n) old place bytes more h = h
run_lies_at (Four n) old place bytes more h = h
run_lies_at (Run span) old place bytes more h = record { from = h.from; until = h.until; within = h.within }

pub run_step : (left : List ℕ) (place : ℕ) (r : Record) (size : ℕ) (old : Ahead) → ahead place left ≡ old → Reads left place r size → RunLies r.load old (ahead (place + size) (rest left size))
run_step left place r size old view h =
    let s = h.spelled in
    let len : length s.key + length s.payload ≡ size = sym (length-append s.key s.payload) ∙ sym (ap length s.whole) ∙ length-take-le size left h.within in
    let payload : IsPayload r.load s.payload (place + length s.key) = subst (λ (p : ℕ). IsPayload r.load s.payload (p + length s.key)) h.here s.payload_is in
    let lies = run_lies r.load s.payload place size left (length s.key) payload (omega (arith, len, h.within)) in
    let there : RunLies r.load (ahead place left) (ahead (place + size) []) = subst (λ (n : ℕ). RunLies r.load (ahead place left) (ahead (place + n) [])) len lies in
    subst (λ (o : Ahead). RunLies r.load o (ahead (place + size) (rest left size))) view (run_lies_at r.load (ahead place left) (place + size) [] (rest left size) there)

pub list_step : (left : List ℕ) (place : ℕ) (r : Record) (size : ℕ) (old : Ahead) → ahead place left ≡ old → Reads left place r size → (list : List Record)
    → records old.bytes old.place list ↔ ((more : List Record) × (list ≡ r ∷ more) × records (rest left size) (place + size) more)
list_step left place r size old view h list =
    subst (λ (o : Ahead). records o.bytes o.place list ↔ ((more : List Record) × (list ≡ r ∷ more) × records (rest left size) (place + size) more)) view
    (rw (take_rest left size) (there, back))
  where
    there : records left place list → (more : List Record) × (list ≡ r ∷ more) × records (drop size left) (place + size) more
    there k = let f = first_of left place r size list h.is (some_bytes left place r size h).1 k in (f.more, f.first, f.left)

    back : ((more : List Record) × (list ≡ r ∷ more) × records (drop size left) (place + size) more) → records left place list
    back m = subst (λ (l : List Record). records left place l) (sym m.1) (list_from left place r size m.0 h.spelled h.here h.within m.2)

pub fault_step : (left : List ℕ) (place : ℕ) (r : Record) (size : ℕ) (old : Ahead) → ahead place left ≡ old → Reads left place r size → (fault : WireFault)
    → wire_fault old.bytes old.place fault ↔ wire_fault (rest left size) (place + size) fault
fault_step left place r size old view h fault =
    subst (λ (o : Ahead). wire_fault o.bytes o.place fault ↔ wire_fault (rest left size) (place + size) fault) view
    (rw (take_rest left size) (fault_left left place r size fault h.is, fault_from left place r size fault h.spelled h.here h.within))

pub err_step : (left : List ℕ) (place : ℕ) (reason : WireReason) (old : Ahead) → ahead place left ≡ old → left ≢ [] → Fails left reason → wire_fault old.bytes old.place (record { place = place; reason = reason })
err_step left place reason old view some fails =
    subst (λ (o : Ahead). wire_fault o.bytes o.place (record { place = place; reason = reason })) view (fault_here left place reason some fails)

pub no_list_step : (left : List ℕ) (place : ℕ) (reason : WireReason) (old : Ahead) → ahead place left ≡ old → left ≢ [] → record_of left place ≡ Err reason → (list : List Record) → records old.bytes old.place list → ⊥
no_list_step left place reason old view some e list =
    subst (λ (o : Ahead). records o.bytes o.place list → ⊥) view (no_list left place reason list some e)

pub not_nil : (l : List ℕ) → false ≡ eqb (length l) 0 → l ≢ []
not_nil [] h = absurd cc
not_nil (b ∷ bs) h = λ e. cc

pub broken_step : (left : List ℕ) (place : ℕ) (old : Ahead) (fault : WireFault) → ahead place left ≡ old → left ≢ [] → IsBroken left place fault → wire_fault old.bytes old.place fault
broken_step left place old fault view some b =
    subst (λ at. wire_fault old.bytes old.place (record { place = at; reason = fault.reason })) (sym b.here) (err_step left place fault.reason old view some b.fails)

pub cut_step : (left : List ℕ) (place : ℕ) (reason : WireReason) (old : Ahead) → ahead place left ≡ old → left ≢ [] → Fails left reason → (list : List Record) → records old.bytes old.place list → ⊥
cut_step left place reason old view some fails = no_list_step left place reason old view some (record_fails left reason place fails)
