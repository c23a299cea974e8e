-- The walk over the records of bytes, one record at a time, as a cursor goes.
use Rattle.std.proofs.Common.{◌≡◌, ◌≢◌, ℕ, zero, suc, ◌+◌, ◌≤◌, List, [], ◌∷◌, ◌++◌, length, drop, Some, None, Result, Ok, Err, refl, sym, ap, ◌∙◌, arith}
use Rattle.std.proofs.lemmas.List.{length-drop, drop_at, nil_from_length}
use Rattle.pb_wire.specs.declared.fault.WireFault.{WireFault}
use Rattle.pb_wire.specs.declared.fault.WireReason.{WireReason}
use Rattle.pb_wire.specs.declared.records.Record.{Record}
use Rattle.pb_wire.specs.Ahead.{Ahead}
use Rattle.pb_wire.specs.Records.{Spells, Takes}
use Rattle.pb_wire.specs.Faults.{Fails, wire_fault}
use Rattle.pb_wire.specs.Reading.{varint_within, record_of}
use Rattle.gt_read.specs.Pieces.{piece_of, put_first, walk_on, walk_within, walk}

-- what is known of the reading of one record
pub record OneRecord : Type 0 where
  pub found : (r : Record) (text rest : List ℕ) → Spells r text → record_of (text ++ rest) r.place ≡ Ok (r, length text)
  pub refused : (bytes : List ℕ) (reason : WireReason) (place : ℕ) → Fails bytes reason → record_of bytes place ≡ Err reason
  pub some : (bytes : List ℕ) (place : ℕ) (r : Record) (size : ℕ) → record_of bytes place ≡ Ok (r, size) → 1 ≤ size

shorter : (b : ℕ) (bs : List ℕ) (n k : ℕ) → length (b ∷ bs) ≤ suc n → 1 ≤ k → length (drop k (b ∷ bs)) ≤ n
shorter b bs n k h one = omega (arith, length-drop k (b ∷ bs))

pub walk-nil : (base : ℕ) → walk [] base ≡ record { pieces = []; broken = None }
unfolding walk_within
walk-nil base = refl

pub walk-err : (bytes : List ℕ) (base : ℕ) (reason : WireReason) → bytes ≢ [] → record_of bytes base ≡ Err reason → walk bytes base ≡ record { pieces = []; broken = Some (record { place = base; reason = reason }) }
unfolding walk_within
walk-err [] base reason some e = absurd (some refl)
walk-err (b ∷ bs) base reason some e = ap (walk_on (λ found. put_first (piece_of (b ∷ bs) base found.0) (walk_within (length bs) (drop found.1 (b ∷ bs)) (base + found.1))) base) e

module _ (one : OneRecord) where
  -- ---- how many records may come makes no difference

  walk_same : (n m : ℕ) (bytes : List ℕ) (base : ℕ) → length bytes ≤ n → length bytes ≤ m → walk_within n bytes base ≡ walk_within m bytes base
  unfolding walk_within
  walk_same zero zero bytes base h k = refl
  walk_same zero (suc m) [] base h k = refl
  walk_same zero (suc m) (b ∷ bs) base h k = absurd (omega arith)
  walk_same (suc n) zero [] base h k = refl
  walk_same (suc n) zero (b ∷ bs) base h k = absurd (omega arith)
  walk_same (suc n) (suc m) [] base h k = refl
  walk_same (suc n) (suc m) (b ∷ bs) base h k = at (λ bytes place. walk_same n m bytes place) (record_of (b ∷ bs) base) refl
    where
      at : ((bytes : List ℕ) (place : ℕ) → length bytes ≤ n → length bytes ≤ m → walk_within n bytes place ≡ walk_within m bytes place)
          → (r : Result (Record × ℕ) WireReason) → record_of (b ∷ bs) base ≡ r
          → walk_on (λ found. put_first (piece_of (b ∷ bs) base found.0) (walk_within n (drop found.1 (b ∷ bs)) (base + found.1))) base r
          ≡ walk_on (λ found. put_first (piece_of (b ∷ bs) base found.0) (walk_within m (drop found.1 (b ∷ bs)) (base + found.1))) base r
      at same (Ok found) e =
          let long = one.some (b ∷ bs) base found.0 found.1 e in
          ap (put_first (piece_of (b ∷ bs) base found.0)) (same (drop found.1 (b ∷ bs)) (base + found.1) (shorter b bs n found.1 h long) (shorter b bs m found.1 k long))
      at same (Err reason) e = refl

  pub walk-ok : (bytes : List ℕ) (base : ℕ) (found : Record × ℕ) → record_of bytes base ≡ Ok found → walk bytes base ≡ put_first (piece_of bytes base found.0) (walk (drop found.1 bytes) (base + found.1))
  unfolding walk_within record_of varint_within
  walk-ok [] base found e = absurd cc
  walk-ok (b ∷ bs) base found e =
      let long = one.some (b ∷ bs) base found.0 found.1 e in
      ap (walk_on (λ found. put_first (piece_of (b ∷ bs) base found.0) (walk_within (length bs) (drop found.1 (b ∷ bs)) (base + found.1))) base) e
      ∙ ap (put_first (piece_of (b ∷ bs) base found.0)) (walk_same (length bs) (length (drop found.1 (b ∷ bs))) (drop found.1 (b ∷ bs)) (base + found.1) (shorter b bs (length bs) found.1 (omega arith) long) (omega arith))

  -- ---- a cursor's step

  pub walk_takes : (r : Record) (old new : Ahead) → Takes r old new → walk old.bytes old.place ≡ put_first (piece_of old.bytes old.place r) (walk new.bytes new.place)
  walk_takes r old new t =
      let again : record_of (t.text ++ new.bytes) r.place ≡ Ok (r, length t.text) = one.found r t.text new.bytes t.spelled in
      let e : record_of old.bytes old.place ≡ Ok (r, length t.text) = rw (t.split, ← t.here) again in
      let rest : drop (length t.text) old.bytes ≡ new.bytes = rw t.split (drop_at t.text new.bytes (length t.text) refl) in
      walk-ok old.bytes old.place (r, length t.text) e ∙ ap (put_first (piece_of old.bytes old.place r)) (ap (λ b. walk b (old.place + length t.text)) rest ∙ ap (walk new.bytes) (sym t.behind))

  pub walk_fails : (bytes : List ℕ) (base : ℕ) (fault : WireFault) → wire_fault bytes base fault → fault.place ≡ base → walk bytes base ≡ record { pieces = []; broken = Some fault }
  walk_fails bytes base fault w here =
      let nothing : w.front ≡ [] = nil_from_length w.front (omega (arith, w.here)) in
      let same : bytes ≡ w.rest = w.whole ∙ ap (λ (f : List ℕ). f ++ w.rest) nothing in
      let some : bytes ≢ [] = λ e. w.more (sym same ∙ e) in
      let e : record_of bytes base ≡ Err fault.reason = rw same (one.refused w.rest fault.reason base w.fails) in
      walk-err bytes base fault.reason some e ∙ ap (λ (place : ℕ). record { pieces = []; broken = Some (record { place = place; reason = fault.reason }) }) (sym here)
