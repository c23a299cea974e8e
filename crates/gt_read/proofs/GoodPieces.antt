-- The pieces of bytes carry numbers of 64 bits and bytes.
use Rattle.std.proofs.Common.{◌≡◌, ℕ, zero, suc, ◌+◌, ◌-◌, ◌^◌, ◌<◌, ◌≤◌, List, [], ◌∷◌, length, get_or, take, drop, Result, Ok, Err, refl}
use Rattle.std.specs.List.{AllByRecursion}
use Rattle.pb_wire.specs.declared.fault.WireReason.{WireReason}
use Rattle.pb_wire.specs.declared.records.Load.{Load}
use Rattle.pb_wire.specs.declared.records.Load.TheVariants as loads
use Rattle.pb_wire.specs.declared.records.Record.{Record}
use Rattle.pb_wire.specs.Reading.{varint_of, record_of}
use Rattle.pb_wire.specs.Records.{IsPayload, Spells}
use Rattle.pb_wire.specs.Varint.{IsVarint}
use Rattle.gt_model.specs.Typed.{AreBytes}
use Rattle.gt_read.specs.Pieces.{Carried, Number, Bytes, Fixed, Piece, carried_of, piece_of, put_first, walk_on, walk_within, pieces}
use Rattle.gt_read.specs.Kinds.{put_number, packed_on, packed_within, packed}

abbrev pub GoodCarried : Carried → Type 0
GoodCarried (Number n) = n < 2 ^ 64
GoodCarried (Bytes start bytes) = AreBytes bytes
GoodCarried Fixed = Unit {0}

abbrev pub GoodPiece : Piece → Type 0
GoodPiece p = GoodCarried p.carried

-- what is known of a record and of a varint that are read
pub record ReadIsSpelled : Type 0 where
  pub record_ : (bytes : List ℕ) (place : ℕ) (r : Record) (size : ℕ) → AreBytes bytes → record_of bytes place ≡ Ok (r, size) → (size ≤ length bytes) × Spells r (take size bytes) × (r.place ≡ place)
  pub varint : (bytes : List ℕ) (value size : ℕ) → AreBytes bytes → varint_of bytes ≡ Ok (value, size) → (size ≤ length bytes) × IsVarint (take size bytes) value
  pub small : (bytes : List ℕ) (value : ℕ) → IsVarint bytes value → value < 2 ^ 64

taken : (n : ℕ) (bytes : List ℕ) → AreBytes bytes → AreBytes (take n bytes)
taken zero bytes b = tt
taken (suc n) [] b = tt
taken (suc n) (x ∷ xs) b = (b.0, taken n xs b.1)

pub dropped : (n : ℕ) (bytes : List ℕ) → AreBytes bytes → AreBytes (drop n bytes)
dropped zero bytes b = b
dropped (suc n) [] b = tt
dropped (suc n) (x ∷ xs) b = dropped n xs b.1

-- bytes that a program holds
pub are_bytes : (bytes : List ℕ) → ((i : ℕ) → get_or bytes i 0 < 256) → AreBytes bytes
are_bytes [] h = tt
are_bytes (b ∷ bs) h = (h 0, are_bytes bs (λ i. h (suc i)))

module _ (read : ReadIsSpelled) where
  pub carried_good : (bytes : List ℕ) (base : ℕ) (load : Load) (payload : List ℕ) (at : ℕ) → AreBytes bytes → IsPayload load payload at → GoodCarried (carried_of bytes base load)
  carried_good bytes base (loads.Varint n) payload at b p = read.small payload n p
  carried_good bytes base (loads.Eight n) payload at b p = tt
  carried_good bytes base (loads.Run span) payload at b p = taken span.len (drop (span.start - base) bytes) (dropped (span.start - base) bytes b)
  carried_good bytes base (loads.Four n) payload at b p = tt

  walk_good : (n : ℕ) (bytes : List ℕ) (base : ℕ) → AreBytes bytes → AllByRecursion GoodPiece (walk_within n bytes base).pieces
  unfolding walk_within
  walk_good zero bytes base b = tt
  walk_good (suc n) [] base b = tt
  walk_good (suc n) (x ∷ xs) base b = at (λ bytes base b. walk_good n bytes base b) (record_of (x ∷ xs) base) refl
    where
      at : ((bytes : List ℕ) (base : ℕ) → AreBytes bytes → AllByRecursion GoodPiece (walk_within n bytes base).pieces) → (r : Result (Record × ℕ) WireReason) → record_of (x ∷ xs) base ≡ r
          → AllByRecursion GoodPiece (walk_on (λ found. put_first (piece_of (x ∷ xs) base found.0) (walk_within n (drop found.1 (x ∷ xs)) (base + found.1))) base r).pieces
      at more (Ok found) e =
          let s = (read.record_ (x ∷ xs) base found.0 found.1 b e).1 in
          (carried_good (x ∷ xs) base found.0.load s.payload (found.0.place + length s.key) b s.payload_is, more (drop found.1 (x ∷ xs)) (base + found.1) (dropped found.1 (x ∷ xs) b))
      at more (Err reason) e = tt

  pub pieces_good : (bytes : List ℕ) (base : ℕ) → AreBytes bytes → AllByRecursion GoodPiece (pieces bytes base)
  pieces_good bytes base b = walk_good (length bytes) bytes base b

  numbers_small : (n : ℕ) (bytes : List ℕ) → AreBytes bytes → AllByRecursion (λ m. m < 2 ^ 64) (packed_within n bytes).numbers
  unfolding packed_within
  numbers_small zero bytes b = tt
  numbers_small (suc n) [] b = tt
  numbers_small (suc n) (x ∷ xs) b = at (λ bytes b. numbers_small n bytes b) (varint_of (x ∷ xs)) refl
    where
      at : ((bytes : List ℕ) → AreBytes bytes → AllByRecursion (λ m. m < 2 ^ 64) (packed_within n bytes).numbers) → (r : Result (ℕ × ℕ) WireReason) → varint_of (x ∷ xs) ≡ r
          → AllByRecursion (λ m. m < 2 ^ 64) (packed_on (λ found. put_number found.0 (packed_within n (drop found.1 (x ∷ xs)))) r).numbers
      at more (Ok found) e = (read.small (take found.1 (x ∷ xs)) found.0 (read.varint (x ∷ xs) found.0 found.1 b e).1, more (drop found.1 (x ∷ xs)) (dropped found.1 (x ∷ xs) b))
      at more (Err reason) e = tt

  pub packed_small : (bytes : List ℕ) → AreBytes bytes → AllByRecursion (λ m. m < 2 ^ 64) (packed bytes).numbers
  packed_small bytes b = numbers_small (length bytes) bytes b
