-- A packed run as a list of varints.
use Rattle.std.proofs.Common.{◌≡◌, ℕ, List, [], ◌∷◌, ◌++◌, length, Some, None, Ok, Err, refl, ap, ◌∙◌, append_assoc}
use Rattle.std.proofs.lemmas.List.{append-nil, drop_at}
use Rattle.pb_wire.specs.declared.fault.WireReason.{WireReason}
use Rattle.pb_wire.specs.Faults.{VarintFails, varints_fault}
use Rattle.pb_wire.specs.Reading.{varint_of}
use Rattle.pb_wire.specs.Varint.{IsVarint, varints}
use Rattle.gt_read.specs.Kinds.{Packed, put_number, packed}
use Rattle.gt_read.proofs.PackedRuns.{VarintsAreLong, packed-ok, packed-nil, packed-err}

-- the numbers before, and those of the rest
abbrev behind : List ℕ → Packed → Packed
behind ns p = record { numbers = ns ++ p.numbers; failed = p.failed }

-- a varint at the front is read
abbrev VarintsAreFound : Type 0
VarintsAreFound = (front rest : List ℕ) (value : ℕ) → IsVarint front value → varint_of (front ++ rest) ≡ Ok (value, length front)

module _ (long : VarintsAreLong) (found : VarintsAreFound) where
  pub first : (front rest : List ℕ) (number : ℕ) → IsVarint front number → packed (front ++ rest) ≡ put_number number (packed rest)
  first front rest number v =
      packed-ok long (front ++ rest) (number, length front) (found front rest number v)
      ∙ ap (λ b. put_number number (packed b)) (drop_at front rest (length front) refl)

  all : (front rest numbers : List ℕ) → varints front numbers → packed (front ++ rest) ≡ behind numbers (packed rest)
  all front rest [] h = ap (λ (f : List ℕ). packed (f ++ rest)) h
  all front rest (n ∷ ns) h =
      ap (λ (f : List ℕ). packed (f ++ rest)) h.2
      ∙ ap packed (append_assoc h.0 h.1 rest)
      ∙ first h.0 (h.1 ++ rest) n h.3
      ∙ ap (put_number n) (all h.1 rest ns h.4)

  pub of_list : (bytes numbers : List ℕ) → varints bytes numbers → packed bytes ≡ record { numbers = numbers; failed = None }
  of_list bytes numbers h =
      ap packed (append-nil-back bytes) ∙ all bytes [] numbers h ∙ ap (behind numbers) packed-nil ∙ ap (λ (l : List ℕ). record { numbers = l; failed = None }) (append-nil numbers)
    where
      append-nil-back : (l : List ℕ) → l ≡ l ++ []
      append-nil-back [] = refl
      append-nil-back (x ∷ xs) = ap (λ (l : List ℕ). x ∷ l) (append-nil-back xs)

  pub of_fault : ((bytes : List ℕ) (reason : WireReason) → VarintFails bytes reason → varint_of bytes ≡ Err reason)
      → (bytes numbers : List ℕ) (reason : WireReason) → varints_fault bytes numbers reason → packed bytes ≡ record { numbers = numbers; failed = Some reason }
  of_fault refused bytes numbers reason f =
      ap packed f.whole ∙ all f.front f.rest numbers f.before
      ∙ ap (behind numbers) (packed-err f.rest reason f.more (refused f.rest reason f.fails))
      ∙ ap (λ (l : List ℕ). record { numbers = l; failed = Some reason }) (append-nil numbers)
