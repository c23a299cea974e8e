-- Segments that a loop reads one after the other.
use Rattle.std.proofs.Common.{◌≡◌, ℕ, suc, ◌-◌, ◌+◌, ◌≤◌, ◌<◌, List, [], ◌∷◌, ◌++◌, length, Result, Ok, Err, refl, sym, ap, ◌∙◌, append_assoc, arith}
use Rattle.std.proofs.lemmas.List.{append-nil}
use Rattle.gr_base.specs.declared.end.End.{End}
use Rattle.gr_base.specs.declared.end.End.TheVariants as ends
use Rattle.bare_image.specs.declared.fault.ImageFault.{ImageFault}
use Rattle.bare_image.specs.declared.image.Segment.{Segment}
use Rattle.bare_image.specs.Reading.{◌>>=◌, Fails, segment_at, segments_at}

-- what reading gives behind segments that were read before
abbrev pub after : List Segment → Result (List Segment × ℕ) ImageFault → Result (List Segment × ℕ) ImageFault
after front read = read >>= λ x. Ok (front ++ x.0, x.1)

after-cons : (front : List Segment) (s : Segment) (read : Result (List Segment × ℕ) ImageFault) → after front (read >>= λ x. Ok (s ∷ x.0, x.1)) ≡ after (front ++ s ∷ []) read
after-cons front s (Ok x) = ap (λ (ss : List Segment). Ok (ss, x.1)) (simp append_assoc)
after-cons front s (Err f) = refl

module _ (stack_at stack_size : ℕ) (bytes : List ℕ) (front : List Segment) (total : Result (List Segment × ℕ) ImageFault) where
  -- one more segment
  pub after_more : (s : Segment) (count i place least loaded : ℕ) → i < count → segment_at stack_at stack_size least loaded bytes place ≡ Ok s
      → after front (segments_at stack_at stack_size least loaded bytes (count - i) place) ≡ total
      → after (front ++ s ∷ []) (segments_at stack_at stack_size (s.at + length s.bytes) (loaded + length s.bytes) bytes (count - (i + 1)) (place + (16 + length s.bytes))) ≡ total
  unfolding segments_at
  after_more s count i place least loaded lt read so_far =
      let k : count - i ≡ suc (count - (i + 1)) = omega arith in
      let step : after front (segments_at stack_at stack_size least loaded bytes (count - i) place) ≡ after (front ++ s ∷ []) (segments_at stack_at stack_size (s.at + length s.bytes) (loaded + length s.bytes) bytes (count - (i + 1)) (place + (16 + length s.bytes))) =
      rw (k, read) (after-cons front s (segments_at stack_at stack_size (s.at + length s.bytes) (loaded + length s.bytes) bytes (count - (i + 1)) (place + (16 + length s.bytes)))) in
      sym step ∙ so_far

  -- a segment that is not read
  pub after_fault : (e : End ImageFault) (count i place least loaded : ℕ) → i < count → Fails e (segment_at stack_at stack_size least loaded bytes place)
      → after front (segments_at stack_at stack_size least loaded bytes (count - i) place) ≡ total → Fails e total
  unfolding segments_at
  after_fault ends.Memory count i place least loaded lt read so_far = tt
  after_fault (ends.Fault f) count i place least loaded lt read so_far =
      let k : count - i ≡ suc (count - (i + 1)) = omega arith in
      let step : after front (segments_at stack_at stack_size least loaded bytes (count - i) place) ≡ Err f = rw (k, read) refl in
      sym so_far ∙ step

  -- none is left
  pub after_all : (count i place least loaded : ℕ) → count ≤ i → after front (segments_at stack_at stack_size least loaded bytes (count - i) place) ≡ total → total ≡ Ok (front, place)
  unfolding segments_at
  after_all count i place least loaded le so_far =
      let k : count - i ≡ 0 = omega arith in
      let step : after front (segments_at stack_at stack_size least loaded bytes (count - i) place) ≡ Ok (front, place) = rw k (ap (λ (ss : List Segment). Ok (ss, place)) (append-nil front)) in
      sym so_far ∙ step
