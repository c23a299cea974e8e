use Rattle.std.proofs.Common.{◌≡◌, ℕ, ◌+◌, ◌<◌, ◌≤◌, List, [], ◌∷◌, ◌++◌, length, get_or, take, All, ap, sym, ◌∙◌, arith}
use Rattle.std.proofs.lemmas.List.{length-take-le, get_or-take, get_or_read, take_more}
use Rattle.std.proofs.lemmas.List.Elements.{All-take}
use Rattle.std.specs.Prelude.{AllPairs}
use Rattle.bare_image.specs.declared.image.Segment.{Segment}
use Rattle.bare_image.specs.Valid as valid
use Rattle.paged_memory.specs.Mapping.{Mapping, byte_in, with_bytes}
use Rattle.paged_memory.specs.Mapped.{paged, beside}
use Rattle.paged_memory.proofs.Added.{segment_added}
use Rattle.paged_memory.proofs.pages.Pages.add_all.Goals as goal

-- the segments before one end at it or below
ends_before : (segments : List Segment) (i : ℕ) (s : Segment) → i < length segments → s ≡ get_or segments i s → AllPairs (λ t later. valid.end_of t ≤ later.at) segments → All (λ t. valid.end_of t ≤ s.at) (take i segments)
ends_before segments i s lt is apart = λ k d within.
    let len : length (take i segments) ≡ i = length-take-le i segments (omega arith) in
    let below : k < i = omega arith in
    let same : s ≡ get_or segments i d = get_or_read segments i s lt is d in
    rw (get_or-take i segments k d below, same) (apart k i d below lt)

pub add-requires-clause-end : goal.add-requires-clause-end
add-requires-clause-end c =
    let segments = c.args.segments.now in
    let i = c.loop-segment.segment-index in
    let s = c.segment-item.result in
    let same = get_or_read segments i s c.loop-segment-test.true c.segment-item.is s in
    c.loop-segment.invariant.end s.at (rw same (c.requires.end i s c.loop-segment-test.true)) (ends_before segments i s c.loop-segment-test.true c.segment-item.is c.requires.apart)

pub loop-segment-preserved : goal.loop-segment-preserved
loop-segment-preserved c =
    let segments = c.args.segments.now in
    let i = c.loop-segment.segment-index in
    let s = c.segment-item.result in
    let m = paged c.args.self.now in
    let lt = c.loop-segment-test.true in
    let more : take (i + 1) segments ≡ take i segments ++ s ∷ [] = take_more segments i s lt ∙ ap (λ (t : Segment). take i segments ++ t ∷ []) (sym c.segment-item.is) in
    let len : length (take i segments) ≡ i = length-take-le i segments (omega arith) in
    let bytes = c.as_slice.ensures in
    record {
      pages = c.in_ok-add.ensures.pages;
      end = λ limit start ends k d within.
          let here : get_or (take (i + 1) segments) i s ≡ s = get_or-take (i + 1) segments i s (omega arith) ∙ sym c.segment-item.is in
          let last = rw here at (ends i s (omega (arith, length-take-le (i + 1) segments (omega arith)))) in
          omega (arith, c.in_ok-add.ensures.end k d within, ap length bytes, last);
      bytes = c.in_ok-add.ensures.bytes ∙ ap (with_bytes (paged c.loop-segment.self) s.at) bytes ∙ ap (λ (x : Mapping). with_bytes x s.at s.bytes) c.loop-segment.invariant.bytes
          ∙ segment_added (take i segments) m s (ends_before segments i s lt c.segment-item.is c.requires.apart) ∙ ap (λ (xs : List Segment). beside (byte_in xs) m) (sym more);
    }

pub returns-clause-end : goal.returns-clause-end
returns-clause-end c = λ limit start ends. c.loop-segment.invariant.end limit start (All-take (λ s. valid.end_of s ≤ limit) c.loop-segment.segment-index c.args.segments.now ends)
