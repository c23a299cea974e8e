-- The memory that an image starts with.
use Rattle.std.proofs.Common.{◌≡◌, ℕ, ◌+◌, ◌<◌, ◌≤◌, List, ◌∷◌, length, take, drop, replicate, None, All, refl, sym, ap, ◌∙◌, inl, inr, arith}
use Rattle.std.specs.Prelude.{AllPairs}
use Rattle.std.specs.Option.{option_or}
use Rattle.std.specs.List.Sorted.{IsPartitionPoint, IsNonDecreasingBy}
use Rattle.std.proofs.Math.Path.{fun_ext}
use Rattle.std.proofs.lemmas.Bool.{le-leb, lt-leb, lt-ltb, le-ltb, cases_lt}
use Rattle.std.proofs.lemmas.List.{take-append-drop, length-take-le, length-drop, length-replicate, get_or-take, get_or-drop}
use Rattle.bare_image.specs.declared.image.Image.{Image}
use Rattle.bare_image.specs.declared.image.Segment.{Segment}
use Rattle.bare_image.specs.Valid.{end_of, image_ok}
use Rattle.paged_memory.specs.Mapping.{byte_in, with_bytes, stack_of}
use Rattle.paged_memory.specs.Mapped.{beside}
use Rattle.paged_memory.proofs.Added.{byte_in-append, byte_in-none, option_or-none}

-- where each segment begins at most where the next ends
pub segments_rise : (segments : List Segment) → AllPairs (λ s later. end_of s ≤ later.at) segments → IsNonDecreasingBy (λ s. s.at) segments
segments_rise segments apart i j d le within =
    elim (cases_lt i j) [
      | inl lt ↦ omega (arith, apart i j d lt within)
      | inr ge ↦ let same : i ≡ j = omega arith in rw same (omega arith)
    ]

module _ (image : Image) (count : ℕ) (ok : image_ok image) (within : count ≤ length image.segments) (point : IsPartitionPoint (λ s. s.at ≤ image.stack_at) (λ s. image.stack_at < s.at) image.segments count) where
  pub below_stack : All (λ s. end_of s ≤ image.stack_at) (take count image.segments)
  below_stack k d lt =
      let len : length (take count image.segments) ≡ count = length-take-le count image.segments within in
      let below : k < count = omega arith in
      let s = ok.segments k d (omega arith) in
      let some = ok.stack.size_some in
      rw (get_or-take count image.segments k d below) (elim s.off_stack [
        | inl before ↦ before
        | inr behind ↦ absurd (omega (arith, point.0 k d (omega arith) below))
      ])

  pub above_stack : All (λ s. image.stack_at + image.stack_size ≤ s.at) (drop count image.segments)
  above_stack k d lt =
      let len = length-drop count image.segments in
      let s = ok.segments (count + k) d (omega arith) in
      let some = s.some in
      rw (get_or-drop count image.segments k d) (elim s.off_stack [
        | inl before ↦ absurd (omega (arith, point.1 (count + k) d (omega arith) (omega arith)))
        | inr behind ↦ behind
      ])

  -- the segments below the stack, the stack and those above it
  pub image_mapped : beside (byte_in (drop count image.segments)) (with_bytes (beside (byte_in (take count image.segments)) (λ _. None)) image.stack_at (replicate image.stack_size 0)) ≡ byte_in (stack_of image ∷ image.segments)
  image_mapped =
      let below = take count image.segments in
      let above = drop count image.segments in
      let zeros = replicate {A = ℕ} image.stack_size 0 in
      let len : length zeros ≡ image.stack_size = length-replicate image.stack_size 0 in
      let whole : (a : ℕ) → byte_in image.segments a ≡ option_or (byte_in below a) (byte_in above a) = λ a. ap (λ (ss : List Segment). byte_in ss a) (sym (take-append-drop count image.segments)) ∙ byte_in-append below above a in
      let none_above : (a : ℕ) → a < image.stack_at + image.stack_size → byte_in above a ≡ None = λ a lt. byte_in-none above a (λ k d inside. inl (omega (arith, above_stack k d inside))) in
      let none_below : (a : ℕ) → image.stack_at ≤ a → byte_in below a ≡ None = λ a le. byte_in-none below a (λ k d inside. inr (omega (arith, below_stack k d inside))) in
      fun_ext (λ a. elim (cases_lt a image.stack_at) [
        | inl before ↦ let none = none_above a (omega arith) in rw (whole a, none, lt-leb image.stack_at a before) refl
        | inr low ↦
            elim (cases_lt a (image.stack_at + length zeros)) [
              | inl inside ↦ let none = none_above a (omega arith) in rw (none, le-leb image.stack_at a low, lt-ltb a (image.stack_at + length zeros) inside) refl
              | inr behind ↦ let none = none_below a low in rw (whole a, none, le-leb image.stack_at a low, le-ltb a (image.stack_at + length zeros) behind) (option_or-none (byte_in above a))
            ]
      ])

abbrev Apart : List Segment → Type 0
Apart segments = AllPairs (λ s later. end_of s ≤ later.at) segments

pub apart-take : (segments : List Segment) (count : ℕ) → count ≤ length segments → Apart segments → Apart (take count segments)
apart-take segments count within apart i j d lt inside =
    let len : length (take count segments) ≡ count = length-take-le count segments within in
    let left : i < count = omega arith in
    let right : j < count = omega arith in
    rw (get_or-take count segments i d left, get_or-take count segments j d right) (apart i j d lt (omega arith))

pub apart-drop : (segments : List Segment) (count : ℕ) → Apart segments → Apart (drop count segments)
apart-drop segments count apart i j d lt inside =
    let len = length-drop count segments in
    rw (get_or-drop count segments i d, get_or-drop count segments j d) (apart (count + i) (count + j) d (omega arith) (omega arith))
