use Rattle.std.proofs.Common.{◌≡◌, ℕ, List, take, drop, replicate, None, ap, ap₂, ◌∙◌}
use Rattle.bare_image.specs.declared.image.Segment.{Segment}
use Rattle.paged_memory.specs.Mapping.{Mapping, byte_in, with_bytes}
use Rattle.paged_memory.specs.Mapped.{paged, beside}
use Rattle.paged_memory.proofs.Images.{image_mapped, apart-take, apart-drop}
use Rattle.paged_memory.proofs.memory.pages_of.Goals as goal

pub begun-requires : goal.begun-requires
begun-requires c = rw c.as_slice-segments.ensures c.requires.ascending

pub add_all-requires-clause-apart : goal.add_all-requires-clause-apart
add_all-requires-clause-apart c =
    let bound = rw c.as_slice-segments.ensures at c.begun.ensures.bound in
    rw (c.split_at.ensures.front, c.as_slice-segments.ensures) (apart-take c.args.image.now.segments c.begun.result bound c.requires.ascending)

pub add_all-requires-2-clause-apart : goal.add_all-requires-2-clause-apart
add_all-requires-2-clause-apart c = rw (c.split_at.ensures.back, c.as_slice-segments.ensures) (apart-drop c.args.image.now.segments c.begun.result c.requires.ascending)

pub returns-clause-bytes : goal.returns-clause-bytes
returns-clause-bytes c =
    let image = c.args.image.now in
    let bound = rw c.as_slice-segments.ensures at c.begun.ensures.bound in
    let point = rw c.as_slice-segments.ensures at c.begun.ensures.point in
    let zeros : c.deref.result.now ≡ replicate image.stack_size 0 = c.deref.ensures.value ∙ c.in_ok-zeros.ensures.items_if_clones_equal (λ y h. h) in
    let front : c.split_at.result.0.now ≡ take c.begun.result image.segments = c.split_at.ensures.front ∙ ap (take c.begun.result) c.as_slice-segments.ensures in
    let back : c.split_at.result.1.now ≡ drop c.begun.result image.segments = c.split_at.ensures.back ∙ ap (drop c.begun.result) c.as_slice-segments.ensures in
    let first : paged c.add_all.new.self ≡ beside (byte_in (take c.begun.result image.segments)) (λ _. None) =
    c.in_ok-add_all.ensures.bytes ∙ ap₂ (λ (ss : List Segment) (m : Mapping). beside (byte_in ss) m) front c.new-pages.ensures.none in
    let second = c.in_ok-add.ensures.bytes ∙ ap₂ (λ (m : Mapping) (bs : List ℕ). with_bytes m image.stack_at bs) first zeros in
    c.in_ok-add_all-2.ensures.bytes ∙ ap₂ (λ (ss : List Segment) (m : Mapping). beside (byte_in ss) m) back second ∙ image_mapped image c.begun.result c.requires bound point
