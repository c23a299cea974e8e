use Rattle.std.proofs.Common.{◌≡◌, ℕ, ◌≤◌, All, take}
use Rattle.bare_image.specs.Valid as valid
use Rattle.paged_memory.specs.Mapping.{byte_in}
use Rattle.paged_memory.specs.Mapped.{IsPages, EndBy, paged, beside}
use Rattle.paged_memory.proofs.pages.Pages.add_all.Given as goal

abbrev pub invariant-loop-segment : goal.invariant-loop-segment
invariant-loop-segment l = record {
  pages : IsPages l.self;
  end : (limit : ℕ) → EndBy limit l.fn.self → All (λ s. valid.end_of s ≤ limit) (take l.segment-index l.segments) → EndBy limit l.self;
  bytes : paged l.self ≡ beside (byte_in (take l.segment-index l.segments)) (paged l.fn.self);
}
