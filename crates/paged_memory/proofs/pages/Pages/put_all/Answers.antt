use Rattle.std.proofs.Common.{◌≡◌, ℕ, ◌+◌, ◌-◌, ◌≤◌, length, take, drop, ap, sym, ◌∙◌, arith}
use Rattle.std.proofs.lemmas.List.{length-take-le, length-drop}
use Rattle.paged_memory.specs.Mapping.{Mapping, with_bytes}
use Rattle.paged_memory.specs.Mapped.{paged, stretch, IsPages, IsPart}
use Rattle.paged_memory.proofs.Added.{front_and_piece}
use Rattle.paged_memory.proofs.Places.{Shows-inner}
use Rattle.paged_memory.proofs.Spans.{is_mapped-none, with_bytes-append}
use Rattle.paged_memory.proofs.Stretches.{unmapped, put_shown}
use Rattle.paged_memory.proofs.pages.Pages.put_all.Goals as goal

pub unreachable-requires : goal.unreachable-requires
unreachable-requires c =
    let p = c.args.self.now in
    let none = rw c.loop-done.invariant.parts at c.in_default.ensures.part in
    is_mapped-none (paged p) c.args.at (length c.args.bytes.now) c.loop-done.done c.requires.mapped c.loop-done-test.true (unmapped p.parts.items p.bytes.items _ none)

pub loop-done-preserved : goal.loop-done-preserved
loop-done-preserved c =
    let bytes = c.args.bytes.now in
    let done = c.loop-done.done in
    let part = c.in-Some.part in
    let end = done + part.count in
    let m = paged c.args.self.now in
    let p = c.loop-done.self in
    let few : end ≤ length bytes = omega (arith, c.in-Some.ensures.most) in
    let slice = take (end - done) (drop done bytes) in
    let slice_len : length slice ≡ part.count = length-take-le (end - done) (drop done bytes) (omega (arith, length-drop done bytes)) ∙ omega arith in
    let len : length (take done bytes) ≡ done = length-take-le done bytes c.loop-done.invariant.few in
    let whole : IsPages p = rw (c.loop-done.invariant.parts, c.loop-done.invariant.len) c.requires.pages in
    let shows : IsPart p part = c.in-Some.ensures.part in
    let at = c.in-Some.ensures.at in
    let inner : IsPart p (stretch (c.args.at + done) (length slice) part.start) = Shows-inner p.parts.items _ part (stretch (c.args.at + done) (length slice) part.start) shows (omega arith) (omega arith) (omega arith) in
    record {
      few = few;
      parts = c.put.ensures.parts ∙ c.loop-done.invariant.parts;
      len = c.put.ensures.len ∙ c.loop-done.invariant.len;
      bytes = rw (c.put.ensures.parts, c.put.ensures.bytes) (put_shown p.parts.items p.bytes.items (c.args.at + done) part.start slice whole inner)
          ∙ ap (λ (x : Mapping). with_bytes x (c.args.at + done) slice) c.loop-done.invariant.bytes
          ∙ ap (λ (n : ℕ). with_bytes (with_bytes m c.args.at (take done bytes)) (c.args.at + n) slice) (sym len)
          ∙ with_bytes-append m c.args.at (take done bytes) slice
          ∙ ap (with_bytes m c.args.at) (front_and_piece bytes done end (omega arith));
    }
