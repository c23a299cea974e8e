use Rattle.std.proofs.Common.{ℕ, ◌+◌, List, ◌++◌, length, ap, ap₂, sym, ◌∙◌, append_assoc, arith}
use Rattle.std.specs.Prelude.{unwrap_or}
use Rattle.std.proofs.lemmas.List.{length-append}
use Rattle.std.proofs.lemmas.List.FromFn.{length-map-range_with_len}
use Rattle.paged_memory.specs.Mapping.{bytes_from}
use Rattle.paged_memory.specs.Mapped.{paged}
use Rattle.paged_memory.proofs.Spans.{is_mapped-none, bytes_from-append}
use Rattle.paged_memory.proofs.Stretches.{unmapped}
use Rattle.paged_memory.proofs.pages.Pages.append_to.Goals as goal

pub unreachable-requires : goal.unreachable-requires
unreachable-requires c =
    let p = c.args.self.now in
    is_mapped-none (paged p) c.args.at c.args.count c.loop-done.done c.requires.mapped c.loop-done-test.true (unmapped p.parts.items p.bytes.items _ c.in_default.ensures.part)

pub unwrap-requires : goal.unwrap-requires
unwrap-requires c =
    let m = paged c.args.self.now in
    let part = c.in-Some.part in
    let some = ap length c.slice.ensures ∙ length-map-range_with_len (λ a. unwrap_or (m a) 0) part.at part.count in
    let before = length-map-range_with_len (λ a. unwrap_or (m a) 0) c.args.at c.loop-done.done in
    let len = ap length c.loop-done.invariant.out ∙ length-append c.args.out.now.items (bytes_from m c.args.at c.loop-done.done) in
    c.extend_from_slice.ensures.succeeds (omega (arith, some, before, len, c.requires.room, c.loop-done.invariant.room, c.in-Some.ensures.most))

pub loop-done-preserved : goal.loop-done-preserved
loop-done-preserved c =
    let m = paged c.args.self.now in
    let part = c.in-Some.part in
    let old = c.args.out.now.items in
    let done = c.loop-done.done in
    record {
      few = omega (arith, c.in-Some.ensures.most);
      out = c.extend_from_slice.ensures.items ∙ rw c.unwrap.ensures (ap₂ (λ (a b : List ℕ). a ++ b) c.loop-done.invariant.out (c.slice.ensures ∙ ap (λ (a : ℕ). bytes_from m a part.count) c.in-Some.ensures.at)
          ∙ append_assoc old (bytes_from m c.args.at done) (bytes_from m (c.args.at + done) part.count) ∙ ap (λ (xs : List ℕ). old ++ xs) (sym (bytes_from-append m c.args.at done part.count)));
      room = omega (arith, c.loop-done.invariant.room, c.extend_from_slice.ensures.capacity);
    }
