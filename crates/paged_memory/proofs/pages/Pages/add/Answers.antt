use Rattle.std.proofs.Common.{◌≡◌, ℕ, ◌+◌, ◌-◌, ◌≤◌, length, take, drop, ap, sym, subst, ◌∙◌, arith}
use Rattle.std.proofs.lemmas.List.{length-take-le, length-drop}
use Rattle.paged_memory.specs.Mapping.{Mapping, with_bytes}
use Rattle.paged_memory.specs.Mapped.{EndBy, paged}
use Rattle.paged_memory.proofs.Spans.{with_bytes-append}
use Rattle.paged_memory.proofs.Added.{front_and_piece}
use Rattle.paged_memory.proofs.pages.Pages.add.Goals as goal
use Rattle.paged_memory.proofs.pages.Pages.add.Goals.{then-room-bytes, else-room-bytes}

pub loop-done-preserved : goal.loop-done-preserved
loop-done-preserved c =
    let bytes = c.args.bytes.now in
    let done = c.loop-done.done in
    let end = c.if-room-bytes.end in
    let m = paged c.args.self.now in
    let few : end ≤ length bytes = elim c.if-room-bytes.branch [ then-room-bytes w ↦ omega arith | else-room-bytes w ↦ omega arith ] in
    let on : done ≤ end = elim c.if-room-bytes.branch [ then-room-bytes w ↦ omega arith | else-room-bytes w ↦ omega arith ] in
    let len : length (take done bytes) ≡ done = length-take-le done bytes c.loop-done.invariant.few in
    let slice = take (end - done) (drop done bytes) in
    let slice_len : length slice ≡ end - done = length-take-le (end - done) (drop done bytes) (omega (arith, length-drop done bytes)) in
    let place : c.args.at + done + length slice ≡ c.args.at + end = omega arith in
    record {
      few = few;
      pages = c.in_ok-add_part.ensures.pages;
      end = subst (λ (n : ℕ). EndBy n c.add_part.new.self) place c.in_ok-add_part.ensures.end;
      bytes = c.in_ok-add_part.ensures.bytes ∙ ap (λ (x : Mapping). with_bytes x (c.args.at + done) slice) c.loop-done.invariant.bytes
          ∙ ap (λ (n : ℕ). with_bytes (with_bytes m c.args.at (take done bytes)) (c.args.at + n) slice) (sym len)
          ∙ with_bytes-append m c.args.at (take done bytes) slice
          ∙ ap (with_bytes m c.args.at) (front_and_piece bytes done end on);
    }
