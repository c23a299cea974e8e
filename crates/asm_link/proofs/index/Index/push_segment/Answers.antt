use Rattle.std.proofs.Common.{◌≡◌, ◌++◌, ◌∙◌, ℕ, List, length, ap, sym, arith, rules}
use Rattle.std.proofs.lemmas.Bool.{eqb-false, eqb-true}
use Rattle.asm_lines.specs.declared.line.AsmItem.{AsmItem}
use Rattle.asm_link.specs.Linked.{items_bytes}
use Rattle.asm_link.proofs.ItemBytes.{length-items}
use Rattle.asm_link.proofs.Parts.{no_segment, one_segment, segment_is}
use Rattle.asm_link.proofs.index.Index.push_segment.Goals as goal

pub returns-then-is_empty-clause-segments : goal.returns-then-is_empty-clause-segments
returns-then-is_empty-clause-segments c =
    let l = c.args.self.now.layout.now in
    let labels = c.args.self.now.asm.now.labels in
    let i = c.args.interval.now in
    let start = c.interval_address-start.result in
    let out = c.push_items.new.out in
    let bytes : out.items ≡ items_bytes l labels start i.items = c.in_ok-push_items.ensures.bytes
    ∙ ap (λ (bs : List ℕ). bs ++ items_bytes l labels start c.as_slice.result.now) c.new-bytes.ensures.items
    ∙ ap (λ (xs : List AsmItem). items_bytes l labels start xs) c.as_slice.ensures in
    let len : out.len ≡ length out.items = search rules in
    let zero = eqb-true out.len 0 (sym c.is_empty.ensures ∙ c.if-is_empty.true) in
    no_segment l labels i c.args.segments.now.items (omega (arith, len, zero, length-items l labels start i.items, ap length bytes))

pub returns-clause-segments : goal.returns-clause-segments
returns-clause-segments c =
    let l = c.args.self.now.layout.now in
    let labels = c.args.self.now.asm.now.labels in
    let i = c.args.interval.now in
    let start = c.interval_address-start.result in
    let out = c.push_items.new.out in
    let bytes : out.items ≡ items_bytes l labels start i.items = c.in_ok-push_items.ensures.bytes
    ∙ ap (λ (bs : List ℕ). bs ++ items_bytes l labels start c.as_slice.result.now) c.new-bytes.ensures.items
    ∙ ap (λ (xs : List AsmItem). items_bytes l labels start xs) c.as_slice.ensures in
    let len : out.len ≡ length out.items = search rules in
    let some = eqb-false out.len 0 (sym c.is_empty.ensures ∙ c.if-is_empty.false) in
    c.in_ok-push.ensures.items
    ∙ one_segment l labels i c.args.segments.now.items c.segment.result (λ e. some (omega (arith, len, e, length-items l labels start i.items, ap length bytes)))
    (segment_is l labels i c.segment.result start out.items c.segment.ensures.same c.interval_address-start.ensures bytes)
