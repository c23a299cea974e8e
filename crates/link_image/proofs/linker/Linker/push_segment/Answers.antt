use Rattle.std.proofs.Common.{◌≡◌, ◌∙◌, length, ap, sym, arith, rules}
use Rattle.std.proofs.lemmas.Bool.{eqb-false, eqb-true}
use Rattle.link_image.proofs.Lengths.{length-stretch}
use Rattle.link_image.proofs.Parts.{no_segment, one_segment, segment_is}
use Rattle.link_image.proofs.linker.Linker.push_segment.Goals as goal

pub returns-then-is_empty-clause-segments : goal.returns-then-is_empty-clause-segments
returns-then-is_empty-clause-segments c =
    let l = c.args.self.now.layout.now in
    let g = c.args.self.now.program.now in
    let len : c.in_ok-bytes.bytes.len ≡ length c.in_ok-bytes.bytes.items = search rules in
    let zero = eqb-true c.in_ok-bytes.bytes.len 0 (sym c.is_empty.ensures ∙ c.if-is_empty.true) in
    no_segment l g c.args.stretch.now c.args.segments.now.items (omega (arith, len, zero, length-stretch l g c.args.stretch.now c.requires.pieces, ap length c.in_ok-bytes.ensures.bytes))

pub returns-clause-segments : goal.returns-clause-segments
returns-clause-segments c =
    let l = c.args.self.now.layout.now in
    let g = c.args.self.now.program.now in
    let len : c.in_ok-bytes.bytes.len ≡ length c.in_ok-bytes.bytes.items = search rules in
    let some = eqb-false c.in_ok-bytes.bytes.len 0 (sym c.is_empty.ensures ∙ c.if-is_empty.false) in
    c.in_ok-push.ensures.items
    ∙ one_segment l g c.args.stretch.now c.args.segments.now.items c.segment.result (λ e. some (omega (arith, len, e, length-stretch l g c.args.stretch.now c.requires.pieces, ap length c.in_ok-bytes.ensures.bytes)))
    (segment_is l g c.args.stretch.now c.segment.result c.interval_address-start.result c.in_ok-bytes.bytes.items c.segment.ensures.same c.interval_address-start.ensures c.in_ok-bytes.ensures.bytes)
