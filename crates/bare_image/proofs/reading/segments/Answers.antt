use Rattle.std.proofs.Common.{arith}
use Rattle.std.proofs.lemmas.Result.{err_from_is_err_and}
use Rattle.bare_image.proofs.Loop.{after_more, after_fault, after_all}
use Rattle.bare_image.proofs.reading.segments.Goals as goal

pub returns-in_err-next : goal.returns-in_err-next
returns-in_err-next c =
    let p = err_from_is_err_and c.from_residual.result c.from_residual.ensures.1 in
    rw (p.1, p.2) (after_fault c.args.stack.at c.args.stack.size c.args.bytes.now c.loop.segments _ c.in_err-next.field-0.0 c.args.count c.loop.counter c.loop.place c.loop.taken.end c.loop.taken.loaded c.loop-test.true c.in_err-next.ensures.segment c.loop.invariant.reads)

pub loop-preserved : goal.loop-preserved
loop-preserved c = record {
  reads = rw (c.in_ok-push.ensures.ok, c.len-len.ensures) (after_more c.args.stack.at c.args.stack.size c.args.bytes.now c.loop.segments _ c.in_ok-next.next c.args.count c.loop.counter c.loop.place c.loop.taken.end c.loop.taken.loaded c.loop-test.true c.in_ok-next.ensures.segment c.loop.invariant.reads);
  loaded = omega (arith, c.in_ok-next.ensures.loaded, c.len-len.ensures);
}

pub returns : goal.returns
returns c = after_all c.args.stack.at c.args.stack.size c.args.bytes.now c.loop.segments _ c.args.count c.loop.counter c.loop.place c.loop.taken.end c.loop.taken.loaded c.loop-test.false c.loop.invariant.reads
