use Rattle.std.proofs.Common.{◌≤◌, ◌∙◌, ◌++◌, length, take, drop, subst, sym, ap, arith, length-take, length-append}
use Rattle.std.proofs.lemmas.List.{length-take-le, take-append-le}
use Rattle.gr_base.proofs.Reading.{goes_on_in, spent}
use Rattle.gr_base.proofs.whole.read_into.Goals as goal

pub loop-count-preserved : goal.loop-count-preserved
loop-count-preserved g c =
    let room = length-take c.min-size.result c.loop-count.buffer in
    let so_far = c.loop-count.invariant in
    let more = c.in_ok-more.more in
    let within : more ≤ length c.fetch.new.buf = omega (arith, c.fetch.auto.buf, c.in_ok-more.ensures.bound) in
    let piece = take more c.fetch.new.buf in
    let bytes = so_far.bytes ++ piece in
    record {
      bytes = bytes;
      len = omega (arith, length-append so_far.bytes piece, length-take-le more c.fetch.new.buf within, so_far.len);
      took = g.met.T.Taker.took_both c.args.taker.now c.loop-count.taker c.take.new.self so_far.bytes piece so_far.took
          (subst (λ p. g.T.Taker.took c.loop-count.taker p c.take.new.self) (take-append-le more c.fetch.new.buf (drop c.min-size.result c.loop-count.buffer) within) c.in_ok-take.ensures);
      reading = goes_on_in c.args.name.now so_far.bytes c.fetch.new.buf (drop c.min-size.result c.loop-count.buffer) bytes
          (g.D.Desk.files c.args.desk.now) (g.D.Desk.files c.loop-count.desk) (g.D.Desk.files c.fetch.new.self) (g.D.Desk.taken c.args.desk.now) (g.D.Desk.taken c.loop-count.desk) (g.D.Desk.taken c.fetch.new.self)
          more c.loop-count.count so_far.reading (sym so_far.len) c.in_ok-more.ensures.content c.in_ok-more.ensures.files c.in_ok-more.ensures.taken
          within (omega (arith, room, c.in_ok-more.ensures.bound, so_far.len)) (ap (λ p. so_far.bytes ++ p) (sym (take-append-le more c.fetch.new.buf (drop c.min-size.result c.loop-count.buffer) within)));
      made = c.in_ok-more.ensures.made ∙ so_far.made;
      steady = c.in_ok-more.ensures.steady ∙ so_far.steady;
      read_later = omega (arith, c.in_ok-more.ensures.read_cause.later, so_far.read_later);
      write_later = omega (arith, c.in_ok-more.ensures.write_later, so_far.write_later);
    }

pub returns-in_err-take-clause-taken : goal.returns-in_err-take-clause-taken
returns-in_err-take-clause-taken g c =
    let room = length-take c.min-size.result c.loop-count.buffer in
    let so_far = c.loop-count.invariant in
    spent c.args.name.now so_far.bytes (g.D.Desk.files c.args.desk.now) (g.D.Desk.files c.loop-count.desk) (g.D.Desk.taken c.args.desk.now) (g.D.Desk.taken c.loop-count.desk) (g.D.Desk.taken c.fetch.new.self)
    c.in_ok-more.more so_far.reading c.in_ok-more.ensures.taken (omega (arith, room, c.in_ok-more.ensures.bound, so_far.len))
