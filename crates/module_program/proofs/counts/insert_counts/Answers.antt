use Rattle.std.proofs.Common.{◌+◌, ◌&&◌, nat_eq, cond, take, sym, ap, ◌∙◌, arith}
use Rattle.std.specs.Str.{bytes_eq}
use Rattle.module_program.specs.Inserting.{count_among}
use Rattle.module_program.proofs.Inserts.{count_more, count_room}
use Rattle.module_program.proofs.counts.insert_counts.Goals as goal

pub add_count-requires : goal.add_count-requires
add_count-requires c =
    let i = c.insert-item.result in
    let same = c.loop-insert.invariant i.block i.offset in
    let room = count_room c.args.inserts.now c.loop-insert.insert-index i i.block i.offset c.loop-insert-test.true c.insert-item.is in
    omega (arith, same, room, c.requires)

pub loop-insert-preserved : goal.loop-insert-preserved
loop-insert-preserved c =
    let i = c.insert-item.result in
    λ block offset. c.in_ok-add_count.ensures block offset ∙ ap (λ n. n + cond (bytes_eq i.block block && nat_eq i.offset offset) c.len-words.result 0) (c.loop-insert.invariant block offset)
    ∙ ap (λ n. count_among (take c.loop-insert.insert-index c.args.inserts.now) block offset + cond (bytes_eq i.block block && nat_eq i.offset offset) n 0) c.len-words.ensures
    ∙ sym (count_more c.args.inserts.now c.loop-insert.insert-index i block offset c.loop-insert-test.true c.insert-item.is)
