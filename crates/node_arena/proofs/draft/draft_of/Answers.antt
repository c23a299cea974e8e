use Rattle.std.proofs.lemmas.List.{take_more}
use Rattle.node_arena.proofs.draft.draft_of.Goals as goal

pub loop-module-preserved : goal.loop-module-preserved
loop-module-preserved c =
    let items = c.as_slice-module-items.ensures in
    let within = rw items at c.loop-module-test.true in
    let item = rw items at c.module-item.is in
    rw (take_more c.args.ir.now.modules c.loop-module.module-index c.module-item.result within, ← item)
    (c.in_ok-place_module.ensures c.args.ir.now _ c.loop-module.invariant)
