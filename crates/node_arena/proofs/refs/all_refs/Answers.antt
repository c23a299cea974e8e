use Rattle.std.proofs.Common.{◌≡◌, ◌<◌, length, take, arith}
use Rattle.std.proofs.lemmas.List.{take_more, length-take}
use Rattle.node_arena.specs.Stored.{arenas_of}
use Rattle.node_arena.proofs.RefLists.{refs-pushed}
use Rattle.node_arena.proofs.refs.all_refs.Goals as goal

pub loop-index-preserved : goal.loop-index-preserved
loop-index-preserved c =
    let items = c.deref-node-items.ensures.value in
    let within : c.loop-index.index < length c.args.arena.now.modules.items = rw items at c.loop-index-test.true in
    let item = rw items at c.node-item.is in
    let len : length (take c.loop-index.index c.args.arena.now.modules.items) ≡ c.loop-index.index = simp length-take (omega arith) in
    rw (take_more c.args.arena.now.modules.items c.loop-index.index c.node-item.result within, ← item)
    (refs-pushed (arenas_of c.args.arena.now) _ _ _ _ _ _ _ _ len c.loop-index.invariant c.in_ok-push-2.ensures.items
    (rw c.as_slice.ensures at c.in_ok-push_proxies.ensures) (rw c.as_slice-in-loop-index.ensures at c.in_ok-push_symbols.ensures)
    (rw c.as_slice-in-loop-index-2.ensures at c.in_ok-push_sections.ensures))
