use Rattle.node_arena.specs.declared.ids.NodeRef.TheVariants as refs
use Rattle.node_arena.proofs.Held.{finds_also}
use Rattle.node_arena.proofs.holding.hold_symbol.Goals as goal

pub returns-clause-index : goal.returns-clause-index
returns-clause-index c =
    finds_also c.args.index.now c.reserve-2.new.self c.insert.new.self c.args.node.uuid (refs.Symbol (record { index = c.len.result }))
    c.in_ok-insert.ensures.updates c.in_ok-reserve-2.ensures.entries
