use Rattle.std.proofs.Common.{◌≡◌, ℕ, List, subst}
use Rattle.node_arena.specs.declared.ids.NodeRef.TheVariants as refs
use Rattle.node_arena.specs.Stored.{FindsAlso}
use Rattle.node_arena.proofs.Held.{finds_also}
use Rattle.node_arena.proofs.holding.hold_block.Goals as goal

pub returns-clause-index : goal.returns-clause-index
returns-clause-index c =
    subst (λ (id : List ℕ). FindsAlso c.args.index.now c.insert.new.self id (refs.Block (record { index = c.len.result }))) c.identifier-uuid.ensures
    (finds_also c.args.index.now c.reserve-2.new.self c.insert.new.self c.identifier-uuid.result (refs.Block (record { index = c.len.result }))
    c.in_ok-insert.ensures.updates c.in_ok-reserve-2.ensures.entries)
