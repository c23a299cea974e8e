use Rattle.std.proofs.Common.{sym, ◌∙◌}
use Rattle.node_arena.proofs.BareBlocks.{interval-solid, interval-bare}
use Rattle.node_arena.proofs.bare.bare_in_section.Goals as goal

pub loop-interval-preserved : goal.loop-interval-preserved
loop-interval-preserved c =
    let within = rw c.as_slice-interval-items.ensures at c.loop-interval-test.true in
    let item = rw c.as_slice-interval-items.ensures at c.interval-item.is in
    interval-solid c.args.section.now.intervals c.loop-interval.interval-index c.interval-item.result within item c.loop-interval.invariant (sym c.has_bare.ensures ∙ c.if-has_bare.false)

pub returns-then-has_bare : goal.returns-then-has_bare
returns-then-has_bare c =
    let within = rw c.as_slice-interval-items.ensures at c.loop-interval-test.true in
    let item = rw c.as_slice-interval-items.ensures at c.interval-item.is in
    interval-bare c.args.section.now.intervals c.loop-interval.interval-index c.interval-item.result within item c.loop-interval.invariant (sym c.has_bare.ensures ∙ c.if-has_bare.true)
