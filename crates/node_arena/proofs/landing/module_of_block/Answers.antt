use Rattle.std.proofs.Common.{◌<◌, sym, subst}
use Rattle.node_arena.specs.Stored.{arenas_of}
use Rattle.node_arena.proofs.Hops.{interval-within, section-within, module-reached}
use Rattle.node_arena.proofs.landing.module_of_block.Goals as goal

pub index-requires-2 : goal.index-requires-2
index-requires-2 c =
    subst (λ k. c.index.result.now.interval.index < k) (sym c.args.arena.now.intervals.ok.0)
    (interval-within (arenas_of c.args.arena.now) c.requires.tree c.args.id c.requires.within c.index.result.now c.index.ensures)

pub index-requires-3 : goal.index-requires-3
index-requires-3 c =
    subst (λ k. c.index-2.result.now.section.index < k) (sym c.args.arena.now.sections.ok.0)
    (section-within (arenas_of c.args.arena.now) c.requires.tree c.args.id c.requires.within c.index.result.now c.index.ensures c.index-2.result.now c.index-2.ensures)

pub returns : goal.returns
returns c =
    module-reached (arenas_of c.args.arena.now) c.requires.tree c.args.id c.requires.within c.index.result.now c.index.ensures c.index-2.result.now c.index-2.ensures
    c.index-3.result.now c.index-3.ensures
