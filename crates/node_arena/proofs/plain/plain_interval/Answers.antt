use Rattle.std.proofs.Common.{sym, subst, ap, ◌∙◌}
use Rattle.node_arena.specs.Arenas.{no_interval}
use Rattle.node_arena.specs.Parts.{live_blocks}
use Rattle.node_arena.specs.Stored.{arenas_of}
use Rattle.node_arena.specs.declared.nodes.IntervalNode.{IntervalNode}
use Rattle.node_arena.proofs.Lists.{read-same}
use Rattle.node_arena.proofs.PartsLive.{blocks-live}
use Rattle.node_arena.proofs.plain.plain_interval.Goals as goal

pub plain_blocks-requires : goal.plain_blocks-requires
plain_blocks-requires c =
    let at = c.index-node.ensures ∙ read-same c.args.arena.now.intervals.items c.args.id.index c.index-node.result.now no_interval c.requires.live in
    subst (live_blocks (arenas_of c.args.arena.now)) (sym (c.as_slice.ensures ∙ ap (λ (n : IntervalNode). n.blocks) at)) (blocks-live (arenas_of c.args.arena.now) c.requires.sound c.args.id c.requires.live)
