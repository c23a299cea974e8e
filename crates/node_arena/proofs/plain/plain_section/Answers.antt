use Rattle.std.proofs.Common.{sym, subst, ap, ◌∙◌}
use Rattle.node_arena.specs.Arenas.{no_section}
use Rattle.node_arena.specs.Parts.{live_intervals}
use Rattle.node_arena.specs.Stored.{arenas_of}
use Rattle.node_arena.specs.declared.nodes.SectionNode.{SectionNode}
use Rattle.node_arena.proofs.Lists.{read-same}
use Rattle.node_arena.proofs.PartsLive.{intervals-live}
use Rattle.node_arena.proofs.plain.plain_section.Goals as goal

pub plain_intervals-requires-clause-live : goal.plain_intervals-requires-clause-live
plain_intervals-requires-clause-live c =
    let at = c.index-node.ensures ∙ read-same c.args.arena.now.sections.items c.args.id.index c.index-node.result.now no_section c.requires.live in
    subst (live_intervals (arenas_of c.args.arena.now)) (sym (c.as_slice.ensures ∙ ap (λ (n : SectionNode). n.intervals) at)) (intervals-live (arenas_of c.args.arena.now) c.requires.sound c.args.id c.requires.live)
