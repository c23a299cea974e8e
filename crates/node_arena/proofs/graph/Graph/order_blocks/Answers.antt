use Rattle.std.proofs.Common.{◌≡◌, ◌<◌, length, sym, subst}
use Rattle.std.specs.Str.{bytes_eq}
use Rattle.std.proofs.lemmas.List.{get_or_read}
use Rattle.indexmap.specs.IndexMap.{get}
use Rattle.node_arena.specs.declared.nodes.IntervalNode.{IntervalNode}
use Rattle.node_arena.specs.Arenas.{Arenas, no_interval, interval_at}
use Rattle.node_arena.specs.Changes.{Reordered}
use Rattle.node_arena.specs.Stored.{arenas_of}
use Rattle.node_arena.proofs.Ordering.{stands_ordered}
use Rattle.node_arena.proofs.graph.Graph.order_blocks.Goals as goal

pub invariant_of-self : goal.invariant_of-self
invariant_of-self c =
    let g : Arenas = arenas_of c.self.inside.arena in
    let n : IntervalNode = c.index_mut.result.now in
    let k = c.args.interval.index in
    let view = sym c.self.view_is in
    let within : k < length g.intervals = subst (λ (a : Arenas). k < length a.intervals) view c.requires.interval in
    let at = get_or_read g.intervals k n within c.index_mut.ensures.value no_interval in
    let same = subst (λ (a : Arenas). Reordered (interval_at a c.args.interval).blocks c.args.blocks) view c.requires.same_blocks in
    let after = stands_ordered g (get bytes_eq c.self.inside.index) (record { sound = c.self.invariant.sound; finds = c.self.invariant.finds }) c.args.interval n c.args.blocks within at same in
    record { sound = after.sound; finds = after.finds }
