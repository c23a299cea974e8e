use Rattle.std.proofs.Common.{◌≡◌, ◌<◌, length, sym, ap, subst}
use Rattle.std.specs.Str.{bytes_eq}
use Rattle.std.proofs.lemmas.List.{get_or_read}
use Rattle.std.proofs.lemmas.List.Elements.{All-get_or}
use Rattle.indexmap.specs.IndexMap.{get}
use Rattle.gt_model.specs.Ordered.{ordered_exprs}
use Rattle.node_arena.specs.declared.nodes.IntervalNode.{IntervalNode}
use Rattle.node_arena.specs.Arenas.{Arenas, no_interval}
use Rattle.node_arena.specs.Sound.{NamesSymbolsOf, module_of_section}
use Rattle.node_arena.specs.Stored.{arenas_of}
use Rattle.node_arena.proofs.Alike.{interval_frame}
use Rattle.node_arena.proofs.Set.{stands_interval}
use Rattle.node_arena.proofs.graph.Graph.set_contents.Goals as goal

pub invariant_of-self : goal.invariant_of-self
invariant_of-self c =
    let g : Arenas = arenas_of c.self.inside.arena in
    let n : IntervalNode = c.index_mut-node.result.now in
    let k = c.args.interval.index in
    let within : k < length g.intervals = subst (λ (a : Arenas). k < length a.intervals) (sym c.self.view_is) c.requires in
    let at = get_or_read g.intervals k n within c.index_mut-node.ensures.value no_interval in
    let order = All-get_or (λ (m : IntervalNode). ordered_exprs m.exprs) g.intervals k no_interval within c.self.invariant.sound.sorted.exprs in
    let names = All-get_or (λ (m : IntervalNode). NamesSymbolsOf g (module_of_section g m.section) m.exprs) g.intervals k no_interval within c.self.invariant.sound.lands.symbols in
    let after = stands_interval g (get bytes_eq c.self.inside.index) (record { sound = c.self.invariant.sound; finds = c.self.invariant.finds }) c.args.interval
    (record n { contents = c.args.contents; size = c.args.size }) (ap interval_frame at)
    (subst (λ (m : IntervalNode). ordered_exprs m.exprs) (sym at) order)
    (subst (λ (m : IntervalNode). NamesSymbolsOf g (module_of_section g m.section) m.exprs) (sym at) names) in
    record { sound = after.sound; finds = after.finds }
