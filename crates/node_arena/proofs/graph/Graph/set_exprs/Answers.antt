use Rattle.std.proofs.Common.{◌≡◌, ◌<◌, length, sym, ap, subst}
use Rattle.std.specs.Str.{bytes_eq}
use Rattle.std.proofs.lemmas.List.{get_or_read}
use Rattle.indexmap.specs.IndexMap.{get}
use Rattle.node_arena.specs.declared.nodes.IntervalNode.{IntervalNode}
use Rattle.node_arena.specs.Arenas.{Arenas, no_interval}
use Rattle.node_arena.specs.Sound.{NamesSymbolsOf, module_of_section, module_of_interval}
use Rattle.node_arena.specs.Stored.{arenas_of}
use Rattle.node_arena.proofs.Alike.{interval_frame}
use Rattle.node_arena.proofs.Set.{stands_interval}
use Rattle.node_arena.proofs.graph.Graph.set_exprs.Goals as goal

pub invariant_of-self : goal.invariant_of-self
invariant_of-self c =
    let g : Arenas = arenas_of c.self.inside.arena in
    let n : IntervalNode = c.index_mut.result.now in
    let k = c.args.interval.index in
    let view = sym c.self.view_is in
    let within : k < length g.intervals = subst (λ (a : Arenas). k < length a.intervals) view c.requires.interval in
    let at = get_or_read g.intervals k n within c.index_mut.ensures.value no_interval in
    let names : NamesSymbolsOf g (module_of_interval g c.args.interval) c.args.exprs = subst (λ (a : Arenas). NamesSymbolsOf a (module_of_interval a c.args.interval) c.args.exprs) view c.requires.symbols in
    let after = stands_interval g (get bytes_eq c.self.inside.index) (record { sound = c.self.invariant.sound; finds = c.self.invariant.finds }) c.args.interval
    (record n { exprs = c.args.exprs }) (ap interval_frame at) c.requires.order
    (subst (λ (m : IntervalNode). NamesSymbolsOf g (module_of_section g m.section) c.args.exprs) (sym at) names) in
    record { sound = after.sound; finds = after.finds }
