use Rattle.std.proofs.Common.{rules, ◌≡◌, ℕ, eqb, not, List, filter, sym, ap, ◌∙◌, subst}
use Rattle.std.specs.Str.{bytes_eq}
use Rattle.std.proofs.lemmas.Fn.{filter_same}
use Rattle.indexmap.specs.IndexMap.{get}
use Rattle.node_arena.specs.declared.ids.EdgeId.{EdgeId}
use Rattle.node_arena.specs.Arenas.{Arenas}
use Rattle.node_arena.specs.Stored.{arenas_of}
use Rattle.node_arena.proofs.Alike.{Stands}
use Rattle.node_arena.proofs.Flow.{stands_fewer}
use Rattle.node_arena.proofs.graph.Graph.remove_edge.Goals as goal

pub invariant_of-self : goal.invariant_of-self
invariant_of-self c =
    let g : Arenas = arenas_of c.self.inside.arena in
    let found = get bytes_eq c.self.inside.index in
    let kept = filter_same _ (λ (id : EdgeId). not (eqb id.index c.args.edge.index)) _ (λ x b f' k. search rules) _ _ c.retain.ensures.filtered in
    let after = stands_fewer g found (record { sound = c.self.invariant.sound; finds = c.self.invariant.finds }) (λ k. not (eqb k c.args.edge.index)) in
    let done = subst (λ (ids : List EdgeId). Stands (record g { live = ids }) found) (sym kept) after in
    record { sound = done.sound; finds = done.finds }

pub returns : goal.returns
returns c =
    let g : Arenas = arenas_of c.self.inside.arena in
    let kept = filter_same _ (λ (id : EdgeId). not (eqb id.index c.args.edge.index)) _ (λ x b f' k. search rules) _ _ c.retain.ensures.filtered in
    ap (λ (ids : List EdgeId). record g { live = ids }) kept
    ∙ ap (λ (a : Arenas). record a { live = filter (λ (id : EdgeId). not (eqb id.index c.args.edge.index)) a.live }) c.self.view_is
