use Rattle.std.proofs.Common.{rules, ◌≡◌, ℕ, ◌<◌, Bool, false, eqb, not, List, length, filter, get_or, sym, ap, ◌∙◌, subst, arith}
use Rattle.std.specs.Prelude.{All, Contains}
use Rattle.std.specs.List.{list_any}
use Rattle.std.specs.Str.{bytes_eq}
use Rattle.std.proofs.lemmas.Fn.{filter_same}
use Rattle.std.proofs.lemmas.List.Elements.{All-contains, All-weaker, filter_agree}
use Rattle.indexmap.specs.IndexMap.{get}
use Rattle.node_arena.specs.declared.ids.EdgeId.{EdgeId}
use Rattle.node_arena.specs.Arenas.{Arenas}
use Rattle.node_arena.specs.Changes.{without_edges}
use Rattle.node_arena.specs.Stored.{arenas_of}
use Rattle.node_arena.proofs.Alike.{Stands}
use Rattle.node_arena.proofs.Flow.{stands_fewer}
use Rattle.node_arena.proofs.graph.Graph.remove_edges.Goals as goal

pub marks_of-requires : goal.marks_of-requires
marks_of-requires c =
    let g : Arenas = arenas_of c.self.inside.arena in
    let live : All (Contains g.live) c.args.edges.now = subst (λ (a : Arenas). All (Contains a.live) c.args.edges.now) (sym c.self.view_is) c.requires in
    let len : c.len.result ≡ length g.edges = omega arith in
    All-weaker (Contains g.live) (λ (id : EdgeId). id.index < c.len.result)
    (λ (id : EdgeId) m. subst (λ (n : ℕ). id.index < n) (sym len) (All-contains (λ (x : EdgeId). x.index < length g.edges) g.live id c.self.invariant.sound.flow.live m))
    c.args.edges.now live

pub invariant_of-self : goal.invariant_of-self
invariant_of-self c =
    let g : Arenas = arenas_of c.self.inside.arena in
    let found = get bytes_eq c.self.inside.index in
    let marks : List Bool = c.in_ok-marks.marks.items in
    let marked = λ (id : EdgeId). not (get_or marks id.index false) in
    let named = λ (id : EdgeId). not (list_any (λ (x : EdgeId). eqb x.index id.index) c.args.edges.now) in
    let kept = filter_same _ marked _ (λ x b f' k. search rules) _ _ c.retain.ensures.filtered ∙ filter_agree marked named (λ (id : EdgeId). ap not (c.in_ok-marks.ensures id.index)) g.live in
    let after = stands_fewer g found (record { sound = c.self.invariant.sound; finds = c.self.invariant.finds }) (λ (k : ℕ). not (list_any (λ (x : EdgeId). eqb x.index k) c.args.edges.now)) in
    let done = subst (λ (ids : List EdgeId). Stands (record g { live = ids }) found) (sym kept) after in
    record { sound = done.sound; finds = done.finds }

pub returns-clause-ok : goal.returns-clause-ok
returns-clause-ok c =
    let g : Arenas = arenas_of c.self.inside.arena in
    let marks : List Bool = c.in_ok-marks.marks.items in
    let marked = λ (id : EdgeId). not (get_or marks id.index false) in
    let named = λ (id : EdgeId). not (list_any (λ (x : EdgeId). eqb x.index id.index) c.args.edges.now) in
    let kept = filter_same _ marked _ (λ x b f' k. search rules) _ _ c.retain.ensures.filtered ∙ filter_agree marked named (λ (id : EdgeId). ap not (c.in_ok-marks.ensures id.index)) g.live in
    ap (λ (ids : List EdgeId). record g { live = ids }) kept ∙ ap (λ (a : Arenas). record a { live = without_edges c.args.edges.now a.live }) c.self.view_is
