use Rattle.std.proofs.Common.{◌≡◌, ℕ, ◌+◌, ◌++◌, ◌∷◌, [], true, List, length, sym, ap, ◌∙◌, subst, arith}
use Rattle.std.specs.Str.{bytes_eq}
use Rattle.indexmap.specs.IndexMap.{get}
use Rattle.node_arena.specs.declared.ids.CfgEnd.{CfgEnd}
use Rattle.node_arena.specs.declared.ids.EdgeId.{EdgeId}
use Rattle.node_arena.specs.declared.nodes.EdgeNode.{EdgeNode}
use Rattle.node_arena.specs.Arenas.{Arenas}
use Rattle.node_arena.specs.Sound.{IsVertex}
use Rattle.node_arena.specs.Stored.{arenas_of}
use Rattle.node_arena.proofs.Alike.{Stands}
use Rattle.node_arena.proofs.Flow.{stands_added}
use Rattle.node_arena.proofs.graph.Graph.add_edge.Goals as goal

pub invariant_of-self-2 : goal.invariant_of-self-2
invariant_of-self-2 c =
    let g : Arenas = arenas_of c.self.inside.arena in
    let found = get bytes_eq c.self.inside.index in
    let n : EdgeNode = record { source = c.args.source; target = c.args.target; label = c.args.label } in
    let len : c.len.result ≡ length g.edges = omega arith in
    let edges : c.push-2.new.self.items ≡ g.edges ++ n ∷ [] = c.in_ok-push-2.ensures.items ∙ ap (λ (es : List EdgeNode). es ++ n ∷ []) c.in_ok-reserve.ensures.items in
    let live : c.push.new.self.items ≡ g.live ++ record { index = length g.edges } ∷ [] = c.in_ok-push.ensures.items ∙ ap (λ (k : ℕ). g.live ++ record { index = k } ∷ []) len in
    let view = sym c.self.view_is in
    let after = stands_added g found (record { sound = c.self.invariant.sound; finds = c.self.invariant.finds }) n
    (subst (λ (a : Arenas). IsVertex a c.args.source) view c.requires.source) (subst (λ (a : Arenas). IsVertex a c.args.target) view c.requires.target) in
    let with_edges = subst (λ (es : List EdgeNode). Stands (record g { edges = es; live = g.live ++ record { index = length g.edges } ∷ []; has_cfg = true }) found) (sym edges) after in
    let done = subst (λ (ids : List EdgeId). Stands (record g { edges = c.push-2.new.self.items; live = ids; has_cfg = true }) found) (sym live) with_edges in
    record { sound = done.sound; finds = done.finds }
