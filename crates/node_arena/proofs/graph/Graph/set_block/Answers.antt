use Rattle.std.proofs.Common.{◌≡◌, ◌<◌, ◌∙◌, length, sym, ap, subst}
use Rattle.std.specs.Str.{bytes_eq}
use Rattle.std.proofs.lemmas.List.{get_or_read}
use Rattle.indexmap.specs.IndexMap.{get}
use Rattle.gt_model.specs.declared.intervals.Body.{Body}
use Rattle.node_arena.specs.declared.nodes.BlockNode.{BlockNode}
use Rattle.node_arena.specs.Arenas.{Arenas, no_block}
use Rattle.node_arena.specs.Changes.{sized}
use Rattle.node_arena.specs.Stored.{arenas_of}
use Rattle.node_arena.proofs.Alike.{block_frame, sized-sized}
use Rattle.node_arena.proofs.Grown.{tree_joined, finds_more}
use Rattle.node_arena.proofs.Set.{stands_block}
use Rattle.node_arena.proofs.graph.Graph.set_block.Goals as goal

pub invariant_of-self : goal.invariant_of-self
invariant_of-self c =
    let g : Arenas = arenas_of c.self.inside.arena in
    let n : BlockNode = c.index_mut-node.result.now in
    let within : c.args.block.index < length g.blocks = subst (λ (a : Arenas). c.args.block.index < length a.blocks) (sym c.self.view_is) c.requires in
    let at = get_or_read g.blocks c.args.block.index n within c.index_mut-node.ensures.value no_block in
    let after = stands_block g (get bytes_eq c.self.inside.index) (record { sound = c.self.invariant.sound; finds = c.self.invariant.finds }) c.args.block
    (record n { offset = c.args.offset; body = c.resized-node.result })
    (ap (λ (b : Body). record n { offset = 0; body = sized b 0 }) c.resized-node.ensures
    ∙ ap (λ (b : Body). record n { offset = 0; body = b }) (sized-sized n.body c.args.size 0) ∙ ap block_frame at) in
    record { sound = after.sound; finds = after.finds }
