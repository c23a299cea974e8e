use Rattle.std.proofs.Common.{◌≡◌, ◌<◌, ◌∙◌, length, sym, ap, subst}
use Rattle.std.specs.Str.{bytes_eq}
use Rattle.std.proofs.lemmas.List.{get_or_read}
use Rattle.indexmap.specs.IndexMap.{get}
use Rattle.node_arena.specs.declared.nodes.NodePayload.TheVariants as payloads
use Rattle.node_arena.specs.declared.nodes.SymbolNode.{SymbolNode}
use Rattle.node_arena.specs.Arenas.{Arenas, no_symbol, symbol_at}
use Rattle.node_arena.specs.Sound.{module_of_block}
use Rattle.node_arena.specs.Stored.{arenas_of}
use Rattle.node_arena.proofs.Alike.{symbol_frame}
use Rattle.node_arena.proofs.Set.{stands_symbol}
use Rattle.node_arena.proofs.graph.Graph.set_referent.Goals as goal

pub invariant_of-self : goal.invariant_of-self
invariant_of-self c =
    let g : Arenas = arenas_of c.self.inside.arena in
    let n : SymbolNode = c.index_mut.result.now in
    let view = sym c.self.view_is in
    let within : c.args.symbol.index < length g.symbols = subst (λ (a : Arenas). c.args.symbol.index < length a.symbols) view c.requires.symbol in
    let block : c.args.block.index < length g.blocks = subst (λ (a : Arenas). c.args.block.index < length a.blocks) view c.requires.block in
    let same : module_of_block g c.args.block ≡ (symbol_at g c.args.symbol).module.index =
    subst (λ (a : Arenas). module_of_block a c.args.block ≡ (symbol_at a c.args.symbol).module.index) view c.requires.same_module in
    let at = get_or_read g.symbols c.args.symbol.index n within c.index_mut.ensures.value no_symbol in
    let after = stands_symbol g (get bytes_eq c.self.inside.index) (record { sound = c.self.invariant.sound; finds = c.self.invariant.finds }) c.args.symbol
    (record n { payload = payloads.Block c.args.block }) (ap symbol_frame at)
    (block, same ∙ sym (ap (λ (m : SymbolNode). m.module.index) at)) in
    record { sound = after.sound; finds = after.finds }
