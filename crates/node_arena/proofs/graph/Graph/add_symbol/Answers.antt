use Rattle.std.proofs.Common.{◌≡◌, ℕ, ◌<◌, length, sym, ap, ◌∙◌, subst}
use Rattle.std.specs.Str.{bytes_eq}
use Rattle.indexmap.specs.IndexMap.{get}
use Rattle.node_arena.specs.declared.ids.NodeRef.TheVariants as refs
use Rattle.node_arena.specs.declared.nodes.NodePayload.{NodePayload}
use Rattle.node_arena.specs.declared.nodes.SymbolNode.{SymbolNode}
use Rattle.node_arena.specs.Arenas.{Arenas}
use Rattle.node_arena.specs.Changes.{IsHeld, symbol_added}
use Rattle.node_arena.specs.Sound.{IsReferent}
use Rattle.node_arena.specs.Stored.{arenas_of}
use Rattle.node_arena.proofs.Added.{stands_symbol_added}
use Rattle.node_arena.proofs.Held.{adds_from, held_by, holds_after, holds_same, loose_lands}
use Rattle.node_arena.proofs.graph.Graph.add_symbol.Goals as goal

pub returns-then-contains_key-clause-taken : goal.returns-then-contains_key-clause-taken
returns-then-contains_key-clause-taken c = λ f e. (
  cc,
  subst (λ (a : Arenas). IsHeld a c.args.symbol.uuid) c.self.view_is
      (held_by (arenas_of c.self.inside.arena) (get bytes_eq c.self.inside.index) c.self.invariant.finds c.args.symbol.uuid (sym c.contains_key.ensures ∙ c.if-contains_key.true)),
)

pub invariant_of-self : goal.invariant_of-self
invariant_of-self c =
    holds_same c.self.inside.arena c.hold_symbol.new.arena c.self.inside.index c.hold_symbol.new.index c.self.invariant
    c.in_err-hold_symbol.ensures.err c.in_err-hold_symbol.ensures.same_index

pub invariant_of-self-2 : goal.invariant_of-self-2
invariant_of-self-2 c =
    let g : Arenas = arenas_of c.self.inside.arena in
    let n : SymbolNode = record { uuid = c.args.symbol.uuid; name = c.args.symbol.name; at_end = c.args.symbol.at_end; payload = c.payload_without_referent.result; «module» = c.args.module } in
    let within : c.args.module.index < length g.modules = subst (λ (a : Arenas). c.args.module.index < length a.modules) (sym c.self.view_is) c.requires.module in
    let referent = subst (λ (p : NodePayload). IsReferent g c.args.module p) (sym c.payload_without_referent.ensures) (loose_lands g c.args.module c.args.symbol.payload) in
    let adds = adds_from c.self.inside.index c.hold_symbol.new.index c.args.symbol.uuid (refs.Symbol c.in_ok-hold_symbol.field-0) (refs.Symbol (record { index = length g.symbols }))
    (sym c.contains_key.ensures ∙ c.if-contains_key.false) c.in_ok-hold_symbol.ensures.index (ap (λ (k : ℕ). refs.Symbol (record { index = k })) c.in_ok-hold_symbol.ensures.id) in
    holds_after c.hold_symbol.new.arena c.hold_symbol.new.index (symbol_added g n) c.in_ok-hold_symbol.ensures.ok
    (stands_symbol_added g (get bytes_eq c.self.inside.index) (get bytes_eq c.hold_symbol.new.index) (record { sound = c.self.invariant.sound; finds = c.self.invariant.finds }) n within referent adds)
