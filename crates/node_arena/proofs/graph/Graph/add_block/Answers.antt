use Rattle.std.proofs.Common.{◌≡◌, ℕ, ◌<◌, List, length, sym, ap, ◌∙◌, subst}
use Rattle.std.specs.Prelude.{is_some, false}
use Rattle.std.specs.Str.{bytes_eq}
use Rattle.indexmap.specs.IndexMap.{get}
use Rattle.node_arena.specs.declared.fault.AddFault.TheVariants.{Taken}
use Rattle.node_arena.specs.declared.ids.NodeRef.TheVariants as refs
use Rattle.node_arena.specs.declared.nodes.BlockNode.{BlockNode}
use Rattle.node_arena.specs.Arenas.{Arenas}
use Rattle.node_arena.specs.Changes.{IsHeld, block_added}
use Rattle.node_arena.specs.Plain.{body_id}
use Rattle.node_arena.specs.Stored.{arenas_of}
use Rattle.node_arena.proofs.Added.{stands_block_added}
use Rattle.node_arena.proofs.Held.{adds_from, held_by, holds_after, holds_same}
use Rattle.node_arena.proofs.graph.Graph.add_block.Goals as goal

pub invariant_of-self : goal.invariant_of-self
invariant_of-self c =
    holds_same c.self.inside.arena c.hold_block.new.arena c.self.inside.index c.hold_block.new.index c.self.invariant
    c.in_err-hold_block.ensures.err c.in_err-hold_block.ensures.same_index

pub invariant_of-self-2 : goal.invariant_of-self-2
invariant_of-self-2 c =
    let g : Arenas = arenas_of c.self.inside.arena in
    let n : BlockNode = record { offset = c.args.offset; body = c.args.body; interval = c.args.interval } in
    let within : c.args.interval.index < length g.intervals = subst (λ (a : Arenas). c.args.interval.index < length a.intervals) (sym c.self.view_is) c.requires.interval in
    let none : is_some (get bytes_eq c.self.inside.index (body_id c.args.body)) ≡ false =
    ap (λ (id : List ℕ). is_some (get bytes_eq c.self.inside.index id)) (sym c.identifier-uuid.ensures) ∙ sym c.contains_key.ensures ∙ c.if-contains_key.false in
    let adds = adds_from c.self.inside.index c.hold_block.new.index (body_id c.args.body) (refs.Block c.in_ok-hold_block.field-0) (refs.Block (record { index = length g.blocks }))
    none c.in_ok-hold_block.ensures.index (ap (λ (k : ℕ). refs.Block (record { index = k })) c.in_ok-hold_block.ensures.id) in
    holds_after c.hold_block.new.arena c.hold_block.new.index (block_added g c.args.after n) c.in_ok-hold_block.ensures.ok
    (stands_block_added g (get bytes_eq c.self.inside.index) (get bytes_eq c.hold_block.new.index) (record { sound = c.self.invariant.sound; finds = c.self.invariant.finds }) c.args.after n within c.requires.body adds)

pub returns-then-contains_key-clause-taken : goal.returns-then-contains_key-clause-taken
returns-then-contains_key-clause-taken c = λ f e.
    let id = c.identifier-uuid.ensures in
    let taken : f ≡ Taken c.identifier-uuid.result = cc in (
      taken ∙ ap (λ (u : List ℕ). Taken u) id,
      subst (λ (a : Arenas). IsHeld a (body_id c.args.body)) c.self.view_is
          (held_by (arenas_of c.self.inside.arena) (get bytes_eq c.self.inside.index) c.self.invariant.finds (body_id c.args.body)
          (ap (λ (u : List ℕ). is_some (get bytes_eq c.self.inside.index u)) (sym id) ∙ sym c.contains_key.ensures ∙ c.if-contains_key.true)),
    )
