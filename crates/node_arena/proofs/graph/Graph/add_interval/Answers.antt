use Rattle.std.proofs.Common.{◌≡◌, ℕ, ◌<◌, List, length, sym, ap, ◌∙◌, subst}
use Rattle.std.specs.Str.{bytes_eq}
use Rattle.indexmap.specs.IndexMap.{get}
use Rattle.gt_model.specs.declared.exprs.Expr.{Expr}
use Rattle.gt_model.specs.Ordered.{ordered_exprs}
use Rattle.node_arena.specs.declared.ids.NodeRef.TheVariants as refs
use Rattle.node_arena.specs.declared.nodes.IntervalNode.{IntervalNode}
use Rattle.node_arena.specs.Arenas.{Arenas}
use Rattle.node_arena.specs.Changes.{IsHeld, interval_added, empty_interval}
use Rattle.node_arena.specs.Sound.{NamesSymbolsOf, module_of_section}
use Rattle.node_arena.specs.Stored.{arenas_of}
use Rattle.node_arena.proofs.Added.{stands_interval_added}
use Rattle.node_arena.proofs.Held.{adds_from, held_by, holds_after, holds_same, none_ordered, none_named}
use Rattle.node_arena.proofs.graph.Graph.add_interval.Goals as goal

pub returns-then-contains_key-clause-taken : goal.returns-then-contains_key-clause-taken
returns-then-contains_key-clause-taken c = λ f e. (
  cc,
  subst (λ (a : Arenas). IsHeld a c.args.uuid) c.self.view_is
      (held_by (arenas_of c.self.inside.arena) (get bytes_eq c.self.inside.index) c.self.invariant.finds c.args.uuid (sym c.contains_key.ensures ∙ c.if-contains_key.true)),
)

pub invariant_of-self : goal.invariant_of-self
invariant_of-self c =
    holds_same c.self.inside.arena c.hold_interval.new.arena c.self.inside.index c.hold_interval.new.index c.self.invariant
    c.in_err-hold_interval.ensures.err c.in_err-hold_interval.ensures.same_index

pub invariant_of-self-2 : goal.invariant_of-self-2
invariant_of-self-2 c =
    let g : Arenas = arenas_of c.self.inside.arena in
    let n : IntervalNode = record (empty_interval c.args.section c.args.uuid) { contents = c.new.result; exprs = c.new-2.result; blocks = c.new-3.result } in
    let within : c.args.section.index < length g.sections = subst (λ (a : Arenas). c.args.section.index < length a.sections) (sym c.self.view_is) c.requires in
    let order = subst (λ (xs : List Expr). ordered_exprs xs) (sym c.new-2.ensures) none_ordered in
    let names = subst (λ (xs : List Expr). NamesSymbolsOf g (module_of_section g c.args.section) xs) (sym c.new-2.ensures) (none_named g (module_of_section g c.args.section)) in
    let adds = adds_from c.self.inside.index c.hold_interval.new.index c.args.uuid (refs.Interval c.in_ok-hold_interval.field-0) (refs.Interval (record { index = length g.intervals }))
    (sym c.contains_key.ensures ∙ c.if-contains_key.false) c.in_ok-hold_interval.ensures.index (ap (λ (k : ℕ). refs.Interval (record { index = k })) c.in_ok-hold_interval.ensures.id) in
    holds_after c.hold_interval.new.arena c.hold_interval.new.index (interval_added g n) c.in_ok-hold_interval.ensures.ok
    (stands_interval_added g (get bytes_eq c.self.inside.index) (get bytes_eq c.hold_interval.new.index) (record { sound = c.self.invariant.sound; finds = c.self.invariant.finds }) n within c.new-3.ensures order names adds)
