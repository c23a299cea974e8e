use Rattle.std.proofs.Common.{◌∙◌, sym, ap, drop, ◌+◌, [], map, get_or}
use Rattle.std.proofs.lemmas.List.{take_more}
use Rattle.gt_model.specs.Linked.{repeated}
use Rattle.node_arena.specs.declared.ids.NodeRef.TheVariants as refs
use Rattle.node_arena.specs.Sound.{ref_id}
use Rattle.node_arena.specs.Stored.{arenas_of}
use Rattle.node_arena.proofs.IndexLists.{entries-new, distinct-new, distinct-held, around}
use Rattle.node_arena.proofs.index.index_of.Goals as goal

pub loop-node-preserved : goal.loop-node-preserved
loop-node-preserved c =
    let none = sym c.is_some.ensures ∙ c.if-is_some.false in
    let g = arenas_of c.args.arena.now in
    let node = get_or c.args.nodes.now c.loop-node.node-index refs.Ir in
    rw (take_more c.args.nodes.now c.loop-node.node-index refs.Ir c.loop-node-test.true)
    record {
      entries = entries-new g _ c.loop-node.index node c.uuid_of-uuid.result c.in_ok-insert.field-0 c.loop-node.invariant.entries c.uuid_of-uuid.ensures c.in_ok-insert.ensures.old c.insert.new.self none c.in_ok-insert.ensures.entries;
      distinct = distinct-new g _ c.loop-node.index node c.uuid_of-uuid.result c.in_ok-insert.field-0 c.loop-node.invariant.entries c.uuid_of-uuid.ensures c.in_ok-insert.ensures.old none c.loop-node.invariant.distinct;
    }

pub returns-then-is_some-clause-fault : goal.returns-then-is_some-clause-fault
returns-then-is_some-clause-fault c = λ f e.
    let some = sym c.is_some.ensures ∙ c.if-is_some.true in
    let g = arenas_of c.args.arena.now in
    let node = get_or c.args.nodes.now c.loop-node.node-index refs.Ir in (
      c.uuid_of-uuid.result,
      cc,
      ap (λ l. repeated [] (map (ref_id g) l)) (around c.args.nodes.now c.loop-node.node-index refs.Ir c.loop-node-test.true)
          ∙ distinct-held g _ c.loop-node.index node c.uuid_of-uuid.result c.in_ok-insert.field-0 c.loop-node.invariant.entries c.uuid_of-uuid.ensures c.in_ok-insert.ensures.old (drop (c.loop-node.node-index + 1) c.args.nodes.now) some c.loop-node.invariant.distinct,
    )
