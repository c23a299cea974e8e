use Rattle.std.proofs.Common.{◌∙◌, refl, sym, ap}
use Rattle.std.specs.List.{list_any}
use Rattle.std.specs.Option.{option_map}
use Rattle.std.specs.Str.{bytes_eq}
use Rattle.std.proofs.lemmas.List.{take_all}
use Rattle.gt_model.specs.Linked.{repeated}
use Rattle.taken_ids.specs.declared.fault.RewriteFault.TheVariants.{IdTaken}
use Rattle.taken_ids.proofs.Sets.{free_more, known_more, taken_here}
use Rattle.taken_ids.proofs.taken.check_free.Goals as goal

pub loop-id-preserved : goal.loop-id-preserved
loop-id-preserved c =
    let x = c.id-item.result in
    let known = c.loop-id.invariant.known in
    record {
      known = λ q. c.in_ok-insert.ensures.updates.0 q ∙ known_more q c.args.derived.now c.loop-id.id-index x _ (list_any (bytes_eq q) c.args.taken.now) c.loop-id-test.true c.id-item.is (known q);
      distinct = free_more c.args.taken.now c.args.derived.now c.loop-id.id-index x _ c.loop-id-test.true c.id-item.is (known x) (sym c.contains.ensures ∙ c.if-contains.false) c.loop-id.invariant.distinct;
    }

pub returns-then-contains : goal.returns-then-contains
returns-then-contains c =
    let x = c.id-item.result in
    taken_here c.args.taken.now c.args.derived.now c.loop-id.id-index x _ c.loop-id-test.true c.id-item.is (c.loop-id.invariant.known x) (sym c.contains.ensures ∙ c.if-contains.true) c.loop-id.invariant.distinct

pub returns : goal.returns
returns c =
    ap (option_map IdTaken)
    (ap (repeated c.args.taken.now) (sym (take_all c.loop-id.id-index c.args.derived.now c.loop-id-test.false)) ∙ c.loop-id.invariant.distinct)
