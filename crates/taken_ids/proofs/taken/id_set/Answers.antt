use Rattle.std.proofs.Common.{◌∙◌}
use Rattle.taken_ids.proofs.Sets.{set_more}
use Rattle.taken_ids.proofs.taken.id_set.Goals as goal

pub loop-id-preserved : goal.loop-id-preserved
loop-id-preserved c = λ q. c.in_ok-insert.ensures.updates.0 q ∙ set_more q c.args.ids.now c.loop-id.id-index c.id-item.result _ c.loop-id-test.true c.id-item.is (c.loop-id.invariant q)
