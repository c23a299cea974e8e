use Rattle.std.proofs.Common.{arith}
use Rattle.asm_link.proofs.Indexing.{place_before}
use Rattle.asm_link.proofs.index.index_places.Goals as goal

pub loop-left-preserved : goal.loop-left-preserved
loop-left-preserved c = record {
  within = omega arith;
  held = λ id. place_before c.args.places.now c.loop-left.left c.index-places-left.result id _ _ c.loop-left-test.true c.loop-left.invariant.within c.index-places-left.is (c.in_ok-insert.ensures.updates.0 id) (c.loop-left.invariant.held id);
}
