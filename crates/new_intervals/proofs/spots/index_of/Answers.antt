use Rattle.std.proofs.Common.{◌-◌, Some, ap, arith, cond, sym, ◌∙◌}
use Rattle.std.specs.Str.{bytes_eq}
use Rattle.indexmap.specs.IndexMap.{get}
use Rattle.new_intervals.specs.declared.spots.Spot.{Spot}
use Rattle.new_intervals.proofs.Index.{spot_before}
use Rattle.sym_expr.specs.Images.{is_block}
use Rattle.new_intervals.proofs.spots.index_of.Goals as goal

pub loop-left-preserved : goal.loop-left-preserved
loop-left-preserved c = record {
  within = omega arith;
  held = λ id. spot_before c.args.spots.now c.loop-left.left c.index-spots-left.result id _ _ c.loop-left-test.true c.loop-left.invariant.within c.index-spots-left.is (c.in_ok-add_spot.ensures id ∙ ap (λ (x : Spot). cond (is_block id x.piece.now) (Some (c.loop-left.left - 1)) (get bytes_eq c.loop-left.index id)) (sym c.index-spots-left.is)) (c.loop-left.invariant.held id);
}
