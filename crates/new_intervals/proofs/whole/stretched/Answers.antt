use Rattle.std.proofs.Common.{sym, subst, ap, ◌∙◌}
use Rattle.std.specs.Str.{bytes_eq}
use Rattle.indexmap.specs.IndexMap.{get}
use Rattle.new_intervals.specs.Placed.{placed_all, spot_at, AreRoomy}
use Rattle.new_intervals.proofs.Assembled.{stretched_is}
use Rattle.new_intervals.proofs.Kept.{found_roomy}
use Rattle.sym_expr.specs.Images.{is_block}
use Rattle.sym_expr.specs.Placing.{Placed}
use Rattle.new_intervals.proofs.whole.stretched.Goals as goal

pub new_blocks-requires : goal.new_blocks-requires
new_blocks-requires c = λ id.
    let spots = c.as_slice-spots.result.now in
    let laid = ap placed_all c.as_slice-spots.ensures.value ∙ c.in_ok-laid.ensures.spots in
    found_roomy (spot_at spots (get bytes_eq c.in_ok-index.index) id) (λ (x : Placed). is_block id x.piece) (placed_all spots) (subst AreRoomy (sym laid) c.requires.roomy) (c.in_ok-index.ensures id)

pub returns : goal.returns
returns c =
    let spots = c.as_slice-spots.result.now in
    let laid = ap placed_all c.as_slice-spots.ensures.value ∙ c.in_ok-laid.ensures.spots in
    stretched_is c.args.inserts.now c.args.old.now c.args.stretch.now c.in_ok-moves.moves.stretch.now (placed_all spots) c.as_slice-before.result.now c.as_slice-olds.result.now
    (spot_at spots (get bytes_eq c.in_ok-index.index)) c.in_ok-blocks.blocks c.in_ok-exprs.exprs c.in_ok-laid.laid.size c.in_ok-contents.contents
    laid c.as_slice-before.ensures c.as_slice-olds.ensures c.in_ok-moves.ensures.from c.in_ok-index.ensures c.in_ok-blocks.ensures c.in_ok-exprs.ensures c.in_ok-laid.ensures.size c.in_ok-contents.ensures
