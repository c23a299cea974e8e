use Rattle.std.proofs.Common.{◌-◌, ◌∙◌, drop, sym, ap, arith}
use Rattle.std.specs.Option.{option_map, option_or}
use Rattle.std.specs.Str.{bytes_eq}
use Rattle.indexmap.specs.IndexMap.{get}
use Rattle.cell_memory.specs.Blocks.{data_in}
use Rattle.cell_memory.specs.Shown.{shown}
use Rattle.cell_memory.proofs.Filled.{split_before}
use Rattle.cell_memory.proofs.Kept.{piece_before, piece_fits}
use Rattle.sym_expr.specs.States.{block_cells}
use Rattle.cell_memory.proofs.block.keep_pieces.Goals as goal

pub keep_piece-requires : goal.keep_piece-requires
keep_piece-requires c = piece_fits c.args.pieces.now (c.loop-left.left - 1) c.index-pieces-left.result (omega arith) c.index-pieces-left.is c.requires

pub loop-left-preserved : goal.loop-left-preserved
loop-left-preserved c =
    let p = c.index-pieces-left.result in
    let ps = c.args.pieces.now in
    let left = c.loop-left.left in
    record {
      within = omega arith;
      kept = λ id.
          let base = option_map shown (get bytes_eq c.args.blocks.now id) in
          piece_before p (drop left ps) id (option_map shown (get bytes_eq c.loop-left.blocks id)) (option_map shown (get bytes_eq c.keep_piece.new.blocks id)) base (c.in_ok-keep_piece.ensures id) (c.loop-left.invariant.kept id)
          ∙ sym (ap (λ qs. option_or (option_map block_cells (data_in qs id)) base) (split_before ps left p c.loop-left-test.true c.loop-left.invariant.within c.index-pieces-left.is));
    }
