use Rattle.std.proofs.Common.{◌≡◌, ◌-◌, ◌∙◌, drop, sym, ap, subst, arith}
use Rattle.std.specs.List.{flat_map}
use Rattle.std.specs.Option.{option_map, option_or}
use Rattle.std.specs.Str.{bytes_eq}
use Rattle.indexmap.specs.IndexMap.{get}
use Rattle.cell_memory.specs.Blocks.{AreFit, data_in}
use Rattle.cell_memory.specs.Shown.{shown}
use Rattle.cell_memory.proofs.Filled.{split_before}
use Rattle.cell_memory.proofs.Kept.{blocks_fit, pieces_before, stretch_fits}
use Rattle.sym_expr.specs.declared.program.Stretch.{Stretch}
use Rattle.sym_expr.specs.Points.{data_blocks}
use Rattle.sym_expr.specs.States.{block_cells}
use Rattle.cell_memory.proofs.block.program_blocks.Goals as goal

pub keep_pieces-requires : goal.keep_pieces-requires
keep_pieces-requires c =
    let s = c.index-stretches-left.result in
    let g = c.args.program.now in
    let here = rw c.as_slice-stretches.ensures at c.index-stretches-left.is in
    let pieces : c.as_slice.result.now ≡ s.pieces = c.as_slice.ensures ∙ ap (λ (x : Stretch). x.pieces) (sym c.index-stretches-left.is) in
    subst AreFit (sym pieces) (stretch_fits g.stretches (c.loop-left.left - 1) s (omega arith) here (blocks_fit g (data_blocks g) c.requires.datas))

pub loop-left-preserved : goal.loop-left-preserved
loop-left-preserved c =
    let s = c.index-stretches-left.result in
    let g = c.args.program.now in
    let left = c.loop-left.left in
    let here = rw c.as_slice-stretches.ensures at c.index-stretches-left.is in
    let pieces : c.as_slice.result.now ≡ s.pieces = c.as_slice.ensures ∙ ap (λ (x : Stretch). x.pieces) (sym c.index-stretches-left.is) in
    record {
      within = omega arith;
      kept = λ id.
          let old = option_map shown (get bytes_eq c.loop-left.blocks id) in
          pieces_before s.pieces (flat_map (λ (x : Stretch). x.pieces) (drop left g.stretches)) id old (option_map shown (get bytes_eq c.keep_pieces.new.blocks id))
          (c.in_ok-keep_pieces.ensures id ∙ ap (λ ps. option_or (option_map block_cells (data_in ps id)) old) pieces) (c.loop-left.invariant.kept id)
          ∙ sym (ap (λ ss. option_map block_cells (data_in (flat_map (λ (x : Stretch). x.pieces) ss) id)) (split_before g.stretches left s c.loop-left-test.true c.loop-left.invariant.within here));
    }
