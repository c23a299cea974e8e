-- An interval with new blocks, expressions and bytes, by its pieces alone.
use Rattle.std.specs.Prelude.{ℕ, List, ◌++◌, find, map, Option}
use Rattle.std.specs.List.{flat_map}
use Rattle.gt_model.specs.declared.intervals.Interval.{Interval}
use Rattle.new_intervals.specs.Blocks.{block_where}
use Rattle.new_intervals.specs.Inserting.{brought_by}
use Rattle.new_intervals.specs.declared.inserts.Inserts.{Inserts}
use Rattle.rewrite.specs.Contents.{new_contents}
use Rattle.rewrite.specs.Exprs.{by_offset, moved_expr}
use Rattle.sym_expr.specs.declared.program.Stretch.{Stretch}
use Rattle.sym_expr.specs.Images.{is_block}
use Rattle.sym_expr.specs.Placing.{Placed, placed, stretch_size}

-- the block of an identifier
abbrev pub block_in : Stretch → List ℕ → Option Placed
block_in s id = find (λ (x : Placed). is_block id x.piece) (placed s)

abbrev pub stretched_by : Inserts → Interval → Stretch → Interval
stretched_by n i s = record i {
  blocks = flat_map (block_where n.module.now (block_in s)) i.blocks;
  exprs = by_offset (map (moved_expr s) i.exprs ++ flat_map (brought_by n) (placed s));
  size = stretch_size s;
  contents = new_contents s;
}
