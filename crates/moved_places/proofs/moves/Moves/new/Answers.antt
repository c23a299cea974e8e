use Rattle.std.proofs.Common.{◌^◌, ap, subst, ◌∙◌}
use Rattle.moved_places.specs.Kept.{block_among, interval_among}
use Rattle.moved_places.proofs.Stretches.{each_small}
use Rattle.moved_places.proofs.Whole.{all_same}
use Rattle.sym_expr.specs.declared.program.Program.{Program}
use Rattle.sym_expr.specs.Points.{code_blocks}
use Rattle.sym_expr.specs.WellMade.{well_made}
use Rattle.moved_places.proofs.moves.Moves.new.Goals as goal

pub index_intervals-requires : goal.index_intervals-requires
index_intervals-requires c = each_small (2 ^ 62) c.args.program.now.stretches c.requires.sizes

pub returns : goal.returns
returns c = λ t p e.
    let m = c.args.module.now in
    all_same m t p c.in_ok-blocks.blocks c.in_ok-intervals.intervals c.in_ok-sizes.sizes (subst well_made e c.requires)
    (λ q. c.in_ok-blocks.ensures q ∙ ap (λ (g : Program). block_among m (code_blocks g) q) e)
    (λ q. c.in_ok-intervals.ensures q ∙ ap (λ (g : Program). interval_among g.stretches q) e) c.in_ok-sizes.ensures
