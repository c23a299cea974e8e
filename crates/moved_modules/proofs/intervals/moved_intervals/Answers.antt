use Rattle.std.proofs.Common.{◌<◌, ◌^◌, ◌++◌, ◌∷◌, [], List, map, sym, ap, subst, ◌∙◌}
use Rattle.std.specs.Prelude.{filter}
use Rattle.std.specs.List.{AllByRecursion}
use Rattle.moved_modules.specs.declared.moved.MovedInterval.{MovedInterval}
use Rattle.moved_modules.specs.Moved.{is_grown, moved_interval}
use Rattle.moved_modules.proofs.Kept.{filtered_more, holds_of}
use Rattle.sym_expr.specs.declared.program.Stretch.{Stretch}
use Rattle.sym_expr.specs.Placing.{stretch_size}
use Rattle.moved_modules.proofs.intervals.moved_intervals.Goals as goal

pub push_interval-requires : goal.push_interval-requires
push_interval-requires c =
    let small = λ (s : Stretch). stretch_size s < 2 ^ 62 in
    holds_of small c.as_slice-stretch-items.result.now c.loop-stretch.stretch-index c.stretch-item.result (subst (AllByRecursion small) (sym c.as_slice-stretch-items.ensures) c.requires) c.loop-stretch-test.true c.stretch-item.is

pub loop-stretch-preserved : goal.loop-stretch-preserved
loop-stretch-preserved c =
    let x = c.stretch-item.result in
    c.in_ok-push_interval.ensures
    ∙ ap (λ (l : List MovedInterval). l ++ map moved_interval (filter is_grown (x ∷ []))) c.loop-stretch.invariant
    ∙ sym (filtered_more moved_interval is_grown c.as_slice-stretch-items.result.now c.loop-stretch.stretch-index x c.loop-stretch-test.true c.stretch-item.is)
