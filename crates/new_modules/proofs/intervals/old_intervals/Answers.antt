use Rattle.std.proofs.Common.{◌≡◌, ◌+◌, ◌<◌, List, ◌++◌, ◌∷◌, [], length, get_or, map, take, sym, ap, subst, ◌∙◌, arith}
use Rattle.std.specs.Prelude.{Contains}
use Rattle.aux_tables.specs.ModuleTables.{tables_of}
use Rattle.gt_model.specs.declared.intervals.Interval.{Interval}
use Rattle.new_modules.proofs.Shares.{is_there, mapped_more, within_here}
use Rattle.rewrite.specs.Rewritten.{new_interval}
use Rattle.sym_expr.specs.declared.program.Stretch.{Stretch}
use Rattle.sym_expr.specs.Program.{stretch}
use Rattle.new_modules.proofs.intervals.old_intervals.Goals as goal

pub bounds-stretches-place : goal.bounds-stretches-place
bounds-stretches-place c =
    let m = c.args.inserts.now.module.now in
    let p = c.args.inserts.now.patches.now in
    let within = within_here (stretch m (tables_of m) p) c.args.intervals.now c.args.program.now.stretches c.args.at c.loop-k.k c.requires.here c.loop-k-test.true in
    subst (λ (l : List Stretch). c.args.at + c.loop-k.k < length l) (sym c.as_slice-stretches.ensures) within

pub rewritten_interval-requires-clause-part : goal.rewritten_interval-requires-clause-part
rewritten_interval-requires-clause-part c =
    let m = c.args.inserts.now.module.now in
    let p = c.args.inserts.now.patches.now in
    let s = c.index-stretches-place.result in
    let within = within_here (stretch m (tables_of m) p) c.args.intervals.now c.args.program.now.stretches c.args.at c.loop-k.k c.requires.here c.loop-k-test.true in
    let is = c.index-stretches-place.is ∙ ap (λ (l : List Stretch). get_or l (c.args.at + c.loop-k.k) s) c.as_slice-stretches.ensures in
    (c.args.program.now, c.requires.well, (c.args.at + c.loop-k.k, within, sym is))

pub loop-k-preserved : goal.loop-k-preserved
loop-k-preserved c =
    let m = c.args.inserts.now.module.now in
    let t = tables_of m in
    let p = c.args.inserts.now.patches.now in
    let f = new_interval m t p in
    let k = c.loop-k.k in
    let x = c.index-intervals-k.result in
    let s = c.index-stretches-place.result in
    let is = c.index-stretches-place.is ∙ ap (λ (l : List Stretch). get_or l (c.args.at + k) s) c.as_slice-stretches.ensures in
    let there = is_there (stretch m t p) c.args.intervals.now c.args.program.now.stretches c.args.at k x s c.requires.here c.loop-k-test.true c.index-intervals-k.is is in
    c.in_ok-push.ensures.items
    ∙ ap (λ (l : List Interval). l ++ c.in_ok-new.new ∷ []) c.loop-k.invariant
    ∙ ap (λ (y : Interval). map f (take k c.args.intervals.now) ++ y ∷ []) (c.in_ok-new.ensures t there)
    ∙ mapped_more f c.args.intervals.now k x c.loop-k-test.true c.index-intervals-k.is
