use Rattle.std.proofs.Common.{length, refl, take}
use Rattle.std.specs.List.{AllByRecursion}
use Rattle.std.proofs.lemmas.Option.{slice_get_read}
use Rattle.sym_expr.specs.declared.program.Stretch.{Stretch}
use Rattle.indexed_program.specs.Kept.{IsKept}
use Rattle.indexed_program.proofs.Keeping.{kept_all}
use Rattle.indexed_program.proofs.Lists.{all_through}
use Rattle.indexed_program.proofs.Steps.{all_taken}
use Rattle.indexed_program.proofs.building.index_program.Goals as goal

pub loop-number-preserved : goal.loop-number-preserved
loop-number-preserved c =
    let ss = c.args.program.now.stretches in
    let i = c.loop-number.number in
    let s = c.stretch-item.result in
    let old = c.loop-number.indexes in
    let new = c.add_stretch.new.indexes in
    let lt = rw c.as_slice-stretch-items.ensures at c.loop-number-test.true in
    let is = rw c.as_slice-stretch-items.ensures at c.stretch-item.is in
    record {
      right = c.in_ok-add_stretch.ensures.right c.args.program.now c.requires (slice_get_read ss (length ss) i s refl lt is) c.loop-number.invariant.right;
      kept = all_taken (λ (t : Stretch). AllByRecursion (IsKept new) t.pieces) ss i s lt is
          (all_through (λ (t : Stretch). AllByRecursion (IsKept old) t.pieces) (λ (t : Stretch). AllByRecursion (IsKept new) t.pieces) (λ t. kept_all old new c.in_ok-add_stretch.ensures.keeps t.pieces) (take i ss) c.loop-number.invariant.kept)
          c.in_ok-add_stretch.ensures.kept;
    }
