use Rattle.std.proofs.Common.{◌≡◌, ◌<◌, ◌-◌, suc, Some, drop, length, refl, sym, ap, subst, arith, slice_get}
use Rattle.std.specs.List.{AllByRecursion}
use Rattle.std.proofs.lemmas.List.{length-map}
use Rattle.std.proofs.lemmas.Option.{slice_get_read}
use Rattle.sym_expr.specs.declared.program.Program.{Program}
use Rattle.sym_expr.specs.Placing.{Placed, placed}
use Rattle.sym_expr.specs.Points.{first_code}
use Rattle.sym_expr.specs.WellMade.{well_made}
use Rattle.indexed_program.specs.Building.{IsAhead, StandsAt}
use Rattle.indexed_program.specs.Kept.{IsKept}
use Rattle.indexed_program.proofs.Keeping.{kept_all}
use Rattle.indexed_program.proofs.Steps.{dropped_at, length_placed, placed_at_index, size_at, stands_at}
use Rattle.indexed_program.proofs.building.add_stretch.Goals as goal

pub index-requires : goal.index-requires
index-requires c =
    let made = ap length c.in_ok-offsets.ensures in
    let all = length-map (placed c.args.stretch.now) (λ (x : Placed). x.at) in
    let same = length_placed 0 c.args.stretch.now.pieces in
    omega (arith, made, all, same, c.loop-left.invariant.within, c.loop-left-test.true)

pub add_piece-requires : goal.add_piece-requires
add_piece-requires c =
    let s = c.args.stretch.now in
    let k = c.loop-left.left - 1 in
    let p = c.index-pieces-left.result in
    let within : k < length s.pieces = omega (arith, c.loop-left.invariant.within, c.loop-left-test.true) in
    let here = slice_get_read s.pieces (length s.pieces) k p refl within (rw c.as_slice-pieces.ensures at c.index-pieces-left.is) in
    omega (arith, size_at s k p here, c.requires)

pub loop-left-preserved : goal.loop-left-preserved
loop-left-preserved c =
    let s = c.args.stretch.now in
    let k = c.loop-left.left - 1 in
    let p = c.index-pieces-left.result in
    let old = c.loop-left.indexes in
    let new = c.add_piece.new.indexes in
    let within : k < length s.pieces = omega (arith, c.loop-left.invariant.within, c.loop-left-test.true) in
    let next : suc k ≡ c.loop-left.left = omega (arith, c.loop-left-test.true) in
    let here = slice_get_read s.pieces (length s.pieces) k p refl within (rw c.as_slice-pieces.ensures at c.index-pieces-left.is) in
    let stands : (g : Program) → well_made g → slice_get g.stretches c.args.number ≡ Some s → StandsAt g s (record { stretch = c.args.number; piece = k }) c.index.result.now p c.loop-left.ahead =
    λ g well e. stands_at g s c.args.number k c.index.result.now p c.loop-left.ahead well e
    (placed_at_index s c.in_ok-offsets.offsets.items k c.index.result.now p c.in_ok-offsets.ensures here c.index.ensures)
    (subst (λ n. IsAhead g (first_code (drop n s.pieces)) c.loop-left.ahead) (sym next) (c.loop-left.invariant.ahead g well e)) in
    record {
      within = omega arith;
      right = λ g well e r. c.in_ok-ahead.ensures.right g s (stands g well e) (c.loop-left.invariant.right g well e r);
      keeps = λ q kept. c.in_ok-ahead.ensures.keeps q (c.loop-left.invariant.keeps q kept);
      kept = subst (AllByRecursion (IsKept new)) (sym (dropped_at s.pieces k p here)) (c.in_ok-ahead.ensures.kept, kept_all old new c.in_ok-ahead.ensures.keeps (drop (suc k) s.pieces) (subst (λ n. AllByRecursion (IsKept old) (drop n s.pieces)) (sym next) c.loop-left.invariant.kept));
      ahead = λ g well e. subst (λ ps. IsAhead g (first_code ps) c.in_ok-ahead.ahead) (sym (dropped_at s.pieces k p here)) (c.in_ok-ahead.ensures.next g s (stands g well e));
    }
