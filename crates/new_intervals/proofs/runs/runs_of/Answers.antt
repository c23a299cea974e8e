use Rattle.std.proofs.Common.{◌++◌, ◌+◌, [], List, ap, sym, subst, append-nil, arith, drop, refl}
use Rattle.std.proofs.lemmas.List.{drop_all}
use Rattle.new_intervals.specs.Moving.{AreRuns, IsRun}
use Rattle.new_intervals.specs.Placed.{placed_all, placed_of}
use Rattle.new_intervals.specs.declared.runs.Run.{Run}
use Rattle.new_intervals.specs.declared.spots.Spot.{Spot}
use Rattle.new_intervals.proofs.Listing.{item_roomy, runs_next, sum_next}
use Rattle.new_intervals.proofs.runs.runs_of.Goals as goal

pub old_size-requires : goal.old_size-requires
old_size-requires c =
    let roomy = item_roomy c.args.spots.now c.loop-spot.spot-index c.spot-item.result c.loop-spot-test.true c.spot-item.is c.requires.roomy in
    let room = roomy.room in
    omega arith

pub overflow_add-end : goal.overflow_add-end
overflow_add-end c =
    let next = sum_next c.args.spots.now c.loop-spot.spot-index c.spot-item.result c.loop-spot-test.true c.spot-item.is in
    omega (arith, next, c.loop-spot.invariant.sum, c.requires.small, c.old_size.ensures)

pub loop-spot-preserved : goal.loop-spot-preserved
loop-spot-preserved c =
    let xs = c.args.spots.now in
    let i = c.loop-spot.spot-index in
    let x = c.spot-item.result in
    let from = c.loop-spot.from in
    let next = sum_next xs i x c.loop-spot-test.true c.spot-item.is in
    let r : Run = record { from = from; end = from + c.old_size.result; at = x.at; inserted = c.in_ok-inserted.inserted } in
    let here : IsRun from r (placed_of x) = record { start = refl; end = ap (λ n. from + n) c.old_size.ensures; place = refl; deep = c.in_ok-inserted.ensures } in
    record {
      sum = omega (arith, next, c.loop-spot.invariant.sum, c.old_size.ensures);
      runs = λ rest h.
          subst (λ l. AreRuns 0 (l ++ rest) (placed_all xs)) (sym c.in_ok-push.ensures.items)
          (runs_next xs i x c.loop-spot-test.true c.spot-item.is from r c.loop-spot.runs.items rest here c.loop-spot.invariant.runs h);
    }

pub returns : goal.returns
returns c =
    let xs = c.args.spots.now in
    let nothing : AreRuns c.loop-spot.from [] (placed_all (drop c.loop-spot.spot-index xs)) = subst (λ (l : List Spot). AreRuns c.loop-spot.from [] (placed_all l)) (sym (drop_all c.loop-spot.spot-index xs c.loop-spot-test.false)) tt in
    subst (λ l. AreRuns 0 l (placed_all xs)) (append-nil c.loop-spot.runs.items) (c.loop-spot.invariant.runs [] nothing)
