use Rattle.std.proofs.Common.{◌≡◌, ◌≤◌, get_or, arith}
use Rattle.pb_wire.proofs.Loop.{shifted, sum_fits, wrong_tenth, ends, goes_on, runs_out}
use Rattle.pb_wire.proofs.reading.read_groups.Goals as goal
use Rattle.pb_wire.proofs.reading.read_groups.Goals.{After-from, else-i-eq-LAST-via-then-i-eq-LAST+else-byte-gt1, else-i-eq-LAST-via-else-i-eq-LAST}

-- a tenth byte is at most 1
tenth : (c : After-from) → c.loop-i.i ≡ 9 → get_or c.args.bytes.now c.loop-i.i 0 ≤ 1
tenth c nine = elim c.else-i-eq-LAST.branch [ else-i-eq-LAST-via-then-i-eq-LAST+else-byte-gt1 w ↦ omega arith | else-i-eq-LAST-via-else-i-eq-LAST w ↦ absurd (omega arith) ]

pub returns-then-byte-gt1-clause-value : goal.returns-then-byte-gt1-clause-value
returns-then-byte-gt1-clause-value c = wrong_tenth c.args.bytes.now c.loop-i.i c.loop-i.value c.loop-i.invariant (omega arith) (omega arith) (omega arith)

pub overflow_add-value : goal.overflow_add-value
overflow_add-value c =
    let b = get_or c.args.bytes.now c.loop-i.i 0 in
    rw (c.from.ensures, shifted c.loop-i.i b c.loop-i.invariant.early (tenth c)) (omega (arith, sum_fits c.loop-i.i b c.loop-i.value c.loop-i.invariant.early (tenth c) c.loop-i.invariant.small))

pub returns-then-byte-lt128-clause-value : goal.returns-then-byte-lt128-clause-value
returns-then-byte-lt128-clause-value c = ends c.args.bytes.now c.loop-i.i c.loop-i.value c.from.result c.loop-i.invariant (omega arith) (tenth (goal.at.returns-then-byte-lt128-clause-value c).After-from) (omega arith) c.from.ensures

pub loop-i-preserved : goal.loop-i-preserved
loop-i-preserved c = goes_on c.args.bytes.now c.loop-i.i c.loop-i.value c.from.result c.loop-i.invariant (omega arith) (tenth (goal.at.loop-i-preserved c).After-from) (omega arith) c.from.ensures

pub returns-clause-value : goal.returns-clause-value
returns-clause-value c = runs_out c.args.bytes.now c.loop-i.i c.loop-i.value c.loop-i.invariant (omega arith)
