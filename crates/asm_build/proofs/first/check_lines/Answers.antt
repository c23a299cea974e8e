use Rattle.std.proofs.Common.{◌+◌, refl, arith}
use Rattle.asm_build.proofs.Passing.{end_here, none_passed, one_passed, sees_all}
use Rattle.asm_build.proofs.first.check_lines.Goals as goal

pub loop-line-init : goal.loop-line-init
loop-line-init c = record { passed = none_passed c.args.given.now c.none-seen.result c.none-seen.ensures; number = refl }

pub loop-line-preserved : goal.loop-line-preserved
loop-line-preserved c = record {
  passed = one_passed c.args.given.now c.loop-line.seen c.loop-line.line-index c.loop-line-test.true c.in-Ok.more c.line-item.result c.line-item.is c.loop-line.invariant.passed c.in-Ok.ensures.fault c.in-Ok.ensures.sees;
  number = omega arith;
}

pub returns-in-Err-clause-fault : goal.returns-in-Err-clause-fault
returns-in-Err-clause-fault c =
    end_here c.args.given.now c.loop-line.seen c.loop-line.line-index c.loop-line-test.true c.line-item.result c.in-Err.end (c.loop-line.number + 1) c.at_line.result c.line-item.is
    c.loop-line.invariant.passed c.in-Err.ensures.fault (omega arith) c.at_line.ensures

pub returns-clause-sees : goal.returns-clause-sees
returns-clause-sees c = sees_all c.args.given.now c.loop-line.seen c.loop-line.line-index c.loop-line-test.false c.loop-line.invariant.passed
