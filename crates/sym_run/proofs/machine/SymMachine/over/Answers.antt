use Rattle.std.proofs.Common.{arith}
use Rattle.a64_inst.specs.Runs.{onward}
use Rattle.sym_expr.specs.States.{start}
use Rattle.sym_run.proofs.Reached.{begun}
use Rattle.sym_run.proofs.machine.SymMachine.over.Goals as goal

pub invariant_of-result : goal.invariant_of-result
unfolding onward
invariant_of-result c =
    let g = c.in_ok-program.program in
    record {
      few = omega arith;
      most = omega arith;
      cache = c.in_ok-cache.ensures g;
      reached = begun g (start g c.args.stack c.args.input.now) c.in_ok-runner.runner c.in_ok-runner.ensures;
    }
