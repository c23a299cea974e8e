use Rattle.std.proofs.Common.{sym, ap, arith}
use Rattle.a64_inst.specs.Runs.{onward}
use Rattle.num_run.specs.declared.report.RunEnd.TheVariants.{Running}
use Rattle.num_run.specs.Opened.{so_far}
use Rattle.num_run.proofs.running.Machine.open.Goals as goal

pub invariant_of-result : goal.invariant_of-result
unfolding onward
invariant_of-result c = record {
  memory = c.in_ok-new.ensures.memory;
  cache = c.in_ok-new-2.ensures;
  few = omega arith;
  reached = ap (so_far 0 Running) (sym c.in_ok-new.ensures.machine);
}
