use Rattle.std.proofs.Common.{ℕ, sym, ap, add-zero, arith}
use Rattle.a64_inst.specs.Runs.{onward}
use Rattle.num_run.specs.declared.report.RunEnd.TheVariants.{Running}
use Rattle.num_run.specs.Opened.{so_far}
use Rattle.num_run.specs.Runner.{machine}
use Rattle.num_run.proofs.Reached.{goes_on, stops}
use Rattle.num_run.proofs.steps.do_steps.Goals as goal

pub loop-done-init : goal.loop-done-init
unfolding onward
loop-done-init c = record {
  memory = c.requires.memory;
  cache = c.requires.cache;
  reached = λ before. ap (λ (n : ℕ). so_far n Running (machine c.args.runner.now)) (sym (add-zero before));
}

pub loop-done-preserved : goal.loop-done-preserved
loop-done-preserved c = record {
  memory = c.step.ensures.memory;
  cache = c.step.ensures.cache;
  reached = λ before. goes_on before c.loop-done.done (machine c.args.runner.now) (machine c.loop-done.runner) (machine c.step.new.self) Running (c.loop-done.invariant.reached before) c.in-Running.ensures.comes;
}

pub returns-in_default : goal.returns-in_default
returns-in_default c = record {
  memory = c.step.ensures.memory;
  cache = c.step.ensures.cache;
  done = omega arith;
  reached = λ before. stops before c.loop-done.done c.args.steps (machine c.args.runner.now) (machine c.step.new.self) c.step.result c.loop-done-test.true c.in_default.not-Running
      (goes_on before c.loop-done.done (machine c.args.runner.now) (machine c.loop-done.runner) (machine c.step.new.self) c.step.result (c.loop-done.invariant.reached before) c.step.ensures.comes);
}
