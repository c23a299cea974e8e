use Rattle.std.proofs.Common.{ℕ, sym, ap, ◌∙◌, add-zero, arith}
use Rattle.num_run.specs.Opened.{so_far}
use Rattle.num_run.specs.Runner.{machine}
use Rattle.num_run.proofs.Reached.{stays_ended}
use Rattle.num_run.proofs.steps.go_on.Goals as goal

pub returns-in_default : goal.returns-in_default
returns-in_default c =
    let m = machine c.args.runner.now in
    record {
      memory = c.requires.memory;
      cache = c.requires.cache;
      done = omega arith;
      reached = λ before. stays_ended c.args.steps before c.args.end m c.in_default.not-Running ∙ ap (λ (n : ℕ). so_far n c.args.end m) (sym (add-zero before));
    }
