use Rattle.std.proofs.Common.{ℕ, add-zero, sym, subst, arith}
use Rattle.a64_inst.specs.Runs.{further}
use Rattle.sym_expr.specs.Steps.{step}
use Rattle.sym_run.specs.Standing.{StandsAt}
use Rattle.sym_run.proofs.Reached.{stays}
use Rattle.sym_run.proofs.steps.step_on.Goals as goal

pub returns-in_default : goal.returns-in_default
returns-in_default c =
    let g = c.args.program.now in
    record {
      cache = c.requires;
      done = omega arith;
      reached = λ r before stands.
          subst (λ (k : ℕ). StandsAt g (further (step g) r) k c.args.end c.args.runner.now) (sym (add-zero before))
          (stays g r before c.args.end c.args.runner.now c.in_default.not-Running stands);
      err = tt;
    }
