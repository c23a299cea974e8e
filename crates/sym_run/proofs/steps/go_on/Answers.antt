use Rattle.std.proofs.Common.{ℕ, sym, subst, add-zero, arith}
use Rattle.a64_inst.specs.Runs.{onward}
use Rattle.sym_expr.specs.Steps.{step}
use Rattle.sym_run.specs.Standing.{StandsAt}
use Rattle.sym_run.proofs.Reached.{stays_ended}
use Rattle.sym_run.proofs.steps.go_on.Goals as goal

pub returns-in_default : goal.returns-in_default
returns-in_default c =
    let g = c.args.program.now in
    record {
      cache = c.requires;
      done = omega arith;
      reached = λ r before stands.
          subst (λ (k : ℕ). StandsAt g (onward (step g) c.args.steps r) k c.args.end c.args.runner.now) (sym (add-zero before))
          (stays_ended g r c.args.steps before c.args.end c.args.runner.now c.in_default.not-Running stands);
    }
