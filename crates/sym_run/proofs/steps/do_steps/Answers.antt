use Rattle.std.proofs.Common.{◌≡◌, ℕ, ◌+◌, sym, subst, add-zero, arith}
use Rattle.a64_inst.specs.Runs.{onward}
use Rattle.sym_expr.specs.Steps.{step}
use Rattle.sym_run.specs.declared.report.SymEnd.{SymEnd}
use Rattle.sym_run.specs.declared.report.SymEnd.TheVariants.{Running}
use Rattle.sym_run.specs.Standing.{done_at, StandsAt}
use Rattle.sym_run.proofs.Reached.{goes_on, stops}
use Rattle.sym_run.proofs.steps.do_steps.Goals as goal

pub loop-done-init : goal.loop-done-init
unfolding onward
loop-done-init c = (c.requires, λ r before stands. subst (λ (k : ℕ). StandsAt c.args.program.now r k Running c.args.runner.now) (sym (add-zero before)) stands)

pub loop-done-preserved : goal.loop-done-preserved
loop-done-preserved c = (
  c.in_ok-end.ensures.cache,
  λ r before stands.
      let g = c.args.program.now in
      let done = c.loop-done.done in
      subst (λ (e : SymEnd). StandsAt g (onward (step g) (done + 1) r) (before + (done + done_at e)) e c.do_step.new.runner) c.in-Running.is
      (goes_on g r before done c.in_ok-end.end c.do_step.new.runner (c.in_ok-end.ensures.ok (onward (step g) done r) (before + done) (c.loop-done.invariant.1 r before stands))),
)

pub returns-in_default : goal.returns-in_default
returns-in_default c =
    let g = c.args.program.now in
    let done = c.loop-done.done in
    record {
      cache = c.in_ok-end.ensures.cache;
      done = omega (arith, c.loop-done-test.true, c.done_at-last.ensures.most);
      reached = λ r before stands.
          subst (λ (k : ℕ). StandsAt g (onward (step g) c.args.steps r) (before + (done + k)) c.in_ok-end.end c.do_step.new.runner) (sym c.done_at-last.ensures.count)
          (stops g r done c.args.steps (before + (done + done_at c.in_ok-end.end)) c.in_ok-end.end c.do_step.new.runner c.loop-done-test.true c.in_default.not-Running
          (goes_on g r before done c.in_ok-end.end c.do_step.new.runner (c.in_ok-end.ensures.ok (onward (step g) done r) (before + done) (c.loop-done.invariant.1 r before stands))));
    }

pub returns-clause-reached : goal.returns-clause-reached
returns-clause-reached c = λ r before stands.
    let g = c.args.program.now in
    let all : c.loop-done.done ≡ c.args.steps = omega arith in
    subst (λ (k : ℕ). StandsAt g (onward (step g) k r) (before + k) Running c.loop-done.runner) all (c.loop-done.invariant.1 r before stands)

pub do_step-requires : goal.do_step-requires
do_step-requires c = c.loop-done.invariant.0

pub returns-clause-cache : goal.returns-clause-cache
returns-clause-cache c = c.loop-done.invariant.0
