use Rattle.std.proofs.Common.{◌≡◌, ℕ, ◌+◌, sym, ap, arith}
use Rattle.a64_inst.specs.Runs.{run}
use Rattle.sym_expr.specs.States.{start}
use Rattle.sym_expr.specs.Steps.{step}
use Rattle.sym_run.specs.Opened.{Opened}
use Rattle.sym_run.proofs.Reached.{as_before, once_more}
use Rattle.sym_run.proofs.machine.SymMachine.step.Goals as goal

pub invariant_of-self : goal.invariant_of-self
invariant_of-self c =
    let g = c.self.inside.program in
    let s = start g c.self.inside.stack c.self.inside.input.now in
    record {
      few = c.self.invariant.few;
      most = c.self.invariant.most;
      cache = c.in_err-stop.ensures.cache;
      reached = as_before g (run (step g) c.self.inside.count s) c.self.inside.done c.self.inside.end c.self.inside.runner c.step_on.new.runner
          c.in_err-stop.ensures.err c.self.invariant.reached;
    }

pub invariant_of-self-2 : goal.invariant_of-self-2
invariant_of-self-2 c =
    let g = c.self.inside.program in
    let s = start g c.self.inside.stack c.self.inside.input.now in
    record {
      few = omega (arith, c.self.invariant.few, c.in_ok-stop.ensures.done);
      most = omega (arith, c.requires, ap (λ (o : Opened). o.count) c.self.view_is);
      cache = c.in_ok-stop.ensures.cache;
      reached = once_more g s c.self.inside.count (c.self.inside.done + c.in_ok-stop.stop.done) c.in_ok-stop.stop.end c.step_on.new.runner
          (c.in_ok-stop.ensures.reached (run (step g) c.self.inside.count s) c.self.inside.done c.self.invariant.reached);
    }

pub returns-clause-end : goal.returns-clause-end
returns-clause-end c =
    let g = c.self.inside.program in
    let s = start g c.self.inside.stack c.self.inside.input.now in
    sym (once_more g s c.self.inside.count (c.self.inside.done + c.in_ok-stop.stop.done) c.in_ok-stop.stop.end c.step_on.new.runner
    (c.in_ok-stop.ensures.reached (run (step g) c.self.inside.count s) c.self.inside.done c.self.invariant.reached)).standing

pub step_on-requires : goal.step_on-requires
step_on-requires c = c.self.invariant.cache
