use Rattle.std.proofs.Common.{sym, ap, ◌∙◌, arith}
use Rattle.a64_inst.specs.Runs.{Run}
use Rattle.num_run.specs.Machine.{Machine}
use Rattle.num_run.specs.Run.{start, end_of}
use Rattle.num_run.specs.Runner.{machine}
use Rattle.num_run.proofs.Reached.{further_on, end_at}
use Rattle.num_run.proofs.running.Machine.go.Goals as goal

pub invariant_of-self : goal.invariant_of-self
invariant_of-self c =
    let inside = c.self.inside in
    record {
      memory = c.go_on-stop.ensures.memory;
      cache = c.go_on-stop.ensures.cache;
      few = omega (arith, c.self.invariant.few, c.go_on-stop.ensures.done);
      reached = further_on inside.count c.args.steps inside.done (start inside.image.now inside.input.now) (machine inside.runner) inside.end c.self.invariant.reached ∙ c.go_on-stop.ensures.reached inside.done;
    }

pub returns-clause-end : goal.returns-clause-end
returns-clause-end c =
    let inside = c.self.inside in
    let reached = further_on inside.count c.args.steps inside.done (start inside.image.now inside.input.now) (machine inside.runner) inside.end c.self.invariant.reached ∙ c.go_on-stop.ensures.reached inside.done in
    sym (ap (λ (r : Run ⊥ Machine). end_of r.standing) reached ∙ end_at c.go_on-stop.result.end)
