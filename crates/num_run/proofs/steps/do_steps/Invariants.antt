use Rattle.std.proofs.Common.{◌≡◌, ℕ, ◌+◌}
use Rattle.a64_inst.specs.Runs.{onward}
use Rattle.num_run.specs.declared.report.RunEnd.TheVariants.{Running}
use Rattle.num_run.specs.Decoded.{IsCache}
use Rattle.paged_memory.specs.Mapped.{IsMemory}
use Rattle.num_run.specs.Opened.{so_far}
use Rattle.num_run.specs.Run.{step}
use Rattle.num_run.specs.Runner.{machine}
use Rattle.num_run.proofs.steps.do_steps.Given as goal

abbrev pub invariant-loop-done : goal.invariant-loop-done
invariant-loop-done l = record {
  memory : IsMemory l.runner.memory;
  cache : IsCache l.cache;
  reached : (before : ℕ) → onward step l.done (so_far before Running (machine l.initial.runner)) ≡ so_far (before + l.done) Running (machine l.runner);
}
