-- A runner as a machine.
use Rattle.std.specs.Prelude.{◌≡◌}
use Rattle.a64_inst.specs.Domain.{exit, trapped, next, ended}
use Rattle.num_run.specs.declared.report.RunEnd.{RunEnd}
use Rattle.num_run.specs.declared.report.RunEnd.TheVariants.{Running, Exit, Trap}
use Rattle.num_run.specs.declared.runner.Runner.{Runner}
use Rattle.num_run.specs.Machine.{Machine}
use Rattle.num_run.specs.Numeric.{Outcome}
use Rattle.paged_memory.specs.Mapped.{mapped}

-- the machine that a runner stands for
abbrev pub machine : Runner → Machine
machine runner = record {
  registers = runner.registers;
  stack_pointer = runner.stack_pointer;
  flags = runner.flags;
  memory = mapped runner.memory;
  place = runner.place;
  input = runner.input.now;
  output = runner.output.bytes.items;
}

-- what a step came to, as its answer tells: on to a machine, or an end that leaves it
abbrev pub Comes : Outcome Machine → RunEnd → Machine → Type 0
Comes outcome Running m = outcome ≡ next m
Comes outcome (Exit status) m = outcome ≡ ended (exit status) m
Comes outcome (Trap why) m = outcome ≡ ended (trapped why) m
