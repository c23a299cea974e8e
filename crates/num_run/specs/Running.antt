-- What a machine that was opened keeps.
use Rattle.std.specs.Prelude.{◌≡◌, ◌≤◌}
use Rattle.a64_inst.specs.Runs.{run}
use Rattle.num_run.specs.declared.running.Machine.TheInside.{Inside}
use Rattle.num_run.specs.Decoded.{IsCache}
use Rattle.paged_memory.specs.Mapped.{IsMemory}
use Rattle.num_run.specs.Opened.{Opened, so_far}
use Rattle.num_run.specs.Run.{step, start}
use Rattle.num_run.specs.Runner.{machine}

-- the machine as contracts see it
abbrev pub opened : Inside → Opened
opened inside = record { image = inside.image.now; input = inside.input.now; count = inside.count }

-- it stands where its run stands after its steps
pub record Stands (inside : Inside) : Type 0 where
  pub memory : IsMemory inside.runner.memory
  pub cache : IsCache inside.cache
  pub few : inside.done ≤ inside.count
  pub reached : run step inside.count (start inside.image.now inside.input.now) ≡ so_far inside.done inside.end (machine inside.runner)
