-- A machine that was opened on an image, and how far it has run.
use Rattle.std.specs.Prelude.{ℕ, List}
use Rattle.a64_inst.specs.Domain.{exit, trapped}
use Rattle.a64_inst.specs.Runs.{Standing, going, over, Run, run}
use Rattle.bare_image.specs.declared.image.Image.{Image}
use Rattle.num_run.specs.declared.report.RunEnd.{RunEnd}
use Rattle.num_run.specs.declared.report.RunEnd.TheVariants.{Running, Exit, Trap}
use Rattle.num_run.specs.declared.report.RunReport.{RunReport}
use Rattle.num_run.specs.Machine.{Machine}
use Rattle.num_run.specs.Run.{step, start, num_run}

-- the image, its input and how many steps were asked for
pub record Opened : Type 0 where
  pub image : Image
  pub input : List ℕ
  pub count : ℕ

-- what is seen of its run
abbrev pub report : Opened → RunReport
report opened = num_run opened.image opened.input opened.count

-- what it holds
abbrev pub held : Opened → Machine
held opened = (run step opened.count (start opened.image opened.input)).state

-- how a run stands that has come to this end
abbrev pub standing_at : RunEnd → Standing ⊥
standing_at Running = going
standing_at (Exit status) = over (exit status)
standing_at (Trap why) = over (trapped why)

-- a run of so many instructions that stands so
abbrev pub so_far : ℕ → RunEnd → Machine → Run ⊥ Machine
so_far done end m = record { done = done; standing = standing_at end; state = m }
