-- What a linked image does: what the symbolic machine of its program does.
use Rattle.std.specs.Prelude.{ℕ, List}
use Rattle.a64_inst.specs.Runs.{run}
use Rattle.bare_image.specs.Valid.{AreBytes}
use Rattle.num_run.specs.Run.{step as number_step, start as start_of_image}
use Rattle.simulation.specs.Follows.{IsNotStuck, RunAlike}
use Rattle.simulation.specs.Placement.{placement_of}
use Rattle.sym_expr.specs.declared.layout.Layout.{Layout}
use Rattle.sym_expr.specs.declared.program.Program.{Program}
use Rattle.sym_expr.specs.Images.{image}
use Rattle.sym_expr.specs.States.{start}
use Rattle.sym_expr.specs.Steps.{step}

-- for every input and every n: where the symbolic machine of the program, with the layout's stack, isn't stuck within
-- n instructions, the run of the image did as many, stands alike, and holds what stands for what the symbolic one holds
abbrev pub Simulates : Program → Layout → Type 0
Simulates g l =
    (input : List ℕ) → AreBytes input → (n : ℕ) → IsNotStuck (run (step g) n (start g l.stack_size input)).standing
    → RunAlike (placement_of l g) g (run (step g) n (start g l.stack_size input)) (run number_step n (start_of_image (image g l) input))
