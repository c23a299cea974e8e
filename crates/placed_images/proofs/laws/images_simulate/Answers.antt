use Rattle.std.proofs.Common.{◌∷◌, sym, subst}
use Rattle.a64_inst.specs.Runs.{run}
use Rattle.num_run.specs.Machine.{Machine}
use Rattle.num_run.specs.Run.{step as number_step}
use Rattle.paged_memory.specs.Mapping.{byte_in, stack_of}
use Rattle.simulation.specs.Follows.{RunAlike}
use Rattle.simulation.specs.Placement.{placement_of}
use Rattle.sym_expr.specs.Images.{image}
use Rattle.sym_expr.specs.States.{start}
use Rattle.sym_expr.specs.Steps.{step}
use Rattle.placed_images.proofs.laws.images_simulate.Goals as goal

pub returns : goal.returns
returns c = λ g l well are near suits faultless input bytes n goes.
    let pl = placement_of l g in
    let placed = c.images_are_placed.ensures g l well are near suits faultless in
    let alike = c.runs_agree.ensures pl g (byte_in (stack_of (image g l) ∷ (image g l).segments)) placed n input bytes goes in
    subst (λ (m : Machine). RunAlike pl g (run (step g) n (start g l.stack_size input)) (run number_step n m)) (sym (c.images_start_alike.ensures g l input)) alike
