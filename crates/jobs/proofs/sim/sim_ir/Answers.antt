use Rattle.std.proofs.Common.{Err, Ok, Option, List, ℕ, subst}
use Rattle.command_words.specs.declared.role.Role.TheVariants.{Input, Layout, Patch}
use Rattle.command_words.specs.Picked.{picked_view}
use Rattle.jobs.specs.Inputs.{bytes_in}
use Rattle.jobs.specs.Programs.{Programs}
use Rattle.jobs.specs.Contents.{contents_view}
use Rattle.jobs.specs.Sim.{SimsProgram}
use Rattle.jobs.specs.Stages.{Answers}
use Rattle.jobs.proofs.Chains.{chain_goes, chain_stops}
use Rattle.jobs.proofs.sim.sim_ir.Goals as goal

pub returns-in_err-program : goal.returns-in_err-program
returns-in_err-program c =
    let asked = picked_view c.args.asked.now in
    let contents = contents_view c.args.contents.now in
    let steps = c.args.asked.now.settings.steps in
    let stopped = subst (λ (text : Option (List ℕ)). Answers (Programs asked text c.args.ir.now) (Err c.in_err-program.field-0.0)) c.of.ensures c.in_err-program.ensures.stage in
    chain_stops (Programs asked (contents Patch) c.args.ir.now) (λ g. SimsProgram (contents Layout) (bytes_in contents Input) steps g) _ _ stopped c.from_residual.ensures.1

pub returns : goal.returns
returns c =
    let asked = picked_view c.args.asked.now in
    let contents = contents_view c.args.contents.now in
    let steps = c.args.asked.now.settings.steps in
    let g = c.in_ok-program.program in
    let found = subst (λ (text : Option (List ℕ)). Programs asked text c.args.ir.now (Ok g)) c.of.ensures c.in_ok-program.ensures.stage in
    let first = subst (λ (text : Option (List ℕ)). Answers (SimsProgram text c.bytes-input.result.now steps g) c.sim_program.result) c.of-2.ensures c.sim_program.ensures in
    let ran = subst (λ (bytes : List ℕ). Answers (SimsProgram (contents Layout) bytes steps g) c.sim_program.result) c.bytes-input.ensures first in
    chain_goes (Programs asked (contents Patch) c.args.ir.now) (λ g. SimsProgram (contents Layout) (bytes_in contents Input) steps g) g c.sim_program.result found ran
