use Rattle.std.proofs.Common.{◌∙◌, ◌++◌, List, ℕ, ap, sym}
use Rattle.asm_lines.specs.declared.run.Class.TheVariants.{Bare}
use Rattle.asm_lines.proofs.Runs.{all_of_bare, one_run}
use Rattle.asm_lines.proofs.name.read_bare.Goals as goal

pub returns-clause-only : goal.returns-clause-only
returns-clause-only c = λ bare rest e is stops.
    let q = one_run Bare c.split_run.result.0.now bare c.split_run.result.1.now rest c.split_run.ensures.run (all_of_bare bare is) c.split_run.ensures.stops stops (sym c.split_run.ensures.parts ∙ e) in
    (q.1, c.in_ok-extend_from_slice.ensures.ok ∙ ap (λ (b : List ℕ). c.args.name.now ++ b) q.0)
