use Rattle.std.proofs.Common.{◌≡◌, ℕ, List, sym, ap, subst, ◌∙◌}
use Rattle.a64_inst.specs.Runs.{unbegun, run}
use Rattle.sym_expr.specs.declared.program.Program.{Program}
use Rattle.sym_expr.specs.States.{start}
use Rattle.sym_expr.specs.Steps.{step}
use Rattle.sym_run.specs.declared.report.SymEnd.{SymEnd}
use Rattle.sym_run.specs.declared.report.SymReport.{SymReport}
use Rattle.sym_run.specs.Run.{sym_run}
use Rattle.sym_run.specs.Standing.{StandsAt}
use Rattle.std.proofs.Math.Nat.{zero-add}
use Rattle.sym_run.proofs.Reached.{begun, seen_so}
use Rattle.sym_run.proofs.program_run.run_program.Goals as goal

abbrev reported : ℕ → SymEnd → List ℕ → SymReport
reported k e o = record { steps = k; end = e; output = o }

pub returns : goal.returns
returns c =
    let g = c.in_ok-program.program in
    let s = start g c.args.stack c.args.input.now in
    let ran = subst (λ (k : ℕ). StandsAt g (run (step g) c.args.steps s) k c.in_ok-stop.stop.end c.go_on.new.runner) (zero-add c.in_ok-stop.stop.done)
    (c.in_ok-stop.ensures.reached (unbegun s) 0 (begun g s c.in_ok-runner.runner c.in_ok-runner.ensures)) in
    let report = seen_so g (run (step g) c.args.steps s) c.in_ok-stop.stop.done c.in_ok-stop.stop.end c.go_on.new.runner ran in
    let bytes : c.in_ok-from_slice.field-0 ≡ c.go_on.new.runner.output.bytes.items = c.in_ok-from_slice.ensures ∙ c.as_slice.ensures.value in
    ap (λ (o : List ℕ). reported c.in_ok-stop.stop.done c.in_ok-stop.stop.end o) bytes ∙ sym report ∙ ap (λ (p : Program). sym_run p c.args.stack c.args.input.now c.args.steps) c.in_ok-program.ensures

pub go_on-requires : goal.go_on-requires
go_on-requires c = c.in_ok-cache.ensures c.in_ok-program.program
