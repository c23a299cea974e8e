-- A run by its steps, as the runner does them.
use Rattle.std.proofs.Common.{◌≡◌, ℕ, ◌+◌, ◌-◌, ◌<◌, refl, sym, ap, subst, ◌∙◌, List, add-one, add-zero, arith}
use Rattle.a64_inst.specs.Domain.{exit, trapped}
use Rattle.a64_inst.specs.Runs.{Standing, going, over, halted, Run, unbegun, answered, moved, further, onward, run}
use Rattle.a64_inst.specs.RunLaws.{IsOver, composed, nothing_follows}
use Rattle.sym_expr.specs.declared.cause.Cause.{Cause}
use Rattle.sym_expr.specs.declared.point.Point.{Point}
use Rattle.sym_expr.specs.declared.program.Program.{Program}
use Rattle.sym_expr.specs.Points.{reached}
use Rattle.sym_expr.specs.States.{State}
use Rattle.sym_expr.specs.Steps.{step}
use Rattle.sym_step.specs.declared.flow.Flow.{Flow}
use Rattle.sym_step.specs.declared.flow.Flow.TheVariants as flows
use Rattle.sym_run.specs.declared.report.SymEnd.{SymEnd}
use Rattle.sym_run.specs.declared.report.SymEnd.TheVariants.{Running, Stuck}
use Rattle.sym_step.specs.declared.runner.Runner.{Runner}
use Rattle.sym_run.specs.declared.report.SymReport.{SymReport}
use Rattle.sym_run.specs.Run.{end_of, seen}
use Rattle.sym_step.specs.Runner.{came, state, Keeps}
use Rattle.sym_run.specs.Standing.{done_at, end_at, StandsAt}

-- what is running goes on
is_going : (at : Point) (standing : Standing Cause) → end_of at standing ≡ Running → standing ≡ going
is_going at going e = refl
is_going at (over (exit status)) e = absurd (cc)
is_going at (over (trapped why)) e = absurd (cc)
is_going at (halted cause) e = absurd (cc)

-- what isn't is over
is_over : (at : Point) (standing : Standing Cause) (end : SymEnd) → end_of at standing ≡ end → (end ≡ Running → ⊥) → IsOver standing
is_over at going end e ends = absurd (ends (sym e))
is_over at (over event) end e ends = tt
is_over at (halted cause) end e ends = tt

-- behind the answer of a step
answered_stands : (g : Program) (r : Run Cause State) (done : ℕ) (old new : Runner) (flow : Flow) → StandsAt g r done Running old
    → ((cause : Cause) → flow ≡ flows.Stuck cause → Keeps old new)
    → StandsAt g (answered r (came flow (state new))) (done + done_at (end_at (reached g new.place) flow)) (end_at (reached g new.place) flow) new
answered_stands g r done old new flows.On stands keeps = record { done = ap (λ (k : ℕ). k + 1) stands.done; standing = refl; place = refl; output = refl; going = λ e. refl }
answered_stands g r done old new flows.Placed stands keeps = record { done = ap (λ (k : ℕ). k + 1) stands.done; standing = refl; place = refl; output = refl; going = λ e. refl }
answered_stands g r done old new (flows.Exit status) stands keeps = record { done = ap (λ (k : ℕ). k + 1) stands.done; standing = refl; place = refl; output = refl; going = λ e. absurd (cc) }
answered_stands g r done old new (flows.Trap why) stands keeps = record { done = ap (λ (k : ℕ). k + 1) stands.done; standing = refl; place = refl; output = refl; going = λ e. absurd (cc) }
answered_stands g r done old new (flows.Stuck cause) stands keeps =
    let kept = keeps cause refl in
    let place : r.state.place ≡ new.place = stands.place ∙ sym kept.place in
    record {
      done = stands.done ∙ sym (add-zero done);
      standing = ap (λ (p : Point). Stuck (reached g p) cause) place;
      place = place;
      output = stands.output ∙ sym kept.output;
      going = λ e. absurd (cc);
    }

-- one step of a run that goes on
pub one_step : (g : Program) (r : Run Cause State) (done : ℕ) (old new : Runner) (flow : Flow) → StandsAt g r done Running old → step g (state old) ≡ came flow (state new)
    → ((cause : Cause) → flow ≡ flows.Stuck cause → Keeps old new)
    → StandsAt g (further (step g) r) (done + done_at (end_at (reached g new.place) flow)) (end_at (reached g new.place) flow) new
one_step g r done old new flow stands is keeps =
    let goes : r.standing ≡ going = is_going (reached g r.state.place) r.standing stands.standing in
    let same : further (step g) r ≡ answered r (came flow (state new)) =
    ap (λ (s : Standing Cause). moved s (step g) r) goes ∙ ap (λ (s : State). answered r (step g s)) (stands.going refl) ∙ ap (answered r) is in
    subst (λ (x : Run Cause State). StandsAt g x (done + done_at (end_at (reached g new.place) flow)) (end_at (reached g new.place) flow) new) (sym same) (answered_stands g r done old new flow stands keeps)

-- one step more
pub goes_on : (g : Program) (r : Run Cause State) (before done : ℕ) (end : SymEnd) (new : Runner)
    → StandsAt g (further (step g) (onward (step g) done r)) (before + done + done_at end) end new
    → StandsAt g (onward (step g) (done + 1) r) (before + (done + done_at end)) end new
unfolding onward
goes_on g r before done end new stands =
    let count : before + done + done_at end ≡ before + (done + done_at end) = omega arith in
    subst (λ (k : ℕ). StandsAt g (onward (step g) k r) (before + (done + done_at end)) end new) (sym (add-one done))
    (subst (λ (k : ℕ). StandsAt g (further (step g) (onward (step g) done r)) k end new) count stands)

-- nothing follows an end
pub stays_ended : (g : Program) (r : Run Cause State) (steps done : ℕ) (end : SymEnd) (runner : Runner) → (end ≡ Running → ⊥) → StandsAt g r done end runner
    → StandsAt g (onward (step g) steps r) done end runner
stays_ended g r steps done end runner ends stands =
    subst (λ (x : Run Cause State). StandsAt g x done end runner) (sym (nothing_follows (step g) steps r (is_over (reached g r.state.place) r.standing end stands.standing ends))) stands

-- after the step that ends the run
pub stops : (g : Program) (r : Run Cause State) (done steps count : ℕ) (end : SymEnd) (new : Runner) → done < steps → (end ≡ Running → ⊥)
    → StandsAt g (onward (step g) (done + 1) r) count end new → StandsAt g (onward (step g) steps r) count end new
stops g r done steps count end new below ends stands =
    let all : done + 1 + (steps - (done + 1)) ≡ steps = omega arith in
    let same : onward (step g) (steps - (done + 1)) (onward (step g) (done + 1) r) ≡ onward (step g) steps r =
    sym (composed (step g) (done + 1) (steps - (done + 1)) r) ∙ ap (λ (k : ℕ). onward (step g) k r) all in
    subst (λ (x : Run Cause State). StandsAt g x count end new) same (stays_ended g (onward (step g) (done + 1) r) (steps - (done + 1)) count end new ends stands)

-- before the first step
pub begun : (g : Program) (s : State) (runner : Runner) → state runner ≡ s → StandsAt g (unbegun s) 0 Running runner
begun g s runner same = record { done = refl; standing = refl; place = ap (λ (x : State). x.place) (sym same); output = ap (λ (x : State). x.output) (sym same); going = λ e. sym same }

-- what is seen of a run
pub seen_so : (g : Program) (r : Run Cause State) (count : ℕ) (end : SymEnd) (runner : Runner) → StandsAt g r count end runner
    → seen g r ≡ record { steps = count; end = end; output = runner.output.bytes.items }
seen_so g r count end runner stands =
    ap (λ (k : ℕ). report_of k (end_of (reached g r.state.place) r.standing) r.state.output) stands.done
    ∙ ap (λ (e : SymEnd). report_of count e r.state.output) stands.standing
    ∙ ap (λ (o : List ℕ). report_of count end o) stands.output
  where
    report_of : ℕ → SymEnd → List ℕ → SymReport
    report_of k e o = record { steps = k; end = e; output = o }

-- a run that has ended is one step further where it was
pub stays : (g : Program) (r : Run Cause State) (done : ℕ) (end : SymEnd) (runner : Runner) → (end ≡ Running → ⊥) → StandsAt g r done end runner
    → StandsAt g (further (step g) r) done end runner
unfolding onward
stays g r done end runner ends stands = stays_ended g r 1 done end runner ends stands

-- a run one step further is the run of one step more
pub once_more : (g : Program) (s : State) (n done : ℕ) (end : SymEnd) (runner : Runner) → StandsAt g (further (step g) (run (step g) n s)) done end runner
    → StandsAt g (run (step g) (n + 1) s) done end runner
unfolding onward
once_more g s n done end runner stands = subst (λ (k : ℕ). StandsAt g (onward (step g) k (unbegun s)) done end runner) (sym (add-one n)) stands

-- a machine that is as it was stands as it stood
pub as_before : (g : Program) (r : Run Cause State) (done : ℕ) (end : SymEnd) (old new : Runner) → state new ≡ state old → StandsAt g r done end old → StandsAt g r done end new
as_before g r done end old new same stands = record {
  done = stands.done;
  standing = stands.standing;
  place = stands.place ∙ ap (λ (s : State). s.place) (sym same);
  output = stands.output ∙ ap (λ (s : State). s.output) (sym same);
  going = λ e. stands.going e ∙ sym same;
}
