-- A run by its steps, as the runner does them.
use Rattle.std.proofs.Common.{◌≡◌, ℕ, ◌+◌, ◌-◌, ◌<◌, refl, sym, ap, ◌∙◌, add-one, arith}
use Rattle.a64_inst.specs.Runs.{answered, further, onward, run}
use Rattle.a64_inst.specs.RunLaws.{IsOver, composed, nothing_follows}
use Rattle.num_run.specs.declared.report.RunEnd.{RunEnd}
use Rattle.num_run.specs.declared.report.RunEnd.TheVariants.{Running, Exit, Trap}
use Rattle.num_run.specs.Machine.{Machine}
use Rattle.num_run.specs.Opened.{standing_at, so_far}
use Rattle.num_run.specs.Run.{step, end_of}
use Rattle.num_run.specs.Runner.{Comes}

-- a step as its answer tells
answered_so : (n : ℕ) (m new : Machine) (end : RunEnd) → Comes (step m) end new → answered (so_far n Running m) (step m) ≡ so_far (n + 1) end new
answered_so n m new Running comes = ap (answered (so_far n Running m)) comes
answered_so n m new (Exit status) comes = ap (answered (so_far n Running m)) comes
answered_so n m new (Trap why) comes = ap (answered (so_far n Running m)) comes

-- one step more
pub goes_on : (before done : ℕ) (old mid new : Machine) (end : RunEnd) → onward step done (so_far before Running old) ≡ so_far (before + done) Running mid → Comes (step mid) end new
    → onward step (done + 1) (so_far before Running old) ≡ so_far (before + (done + 1)) end new
unfolding onward
goes_on before done old mid new end reached comes =
    let count : before + done + 1 ≡ before + (done + 1) = omega arith in
    ap (λ (k : ℕ). onward step k (so_far before Running old)) (add-one done) ∙ ap (further step) reached ∙ answered_so (before + done) mid new end comes ∙ ap (λ (k : ℕ). so_far k end new) count

over_at : (end : RunEnd) → (end ≡ Running → ⊥) → IsOver (standing_at end)
over_at Running ends = absurd (ends refl)
over_at (Exit status) ends = tt
over_at (Trap why) ends = tt

-- nothing follows an end
pub stays_ended : (steps done : ℕ) (end : RunEnd) (m : Machine) → (end ≡ Running → ⊥) → onward step steps (so_far done end m) ≡ so_far done end m
stays_ended steps done end m ends = nothing_follows step steps (so_far done end m) (over_at end ends)

-- after the step that ends the run
pub stops : (before done steps : ℕ) (old new : Machine) (end : RunEnd) → done < steps → (end ≡ Running → ⊥) → onward step (done + 1) (so_far before Running old) ≡ so_far (before + (done + 1)) end new
    → onward step steps (so_far before Running old) ≡ so_far (before + (done + 1)) end new
stops before done steps old new end below ends reached =
    let all : done + 1 + (steps - (done + 1)) ≡ steps = omega arith in
    ap (λ (k : ℕ). onward step k (so_far before Running old)) (sym all) ∙ composed step (done + 1) (steps - (done + 1)) (so_far before Running old)
    ∙ ap (onward step (steps - (done + 1))) reached ∙ stays_ended (steps - (done + 1)) (before + (done + 1)) end new ends

-- so many steps more
pub further_on : (count steps done : ℕ) (start m : Machine) (end : RunEnd) → run step count start ≡ so_far done end m → run step (count + steps) start ≡ onward step steps (so_far done end m)
further_on count steps done start m end reached = composed step count steps (so_far 0 Running start) ∙ ap (onward step steps) reached

-- how a run stands that has come to an end
pub end_at : (end : RunEnd) → end_of (standing_at end) ≡ end
end_at Running = refl
end_at (Exit status) = refl
end_at (Trap why) = refl
