-- Laws of runs over any step.
use Rattle.std.specs.Prelude.{◌≡◌, ℕ, zero, suc, ◌+◌, ◌≤◌, refl}
use Rattle.std.proofs.Common.{ap, subst, ◌∙◌, sym, add-zero, add-one, add-suc, add_assoc, le_refl, le-add_right}
use Rattle.std.proofs.Math.Nat.{le_trans, add-le-add}
use Rattle.a64_inst.specs.Domain.{Answer, next, ended, stuck}
use Rattle.a64_inst.specs.Runs.{Standing, going, over, halted, Run, answered, moved, further, onward}

-- a run goes on no more
abbrev pub IsOver : {C : Type 0} → Standing C → Type 0
IsOver going = ⊥
IsOver (over event) = Unit {0}
IsOver (halted cause) = Unit {0}

stays : {C S : Type 0} (standing : Standing C) (step : S → Answer C S S) (r : Run C S) → IsOver standing → moved standing step r ≡ r
stays going step r is_over = absurd is_over
stays (over event) step r is_over = refl
stays (halted cause) step r is_over = refl

-- nothing changes after an end
pub nothing_follows : {C S : Type 0} (step : S → Answer C S S) (n : ℕ) (r : Run C S) → IsOver r.standing → onward step n r ≡ r
unfolding onward
nothing_follows step zero r is_over = refl
nothing_follows step (suc n) r is_over = ap (further step) (nothing_follows step n r is_over) ∙ stays r.standing step r is_over

-- n and then m steps are n + m steps
pub composed : {C S : Type 0} (step : S → Answer C S S) (n m : ℕ) (r : Run C S) → onward step (n + m) r ≡ onward step m (onward step n r)
unfolding onward
composed step n zero r = ap (λ (k : ℕ). onward step k r) (add-zero n)
composed {C} {S} step n (suc m) r =
    let one_more : onward step (n + suc m) r ≡ further step (onward step (n + m) r) = ap (λ (k : ℕ). onward step k r) (add-suc n m) in
    one_more ∙ ap (further step) (composed step n m r)

-- a run that has ended after n steps stands so after more
pub end_stays : {C S : Type 0} (step : S → Answer C S S) (n m : ℕ) (r : Run C S) → IsOver (onward step n r).standing → onward step (n + m) r ≡ onward step n r
end_stays step n m r is_over = composed step n m r ∙ nothing_follows step m (onward step n r) is_over

answered_most : {C S : Type 0} (answer : Answer C S S) (r : Run C S) → (answered r answer).done ≤ r.done + 1
answered_most (next state) r = le_refl (r.done + 1)
answered_most (ended event state) r = le_refl (r.done + 1)
answered_most (stuck cause) r = le-add_right r.done 1

moved_most : {C S : Type 0} (standing : Standing C) (step : S → Answer C S S) (r : Run C S) → (moved standing step r).done ≤ r.done + 1
moved_most going step r = answered_most (step r.state) r
moved_most (over event) step r = le-add_right r.done 1
moved_most (halted cause) step r = le-add_right r.done 1

one_more : (a n : ℕ) → a + n + 1 ≡ a + suc n
one_more a n = add_assoc a n 1 ∙ ap (λ (k : ℕ). a + k) (add-one n)

-- no more than n instructions are done in n steps
pub done_most : {C S : Type 0} (step : S → Answer C S S) (n : ℕ) (r : Run C S) → (onward step n r).done ≤ r.done + n
unfolding onward
done_most step zero r = le-add_right r.done 0
done_most step (suc n) r =
    let before = onward step n r in
    let both : before.done + 1 ≤ r.done + n + 1 = add-le-add (done_most step n r) (le_refl 1) in
    let all : before.done + 1 ≤ r.done + suc n = subst (λ (k : ℕ). before.done + 1 ≤ k) (one_more r.done n) both in
    le_trans (moved_most before.standing step before) all

answered_counts : {C S : Type 0} (answer : Answer C S S) (r : Run C S) → (answered r answer).standing ≡ going → (answered r answer).done ≡ r.done + 1
answered_counts (next state) r goes = refl
answered_counts {C} {S} (ended event state) r goes = absurd (subst (λ (x : Standing C). IsOver x) goes tt)
answered_counts {C} {S} (stuck cause) r goes = absurd (subst (λ (x : Standing C). IsOver x) goes tt)

moved_counts : {C S : Type 0} (standing : Standing C) (step : S → Answer C S S) (r : Run C S) (most : ℕ) → r.standing ≡ standing → (r.standing ≡ going → r.done ≡ most)
    → (moved standing step r).standing ≡ going → (moved standing step r).done ≡ most + 1
moved_counts going step r most is counts goes = answered_counts (step r.state) r goes ∙ ap (λ (k : ℕ). k + 1) (counts is)
moved_counts {C} {S} (over event) step r most is counts goes = absurd (subst (λ (x : Standing C). IsOver x) (sym is ∙ goes) tt)
moved_counts {C} {S} (halted cause) step r most is counts goes = absurd (subst (λ (x : Standing C). IsOver x) (sym is ∙ goes) tt)

-- while a run goes on, each step is done
pub going_counts : {C S : Type 0} (step : S → Answer C S S) (n : ℕ) (r : Run C S) → (onward step n r).standing ≡ going → (onward step n r).done ≡ r.done + n
unfolding onward
going_counts step zero r goes = sym (add-zero r.done)
going_counts step (suc n) r goes =
    let before = onward step n r in
    moved_counts before.standing step before (r.done + n) refl (going_counts step n r) goes ∙ one_more r.done n
