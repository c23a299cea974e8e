use Rattle.std.proofs.Common.{◌≡◌, ◌≢◌, ◌∷◌, ◌∙◌, ap, List, ℕ}
use Rattle.asm_read.proofs.Quoting.{reads_one, reads_two}
use Rattle.asm_read.proofs.words.split_quoted.Goals as goal

pub loop-first-preserved-then-first-eq92 : goal.loop-first-preserved-then-first-eq92
loop-first-preserved-then-first-eq92 c =
    let two : c.loop-first.rest.now ≡ 92 ∷ c.in_ok-after.field-0-0.now ∷ c.in_ok-after.after.now = c.in-Some.ensures.cases.0 ∙ ap (λ (n : ℕ). n ∷ c.in-Some.behind.now) c.if-first-eq92.true ∙ ap (λ (r : List ℕ). 92 ∷ r) c.in_ok-after.ensures.cases.0 in
    reads_two c.args.text.now c.loop-first.rest.now c.in_ok-after.after.now c.loop-first.invariant c.in_ok-after.field-0-0.now two

pub loop-first-preserved : goal.loop-first-preserved
loop-first-preserved c =
    reads_one c.args.text.now c.loop-first.rest.now c.in-Some.behind.now c.loop-first.invariant c.in-Some.first.now c.in-Some.ensures.cases.0 c.if-first-eq34.false c.if-first-eq92.false
