use Rattle.std.proofs.Common.{◌≡◌, ℕ, Bool, false, eqb, Option, sym, ap, ◌∙◌, inl, inr, arith}
use Rattle.std.proofs.lemmas.Bool.{eq-eqb}
use Rattle.std.proofs.lemmas.Bool.Decides.{eqb_tells}
use Rattle.node_arena.specs.declared.ids.BlockId.{BlockId}
use Rattle.node_arena.specs.Changes.{placed_after}
use Rattle.node_arena.proofs.Inserted.{inserted_last, others_none, others_more, others_found}
use Rattle.node_arena.proofs.Joining.{place_of, joins_last}
use Rattle.node_arena.proofs.holding.place_after.Goals as goal

other : (a b : ℕ) → (a ≡ b → ⊥) → eqb a b ≡ false
other a b n = elim (eqb_tells a b) [ inl same ↦ absurd (n same.1) | inr apart ↦ apart.0 ]

pub loop-k-preserved : goal.loop-k-preserved
loop-k-preserved c = λ id.
    sym (others_more c.in-Some.after (record { index = 0 }) c.args.ids.now c.loop-k.k id c.loop-k-test.true (other _ _ c.if-id-after.false)) ∙ c.loop-k.invariant id

pub returns-then-id-after-clause-place : goal.returns-then-id-after-clause-place
returns-then-id-after-clause-place c = λ id.
    sym (others_found c.in-Some.after (record { index = 0 }) c.args.ids.now c.loop-k.k id c.loop-k-test.true (eq-eqb _ _ c.if-id-after.true))
    ∙ c.loop-k.invariant id ∙ ap (λ (o : Option BlockId). placed_after c.args.ids.now o id) (sym c.in-Some.is)

pub returns-in-None-clause-place : goal.returns-in-None-clause-place
returns-in-None-clause-place c = λ id. inserted_last c.args.ids.now id ∙ ap (λ (o : Option BlockId). placed_after c.args.ids.now o id) (sym c.in-None.is)
