use Rattle.std.proofs.Common.{ℕ, List, ◌++◌, ◌∷◌, [], sym, ap, ◌∙◌, append_assoc}
use Rattle.taken_ids.specs.Identifiers.{block_ids}
use Rattle.taken_ids.proofs.Counts.{block_ids_more}
use Rattle.taken_ids.proofs.functions.push_blocks.Goals as goal

pub loop-k-preserved : goal.loop-k-preserved
loop-k-preserved c =
    let old = c.args.out.now.items in
    let before = block_ids c.args.module.now c.args.name.now 0 c.loop-k.k in
    c.in_ok-push.ensures.items
    ∙ ap (λ l. l ++ c.in_ok-id.id ∷ []) c.loop-k.invariant
    ∙ append_assoc old before (c.in_ok-id.id ∷ [])
    ∙ ap (λ (x : List ℕ). old ++ (before ++ x ∷ [])) c.in_ok-id.ensures
    ∙ ap (λ l. old ++ l) (sym (block_ids_more c.args.module.now c.args.name.now c.loop-k.k))
