use Rattle.std.proofs.Common.{ℕ, List, ◌++◌, ◌∷◌, [], sym, ap, ◌∙◌, append_assoc}
use Rattle.new_edges.specs.Functions.{block_ids}
use Rattle.new_edges.proofs.FunctionEnds.{ids_more}
use Rattle.new_edges.proofs.functions.push_block_ids.Goals as goal
use Rattle.sym_expr.specs.Derived.{block_text, derived}

pub loop-k-preserved : goal.loop-k-preserved
loop-k-preserved c =
    let old = c.args.ids.now.items in
    let before = block_ids c.args.module.now c.args.function.now 0 c.loop-k.k in
    c.in_ok-push.ensures.items
    ∙ ap (λ l. l ++ c.in_ok-id.id ∷ []) c.loop-k.invariant
    ∙ append_assoc old before (c.in_ok-id.id ∷ [])
    ∙ ap (λ (x : List ℕ). old ++ (before ++ x ∷ [])) c.in_ok-id.ensures
    ∙ ap (λ (n : List ℕ). old ++ (before ++ derived c.args.module.now.uuid (block_text n c.loop-k.k) ∷ [])) c.as_str.ensures
    ∙ ap (λ l. old ++ l) (sym (ids_more c.args.module.now c.args.function.now c.loop-k.k))
