use Rattle.std.proofs.Common.{◌≡◌, ◌<◌, ◌+◌, ℕ, suc, List, [], ◌∷◌, ◌++◌, length, get_or, drop, sym, ap, subst, ◌∙◌, add-one, append_assoc, append-nil, arith}
use Rattle.std.proofs.lemmas.List.{at_drop_all, at_drop_more}
use Rattle.gt_model.specs.declared.modules.Module.{Module}
use Rattle.sym_expr.specs.declared.patches.Function.{Function}
use Rattle.sym_expr.specs.declared.patches.PatchWord.{PatchWord}
use Rattle.sym_expr.specs.Derived.{block_text, derived}
use Rattle.sym_expr.specs.Patches.{function_blocks}
use Rattle.sym_expr.specs.TableOk.{block_ids}
use Rattle.sym_expr.specs.Targets.{function_block_id}
use Rattle.moved_modules.proofs.functions.block_ids.Goals as goal

one_more : (m : Module) (f : Function) (ids all : List (List ℕ)) (id : List ℕ) (k : ℕ) (bs : List (List PatchWord)) → k < length bs → id ≡ function_block_id m f k
    → ids ++ block_ids m f k (drop k bs) ≡ all → (ids ++ id ∷ []) ++ block_ids m f (k + 1) (drop (k + 1) bs) ≡ all
one_more m f ids all id k bs within is whole =
    ap (λ (n : ℕ). (ids ++ id ∷ []) ++ block_ids m f n (drop (k + 1) bs)) (add-one k)
    ∙ append_assoc ids (id ∷ []) (block_ids m f (suc k) (drop (k + 1) bs))
    ∙ ap (λ (x : List ℕ). ids ++ x ∷ block_ids m f (suc k) (drop (k + 1) bs)) is
    ∙ ap (λ (l : List (List ℕ)). ids ++ l) (sym (at_drop_more (block_ids m f k) bs k [] within))
    ∙ whole

all_there : (m : Module) (f : Function) (ids all : List (List ℕ)) (k : ℕ) (bs : List (List PatchWord)) → k ≡ length bs → ids ++ block_ids m f k (drop k bs) ≡ all → ids ≡ all
all_there m f ids all k bs end whole =
    sym (append-nil ids) ∙ ap (λ (l : List (List ℕ)). ids ++ l) (sym (at_drop_all (block_ids m f k) bs k (omega (arith, end)))) ∙ whole

pub loop-k-preserved : goal.loop-k-preserved
loop-k-preserved c =
    let m = c.args.module.now in
    let f = c.args.function.now in
    let bs = function_blocks f in
    ap (λ (l : List (List ℕ)). l ++ block_ids m f (c.loop-k.k + 1) (drop (c.loop-k.k + 1) bs)) c.in_ok-push.ensures.items
    ∙ one_more m f c.loop-k.ids.items (block_ids m f 0 bs) c.in_ok-id.id c.loop-k.k bs (omega (arith, c.loop-k-test.true, c.block_count-k-end.ensures)) (c.in_ok-id.ensures ∙ ap (λ (n : List ℕ). derived m.uuid (block_text n c.loop-k.k)) c.as_str-name.ensures) c.loop-k.invariant
